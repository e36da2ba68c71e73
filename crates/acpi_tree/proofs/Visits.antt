-- The steps of a tree.
use Rattle.std.proofs.Common.{◌≡◌, ℕ, zero, suc, ◌+◌, ◌-◌, ◌<◌, ◌≤◌, true, false, List, [], ◌∷◌, ◌++◌, length, get_or, drop, refl, sym, ap, ◌∙◌, append_assoc, arith, add-one, drop-cons}
use Rattle.std.proofs.lemmas.List.{append-nil, nil_from_length, length-drop}
use Rattle.std.specs.Prelude.{if◌then◌else◌}
use Rattle.acpi_tree.specs.Graph.{targets}
use Rattle.acpi_tree.specs.Spaces.{spaces}
use Rattle.acpi_tree.specs.Tree.{line, has_full, walk, visit, places_from}
use Rattle.acpi_tree.specs.declared.graph.Edge.{Edge}
use Rattle.acpi_tree.specs.declared.graph.Node.{Node}
use Rattle.acpi_tree.specs.declared.tree.Line.{Line}

-- one level less is left below a structure
visit_step : (nodes : List Node) (edges : List Edge) (n d : ℕ) (done : List Line) (i : ℕ) → 1 ≤ n → visit nodes edges n d done i
    ≡ (if has_full done i then line d i false ∷ []
    else line d i true ∷ walk (visit nodes edges (n - 1) (d + 1)) (done ++ line d i true ∷ []) (targets nodes edges i))
visit_step nodes edges zero d done i some = absurd (omega (arith, some))
visit_step nodes edges (suc n) d done i some =
    let less : n ≡ suc n - 1 = omega arith in
    ap
    (λ (k : ℕ).
    if has_full done i then line d i false ∷ []
    else line d i true ∷ walk (visit nodes edges k (d + 1)) (done ++ line d i true ∷ []) (targets nodes edges i))
    less

-- a structure that was shown, and one that wasn't
pub visit_seen : (nodes : List Node) (edges : List Edge) (n d : ℕ) (done : List Line) (i : ℕ) → 1 ≤ n → has_full done i ≡ true
    → visit nodes edges n d done i ≡ line d i false ∷ []
visit_seen nodes edges n d done i some seen = visit_step nodes edges n d done i some ∙ rw seen refl

pub visit_first : (nodes : List Node) (edges : List Edge) (n d : ℕ) (done : List Line) (i : ℕ) → 1 ≤ n → has_full done i ≡ false
    → visit nodes edges n d done i
    ≡ line d i true ∷ walk (visit nodes edges (n - 1) (d + 1)) (done ++ line d i true ∷ []) (targets nodes edges i)
visit_first nodes edges n d done i some seen = visit_step nodes edges n d done i some ∙ rw seen refl

pub first_written : (nodes : List Node) (edges : List Edge) (n d : ℕ) (old one new : List Line) (i : ℕ) → 1 ≤ n → has_full old i ≡ false
    → one ≡ old ++ line d i true ∷ [] → new ≡ one ++ walk (visit nodes edges (n - 1) (d + 1)) one (targets nodes edges i)
    → new ≡ old ++ visit nodes edges n d old i
first_written nodes edges n d old one new i some seen own below =
    let W : List Line → List Line = λ l. walk (visit nodes edges (n - 1) (d + 1)) l (targets nodes edges i) in
    below ∙ ap (λ (l : List Line). l ++ W l) own ∙ append_assoc old (line d i true ∷ []) (W (old ++ line d i true ∷ []))
    ∙ ap (λ (l : List Line). old ++ l) (sym (visit_first nodes edges n d old i some seen))

-- ---- places, one after another

module _ (V : List Line → ℕ → List Line) (places : List ℕ) (k : ℕ) where
  pub walk_on : (old now new : List Line) (place : ℕ) → k < length places → place ≡ get_or places k place
      → now ++ walk V now (drop k places) ≡ old ++ walk V old places → new ≡ now ++ V now place
      → new ++ walk V new (drop (k + 1) places) ≡ old ++ walk V old places
  walk_on old now new place inside is so_far added =
      let rest = drop (k + 1) places in
      let one = V now place in
      let front : drop k places ≡ place ∷ rest = drop-cons places k place inside ∙ rw (add-one, ← is) refl in
      ap (λ (l : List Line). l ++ walk V l rest) added
      ∙ append_assoc now one (walk V (now ++ one) rest)
      ∙ ap (λ (l : List ℕ). now ++ walk V now l) (sym front)
      ∙ so_far

  pub walk_done : (old now : List Line) → length places ≤ k → now ++ walk V now (drop k places) ≡ old ++ walk V old places
      → now ≡ old ++ walk V old places
  walk_done old now all so_far =
      let none : drop k places ≡ [] = nil_from_length (drop k places) (omega (arith, length-drop k places)) in
      sym (append-nil now) ∙ ap (λ (l : List ℕ). now ++ walk V now l) (sym none) ∙ so_far

-- ---- spaces

pub spaces_step : (n : ℕ) → 1 ≤ n → spaces n ≡ 32 ∷ 32 ∷ spaces (n - 1)
spaces_step zero some = absurd (omega (arith, some))
spaces_step (suc n) some = let less : n ≡ suc n - 1 = omega arith in ap (λ (k : ℕ). 32 ∷ 32 ∷ spaces k) less

pub spaces_written : (n : ℕ) (old one new : List ℕ) → 1 ≤ n → one ≡ old ++ 32 ∷ 32 ∷ [] → new ≡ one ++ spaces (n - 1) → new ≡ old ++ spaces n
spaces_written n old one new some first rest =
    rest ∙ ap (λ (l : List ℕ). l ++ spaces (n - 1)) first ∙ append_assoc old (32 ∷ 32 ∷ []) (spaces (n - 1))
    ∙ ap (λ (l : List ℕ). old ++ l) (sym (spaces_step n some))

-- ---- places of all structures

pub places_next : (k i : ℕ) (nodes : List Node) → i < length nodes
    → places_from k (drop i nodes) ≡ k ∷ places_from (suc k) (drop (i + 1) nodes)
places_next k i [] inside = absurd (omega (arith, inside))
places_next k zero (node ∷ nodes) inside = refl
places_next k (suc i) (node ∷ nodes) inside =
    let next : suc (i + 1) ≡ suc i + 1 = omega arith in
    places_next k i nodes (omega (arith, inside)) ∙ ap (λ (n : ℕ). k ∷ places_from (suc k) (drop n (node ∷ nodes))) next

pub places_on : (k i : ℕ) (nodes : List Node) (old now new : List ℕ) → i < length nodes → k ≡ i
    → now ++ places_from k (drop i nodes) ≡ old ++ places_from 0 nodes → new ≡ now ++ k ∷ []
    → new ++ places_from (k + 1) (drop (i + 1) nodes) ≡ old ++ places_from 0 nodes
places_on k i nodes old now new inside same so_far added =
    let rest = places_from (suc k) (drop (i + 1) nodes) in
    let next : k + 1 ≡ suc k = omega arith in
    ap (λ (l : List ℕ). l ++ places_from (k + 1) (drop (i + 1) nodes)) added
    ∙ ap (λ (n : ℕ). (now ++ k ∷ []) ++ places_from n (drop (i + 1) nodes)) next
    ∙ append_assoc now (k ∷ []) rest
    ∙ ap (λ (l : List ℕ). now ++ l) (sym (places_next k i nodes inside))
    ∙ so_far
