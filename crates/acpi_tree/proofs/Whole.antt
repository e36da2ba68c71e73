-- Each structure of a graph is in its tree exactly once in full.
use Rattle.std.proofs.Common.{◌≡◌, ◌⊎◌, ℕ, zero, suc, ◌+◌, ◌-◌, ◌<◌, ◌≤◌, ◌==◌, nat_lt, ◌&&◌, ◌||◌, Bool, true, false, List, [], ◌∷◌, ◌++◌, length, refl, sym, ap, subst, ◌∙◌, append_assoc, arith, inl, inr}
use Rattle.std.proofs.lemmas.Bool.{eq-eqb, eqb-true}
use Rattle.std.proofs.lemmas.List.{append-nil}
use Rattle.std.specs.Prelude.{if◌then◌else◌}
use Rattle.acpi_tree.proofs.Visits.{visit_seen, visit_first}
use Rattle.acpi_tree.specs.Graph.{targets}
use Rattle.acpi_tree.specs.Tree.{line, has_full, walk, visit, levels, visit_new, places_from, roots_from, tree_lines}
use Rattle.acpi_tree.specs.Laws.{times, TreesAreWhole}
use Rattle.acpi_tree.specs.declared.graph.Edge.{Edge}
use Rattle.acpi_tree.specs.declared.graph.Node.{Node}
use Rattle.acpi_tree.specs.declared.tree.Line.{Line}

-- ---- lines that show a structure in full

both_times : (c : Bool) (x y z : ℕ) → x ≡ y + z → (if c then suc x else x) ≡ (if c then suc y else y) + z
both_times true x y z is = omega (arith, is)
both_times false x y z is = is

times_append : (a b : List Line) (i : ℕ) → times (a ++ b) i ≡ times a i + times b i
times_append [] b i = omega arith
times_append (one ∷ a) b i = both_times (one.full && (one.index == i)) (times (a ++ b) i) (times a i) (times b i) (times_append a b i)

none_by : (c h : Bool) (n : ℕ) → (c || h) ≡ false → (h ≡ false → n ≡ 0) → (if c then suc n else n) ≡ 0
none_by true h n unseen rest = absurd (cc (unseen))
none_by false h n unseen rest = rest unseen

none_times : (l : List Line) (i : ℕ) → has_full l i ≡ false → times l i ≡ 0
none_times [] i unseen = refl
none_times (one ∷ l) i unseen = none_by (one.full && (one.index == i)) (has_full l i) (times l i) unseen (none_times l i)

some_by : (c h : Bool) (n : ℕ) → (c || h) ≡ true → (h ≡ true → 1 ≤ n) → 1 ≤ (if c then suc n else n)
some_by true h n shows rest = omega arith
some_by false h n shows rest = rest shows

some_times : (l : List Line) (i : ℕ) → has_full l i ≡ true → 1 ≤ times l i
some_times [] i shows = absurd (cc (shows))
some_times (one ∷ l) i shows = some_by (one.full && (one.index == i)) (has_full l i) (times l i) shows (some_times l i)

or_then : (c h g : Bool) → (c || h) ≡ true → (h ≡ true → g ≡ true) → (c || g) ≡ true
or_then true h g shows rest = refl
or_then false h g shows rest = rest shows

or_after : (c h : Bool) → h ≡ true → (c || h) ≡ true
or_after true h shows = refl
or_after false h shows = shows

full_left : (a b : List Line) (i : ℕ) → has_full a i ≡ true → has_full (a ++ b) i ≡ true
full_left [] b i shows = absurd (cc (shows))
full_left (one ∷ a) b i shows =
    or_then (one.full && (one.index == i)) (has_full a i) (has_full (a ++ b) i) shows (full_left a b i)

full_right : (a b : List Line) (i : ℕ) → has_full b i ≡ true → has_full (a ++ b) i ≡ true
full_right [] b i shows = shows
full_right (one ∷ a) b i shows = or_after (one.full && (one.index == i)) (has_full (a ++ b) i) (full_right a b i shows)

own_full : (d i : ℕ) (l : List Line) → has_full (line d i true ∷ l) i ≡ true
own_full d i l = ap (λ (c : Bool). (true && c) || has_full l i) (eq-eqb i i refl)

-- ---- at most once

abbrev AtMostOnce : List Line → Type 0
AtMostOnce lines = (i : ℕ) → times lines i ≤ 1

-- what is added keeps this
abbrev Keeps : (List Line → ℕ → List Line) → Type 0
Keeps V = (done : List Line) (i : ℕ) → AtMostOnce done → AtMostOnce (done ++ V done i)

walk_keeps : (V : List Line → ℕ → List Line) → Keeps V → (done : List Line) (places : List ℕ) → AtMostOnce done
    → AtMostOnce (done ++ walk V done places)
walk_keeps V keeps done [] once = subst AtMostOnce (sym (append-nil done)) once
walk_keeps V keeps done (p ∷ places) once =
    subst AtMostOnce (append_assoc done (V done p) (walk V (done ++ V done p) places))
    (walk_keeps V keeps (done ++ V done p) places (keeps done p once))

times_seen : (d j i : ℕ) → times (line d j false ∷ []) i ≡ 0
times_seen d j i = refl

seen_keeps : (done : List Line) (d j : ℕ) → AtMostOnce done → AtMostOnce (done ++ line d j false ∷ [])
seen_keeps done d j once = λ i.
    let sum = times_append done (line d j false ∷ []) i in
    let none = times_seen d j i in
    let least = once i in omega (arith, sum, none, least)

own_times : (c : Bool) (j i n : ℕ) → (j == i) ≡ c → (j ≡ i → n ≡ 0) → n ≤ 1 → n + (if c then 1 else 0) ≤ 1
own_times true j i n is rest most = let none = rest (eqb-true j i is) in omega (arith, none)
own_times false j i n is rest most = omega (arith, most)

full_keeps : (done : List Line) (d j : ℕ) → has_full done j ≡ false → AtMostOnce done → AtMostOnce (done ++ line d j true ∷ [])
full_keeps done d j unseen once = λ i.
    let sum : times (done ++ line d j true ∷ []) i ≡ times done i + (if j == i then 1 else 0)
    = times_append done (line d j true ∷ []) i
    in
    let most = own_times (j == i) j i (times done i) refl (λ same. subst (λ k. times done k ≡ 0) same (none_times done j unseen)) (once i) in
    omega (arith, sum, most)

visit_by : (nodes : List Node) (edges : List Edge) (n d : ℕ) → Keeps (visit nodes edges n (d + 1)) → (done : List Line) (j : ℕ) (seen : Bool)
    → has_full done j ≡ seen → AtMostOnce done
    → AtMostOnce (done ++ (if seen then line d j false ∷ []
    else line d j true ∷ walk (visit nodes edges n (d + 1)) (done ++ line d j true ∷ []) (targets nodes edges j)))
visit_by nodes edges n d keeps done j true seen once = seen_keeps done d j once
visit_by nodes edges n d keeps done j false seen once =
    let one = line d j true ∷ [] in
    subst AtMostOnce (append_assoc done one (walk (visit nodes edges n (d + 1)) (done ++ one) (targets nodes edges j)))
    (walk_keeps (visit nodes edges n (d + 1)) keeps (done ++ one) (targets nodes edges j) (full_keeps done d j seen once))

visit_keeps : (nodes : List Node) (edges : List Edge) (n d : ℕ) → Keeps (visit nodes edges n d)
visit_keeps nodes edges zero d done j once = subst AtMostOnce (sym (append-nil done)) once
visit_keeps nodes edges (suc n) d done j once =
    visit_by nodes edges n d (visit_keeps nodes edges n (d + 1)) done j (has_full done j) refl once

new_by : (nodes : List Node) (edges : List Edge) (done : List Line) (j : ℕ) (seen : Bool) → AtMostOnce done
    → AtMostOnce (done ++ (if seen then [] else visit nodes edges (levels nodes) 0 done j))
new_by nodes edges done j true once = subst AtMostOnce (sym (append-nil done)) once
new_by nodes edges done j false once = visit_keeps nodes edges (levels nodes) 0 done j once

new_keeps : (nodes : List Node) (edges : List Edge) → Keeps (visit_new nodes edges)
new_keeps nodes edges done j once = new_by nodes edges done j (has_full done j) once

-- ---- at least once

new_shows_by : (nodes : List Node) (edges : List Edge) (done : List Line) (j : ℕ) (seen : Bool) → has_full done j ≡ seen → 1 ≤ levels nodes
    → has_full (done ++ (if seen then [] else visit nodes edges (levels nodes) 0 done j)) j ≡ true
new_shows_by nodes edges done j true seen some = full_left done [] j seen
new_shows_by nodes edges done j false seen some =
    let all = walk (visit nodes edges (levels nodes - 1) (0 + 1)) (done ++ line 0 j true ∷ []) (targets nodes edges j) in
    ap (λ (l : List Line). has_full (done ++ l) j) (visit_first nodes edges (levels nodes) 0 done j some seen)
    ∙ full_right done (line 0 j true ∷ all) j (own_full 0 j all)

new_shows : (nodes : List Node) (edges : List Edge) (done : List Line) (j : ℕ) → 1 ≤ levels nodes
    → has_full (done ++ visit_new nodes edges done j) j ≡ true
new_shows nodes edges done j some = new_shows_by nodes edges done j (has_full done j) refl some

some_levels : (few : Bool) (n : ℕ) → 1 ≤ n → 1 ≤ (if few then n else 255)
some_levels true n some = some
some_levels false n some = omega arith

some_level : (nodes : List Node) → 1 ≤ length nodes → 1 ≤ levels nodes
some_level nodes some = some_levels (nat_lt (length nodes) 255) (length nodes) some

abbrev IsAmong : ℕ → List ℕ → Type 0
IsAmong j [] = ⊥
IsAmong j (p ∷ places) = (p ≡ j) ⊎ IsAmong j places

walk_shows : (nodes : List Node) (edges : List Edge) → 1 ≤ levels nodes → (done : List Line) (places : List ℕ) (j : ℕ) → IsAmong j places
    → has_full (done ++ walk (visit_new nodes edges) done places) j ≡ true
walk_shows nodes edges some done [] j among = absurd among
walk_shows nodes edges some done (p ∷ places) j (inl is) =
    let V = visit_new nodes edges in
    let rest = walk V (done ++ V done p) places in
    let here : has_full (done ++ V done p) j ≡ true
    = subst (λ k. has_full (done ++ V done p) k ≡ true) is (new_shows nodes edges done p some)
    in
    ap (λ (l : List Line). has_full l j) (sym (append_assoc done (V done p) rest)) ∙ full_left (done ++ V done p) rest j here
walk_shows nodes edges some done (p ∷ places) j (inr more) =
    let V = visit_new nodes edges in
    let rest = walk V (done ++ V done p) places in
    ap (λ (l : List Line). has_full l j) (sym (append_assoc done (V done p) rest))
    ∙ walk_shows nodes edges some (done ++ V done p) places j more

among_right : (j : ℕ) (a b : List ℕ) → IsAmong j b → IsAmong j (a ++ b)
among_right j [] b is = is
among_right j (p ∷ a) b is = inr (among_right j a b is)

among_all : (k : ℕ) (nodes : List Node) (j : ℕ) → j < length nodes → IsAmong (k + j) (places_from k nodes)
among_all k [] j inside = absurd (omega (arith, inside))
among_all k (node ∷ nodes) zero inside = let here : k ≡ k + zero = omega arith in inl here
among_all k (node ∷ nodes) (suc j) inside =
    let next : suc k + j ≡ k + suc j = omega arith in
    inr (subst (λ p. IsAmong p (places_from (suc k) nodes)) next (among_all (suc k) nodes j (omega (arith, inside))))

pub trees_are_whole : TreesAreWhole
trees_are_whole nodes edges j inside =
    let order = roots_from 0 edges nodes ++ places_from 0 nodes in
    let none : AtMostOnce [] = λ i. omega arith in
    let most = walk_keeps (visit_new nodes edges) (new_keeps nodes edges) [] order none j in
    let from_zero : 0 + j ≡ j = omega arith in
    let among = subst (λ p. IsAmong p (places_from 0 nodes)) from_zero (among_all 0 nodes j inside) in
    let least = some_times (tree_lines nodes edges) j
    (walk_shows nodes edges (some_level nodes (omega (arith, inside))) [] order j (among_right j (roots_from 0 edges nodes) (places_from 0 nodes) among)) in
    omega (arith, most, least)
