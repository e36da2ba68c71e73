-- Texts that are told of lists, and pieces of text one after another.
use Rattle.std.proofs.Common.{◌≡◌, ℕ, zero, suc, ◌+◌, ◌<◌, ◌≤◌, List, [], ◌∷◌, ◌++◌, length, get_or, drop, refl, sym, ap, ◌∙◌, append_assoc, arith, add-one, drop-cons}
use Rattle.std.proofs.lemmas.List.{append-nil, nil_from_length, length-drop}
use Rattle.acpi_read.specs.Lines.{indent}

pub dropped : {X : Type 0} (xs : List X) (i : ℕ) (x : X) → i < length xs → x ≡ get_or xs i x → drop i xs ≡ x ∷ drop (i + 1) xs
dropped xs i x inside is = drop-cons xs i x inside ∙ rw (add-one, ← is) refl

pub past : {X : Type 0} (xs : List X) (i : ℕ) → length xs ≤ i → drop i xs ≡ []
past xs i all = nil_from_length (drop i xs) (omega (arith, length-drop i xs))

-- ---- loops that write a text for each of a list

-- as far as i
pub record Goes {X : Type 0} (each : List X → List ℕ) (xs : List X) (i : ℕ) (old now : List ℕ) : Type 0 where
  pub parts : now ++ each (drop i xs) ≡ old ++ each xs

pub goes_start : {X : Type 0} (each : List X → List ℕ) (xs : List X) (old : List ℕ) → Goes each xs 0 old old
goes_start each xs old = record { parts = refl }

module _ {X : Type 0} (each : List X → List ℕ) (xs : List X) (i : ℕ) (old now : List ℕ) (g : Goes each xs i old now) where
  go : (x : X) (one new : List ℕ) → drop i xs ≡ x ∷ drop (i + 1) xs → each (x ∷ drop (i + 1) xs) ≡ one ++ each (drop (i + 1) xs) → new ≡ now ++ one → Goes each xs (i + 1) old new
  go x one new is step added =
      let rest = each (drop (i + 1) xs) in
      record {
        parts = ap (λ (l : List ℕ). l ++ rest) added ∙ append_assoc now one rest ∙ ap (λ (l : List ℕ). now ++ l) (sym step) ∙ ap (λ (l : List X). now ++ each l) (sym is) ∙ g.parts;
      }

  pub goes_on : (x : X) (one new : List ℕ) → i < length xs → x ≡ get_or xs i x → each (x ∷ drop (i + 1) xs) ≡ one ++ each (drop (i + 1) xs) → new ≡ now ++ one → Goes each xs (i + 1) old new
  goes_on x one new inside is = go x one new (dropped xs i x inside is)

  pub goes_done : each [] ≡ [] → length xs ≤ i → now ≡ old ++ each xs
  goes_done none all = sym (append-nil now) ∙ ap (λ (l : List ℕ). now ++ l) (sym none) ∙ ap (λ (l : List X). now ++ each l) (sym (past xs i all)) ∙ g.parts

-- the same for bytes
module _ (each : List ℕ → List ℕ) (xs : List ℕ) (i : ℕ) (old now : List ℕ) (g : Goes each xs i old now) where
  pub bytes_go_on : (one new : List ℕ) → i < length xs → each (get_or xs i 0 ∷ drop (i + 1) xs) ≡ one ++ each (drop (i + 1) xs) → new ≡ now ++ one → Goes each xs (i + 1) old new
  bytes_go_on one new inside = go each xs i old now g (get_or xs i 0) one new (drop-cons xs i 0 inside ∙ rw add-one refl)

-- ---- pieces one after another

pub after_two : (old a b mid new : List ℕ) → mid ≡ old ++ a → new ≡ mid ++ b → new ≡ old ++ (a ++ b)
after_two old a b mid new p q = q ∙ ap (λ (l : List ℕ). l ++ b) p ∙ append_assoc old a b

pub after_three : (old a b c mid more new : List ℕ) → mid ≡ old ++ a → more ≡ mid ++ b → new ≡ more ++ c → new ≡ old ++ ((a ++ b) ++ c)
after_three old a b c mid more new p q r = after_two old (a ++ b) c more new (after_two old a b mid more p q) r

pub after_four : (old a b c d one two three new : List ℕ) → one ≡ old ++ a → two ≡ one ++ b → three ≡ two ++ c → new ≡ three ++ d → new ≡ old ++ (((a ++ b) ++ c) ++ d)
after_four old a b c d one two three new p q r s = after_two old ((a ++ b) ++ c) d three new (after_three old a b c one two three p q r) s

-- ---- indentations

joined : (d k : ℕ) → indent (d + k) ≡ indent d ++ indent k
joined zero k = ap indent (let e : 0 + k ≡ k = omega arith in e)
joined (suc d) k = (let e : suc d + k ≡ suc (d + k) = omega arith in ap indent e) ∙ ap (λ (l : List ℕ). 32 ∷ 32 ∷ l) (joined d k)

pub indent_more : (d k n : ℕ) (old now new : List ℕ) → d + k ≡ n → now ≡ old ++ indent d → new ≡ now ++ indent k → new ≡ old ++ indent n
indent_more d k n old now new total is added =
    added ∙ ap (λ (l : List ℕ). l ++ indent k) is ∙ append_assoc old (indent d) (indent k) ∙ ap (λ (l : List ℕ). old ++ l) (sym (joined d k) ∙ ap indent total)
