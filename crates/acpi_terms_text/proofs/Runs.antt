-- Loops that add something for each of a list.
use Rattle.std.proofs.Common.{◌≡◌, ℕ, ◌+◌, ◌<◌, ◌≤◌, List, [], ◌∷◌, ◌++◌, length, get_or, drop, refl, sym, ap, ◌∙◌, append_assoc}
use Rattle.std.proofs.lemmas.List.{append-nil}
use Rattle.acpi_read.proofs.Texts.{dropped, past}

-- as far as i
pub record Runs {X Y : Type 0} (each : List X → List Y) (xs : List X) (i : ℕ) (old now : List Y) : Type 0 where
  pub parts : now ++ each (drop i xs) ≡ old ++ each xs

pub runs_start : {X Y : Type 0} (each : List X → List Y) (xs : List X) (old : List Y) → Runs each xs 0 old old
runs_start each xs old = record { parts = refl }

module _ {X Y : Type 0} (each : List X → List Y) (xs : List X) (i : ℕ) (old now : List Y) (g : Runs each xs i old now) where
  pub runs_on : (x : X) (one new : List Y) → i < length xs → x ≡ get_or xs i x → each (x ∷ drop (i + 1) xs) ≡ one ++ each (drop (i + 1) xs) → new ≡ now ++ one → Runs each xs (i + 1) old new
  runs_on x one new inside is step added =
      let rest = each (drop (i + 1) xs) in
      record {
        parts = ap (λ (l : List Y). l ++ rest) added ∙ append_assoc now one rest ∙ ap (λ (l : List Y). now ++ l) (sym step) ∙ ap (λ (l : List X). now ++ each l) (sym (dropped xs i x inside is)) ∙ g.parts;
      }

  pub runs_done : each [] ≡ [] → length xs ≤ i → now ≡ old ++ each xs
  runs_done none all = sym (append-nil now) ∙ ap (λ (l : List Y). now ++ l) (sym none) ∙ ap (λ (l : List X). now ++ each l) (sym (past xs i all)) ∙ g.parts
