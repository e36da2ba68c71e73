-- Structures that end in entries.
use Rattle.std.proofs.Common.{◌≡◌, ℕ, ◌+◌, ◌≤◌, ◌<◌, List, [], ◌++◌, length, take, get_or, ap, ◌∙◌, ◌∷◌, append_assoc}
use Rattle.std.specs.List.{flat_map}
use Rattle.std.proofs.lemmas.List.{take_all, append-nil}
use Rattle.acpi_base.proofs.Rows.{took_next_part, refused_at_part}
use Rattle.std.specs.Prelude.{Result, Ok, Err, IsErrAnd, IfErr}
use Rattle.acpi_base.specs.declared.error.Error.{Error}
use Rattle.acpi_base.specs.Sink.{Meaning, Took, Refused}
use Rattle.acpi_base.proofs.Sinks.{refused_later}

-- the entries were refused, after what stands before them
pub refused_after : {T : Type 0} (r : Result T Error) (m n k : Meaning) (a b : List ℕ) → Took m a n → IfErr r (λ e. Refused e n b k) → IfErr r (λ e. Refused e m (a ++ b) k)
refused_after (Ok x) m n k a b first refused = tt
refused_after (Err e) m n k a b first refused = refused_later e m n k a b first refused

-- the next entry, taken and refused
module _ {X : Type 0} (f : X → List ℕ) (xs : List X) (i : ℕ) (x : X) (inside : i < length xs) (is : x ≡ get_or xs i x) where
  pub took_next_entry : (m n k : Meaning) → Took m (flat_map f (take i xs)) n → Took n (f x) k → Took m (flat_map f (take (i + 1) xs)) k
  took_next_entry m n k before here =
      let there : Took n (f (get_or xs i x)) k = rw (← is) here in
      took_next_part f xs i x inside m n k before there

  pub refused_at_entry : {T : Type 0} (r : Result T Error) (e : Error) (m n k : Meaning) → IsErrAnd r (λ y. y ≡ e) → Took m (flat_map f (take i xs)) n → Refused e n (f x) k → IfErr r (λ y. Refused y m (flat_map f xs) k)
  refused_at_entry r e m n k exit before here =
      let there : Refused e n (f (get_or xs i x)) k = rw (← is) here in
      refused_at_part f xs i x inside r e m n k exit before there

-- all entries, at the loop's end
pub took_entries : {X : Type 0} (f : X → List ℕ) (xs : List X) (i : ℕ) (m k : Meaning) → length xs ≤ i → Took m (flat_map f (take i xs)) k → Took m (flat_map f xs) k
took_entries f xs i m k done took = let all = rw (take_all i xs done) at took in all

-- what stands before the entries in one part, and then these
pub head_and_entries : {X : Type 0} (f : X → List ℕ) (h head : List ℕ) (given xs : List X) → h ≡ head → given ≡ xs → (h ++ []) ++ flat_map f given ≡ head ++ flat_map f xs
head_and_entries f h head given xs first second = rw (first, second) (ap (λ x. x ++ flat_map f xs) (append-nil head))

-- the same, with a text and its zero between
pub text_and_entries : {X : Type 0} (f : X → List ℕ) (h head t text : List ℕ) (given xs : List X) → h ≡ head → t ≡ text → given ≡ xs → (h ++ (t ++ (0 ∷ []))) ++ flat_map f given ≡ head ++ (text ++ (0 ∷ flat_map f xs))
text_and_entries f h head t text given xs first second third =
    rw (first, second, third)
    (append_assoc head (text ++ (0 ∷ [])) (flat_map f xs) ∙ ap (λ x. head ++ x) (append_assoc text (0 ∷ []) (flat_map f xs)))
