-- Parts that a sink is given one after another.
use Rattle.std.proofs.Common.{◌≡◌, ℕ, ◌+◌, ◌<◌, List, [], ◌∷◌, ◌++◌, length, take, drop, get_or, sym, ◌∙◌, ap}
use Rattle.std.specs.Prelude.{Result, IsErrAnd, IfErr}
use Rattle.std.specs.List.{flat_map}
use Rattle.std.proofs.lemmas.List.{take_more, take-append-drop, append-nil}
use Rattle.std.proofs.lemmas.Grind.{flat_map-append}
use Rattle.acpi_base.specs.declared.error.Error.{Error}
use Rattle.acpi_base.specs.Sink.{Meaning, Took, Refused}
use Rattle.acpi_base.proofs.Sinks.{took_more, refused_later, refused_longer}
use Rattle.acpi_base.proofs.Objects.{at_exit}

module _ {X : Type 0} (f : X → List ℕ) (xs : List X) (i : ℕ) (d : X) (inside : i < length xs) where
  more : flat_map f (take (i + 1) xs) ≡ flat_map f (take i xs) ++ f (get_or xs i d)
  more =
      rw (take_more xs i d inside, flat_map-append f (take i xs) (get_or xs i d ∷ []))
      (ap (λ t. flat_map f (take i xs) ++ t) (append-nil (f (get_or xs i d))))

  pub took_next_part : (m n k : Meaning) → Took m (flat_map f (take i xs)) n → Took n (f (get_or xs i d)) k → Took m (flat_map f (take (i + 1) xs)) k
  took_next_part m n k before here = rw more (took_more m n k (flat_map f (take i xs)) (f (get_or xs i d)) before here)

  pub refused_at_part : {T : Type 0} (r : Result T Error) (e : Error) (m n k : Meaning) → IsErrAnd r (λ y. y ≡ e) → Took m (flat_map f (take i xs)) n → Refused e n (f (get_or xs i d)) k → IfErr r (λ y. Refused y m (flat_map f xs) k)
  refused_at_part r e m n k exit before here =
      let so_far : Refused e m (flat_map f (take (i + 1) xs)) k = rw more (refused_later e m n k (flat_map f (take i xs)) (f (get_or xs i d)) before here) in
      let all : Refused e m (flat_map f (take (i + 1) xs) ++ flat_map f (drop (i + 1) xs)) k = refused_longer e m k (flat_map f (take (i + 1) xs)) (flat_map f (drop (i + 1) xs)) so_far in
      at_exit r (λ y. Refused y m (flat_map f xs) k) e exit
      (let joined : flat_map f (take (i + 1) xs) ++ flat_map f (drop (i + 1) xs) ≡ flat_map f xs =
      sym (flat_map-append f (take (i + 1) xs) (drop (i + 1) xs)) ∙ ap (flat_map f) (take-append-drop (i + 1) xs) in
      rw joined at all)
