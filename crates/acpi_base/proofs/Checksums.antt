use Rattle.std.proofs.Common.{◌≡◌, ℕ, ◌+◌, ◌%◌, ◌<◌, List, [], ◌∷◌, ◌++◌, Bool, true, false, ◌||◌, IsTrue, None, Some, sum, refl, ap, arith, inl, inr, ◌∙◌, zero-add}
use Rattle.std.specs.Prelude.{◌⊎◌}
use Rattle.std.proofs.lemmas.List.{append-nil}
use Rattle.acpi_base.specs.declared.error.Error.{Error}
use Rattle.acpi_base.specs.declared.error.Error.TheVariants.{Memory}
use Rattle.acpi_base.specs.Sink.{Took, IsTold}
use Rattle.acpi_base.specs.Object.{Object, Wrote, WriteRefused, EndsIn, IsOwnRefusal}
use Rattle.acpi_base.specs.Checksum.{checksum_of, checksum_wants_none}

pub checksum_took : (old new : ℕ) (bytes : List ℕ) → new < 256 → Took (checksum_of old) bytes (checksum_of new) → new ≡ (old + sum bytes) % 256
unfolding checksum_of
checksum_took old new bytes in_range took =
    let shown : (new + 0) % 256 ∷ [] ≡ (old + sum (bytes ++ [])) % 256 ∷ [] = ap (λ m. m.shows []) took.moved in
    let shown' : (new + 0) % 256 ∷ [] ≡ (old + sum bytes) % 256 ∷ [] = rw (append-nil bytes) at shown in
    let same : (new + 0) % 256 ≡ (old + sum bytes) % 256 = cc in
    omega arith

pub sum_from_zero : (o : Object) (old new answer : ℕ) → Wrote o (checksum_of old) (checksum_of new) → old ≡ 0 → answer ≡ new → answer < 256 → answer ≡ sum o.front % 256
sum_from_zero o old new answer wrote start is in_range =
    let it : new ≡ (old + sum o.front) % 256 = checksum_took old new o.front (rw is at in_range) wrote.took in
    is ∙ it ∙ ap (λ n. (n + sum o.front) % 256) start ∙ ap (λ n. n % 256) (zero-add (sum o.front))

or_false : (b : Bool) → IsTrue (b || false) → IsTrue b
or_false true h = h
or_false false h = h

-- a checksum refuses nothing, so a refused write is refused by the object
only_object : (e : Error) (o : Object) (old new : ℕ) → EndsIn e o (checksum_of old) (checksum_of new) ⊎ IsTold e (checksum_of old) o.front → o.end ≡ Some e
unfolding checksum_of
only_object e o old new (inl ended) = ended.end
only_object e o old new (inr told) = absurd (let t = told.told in cc)

pub own_refusal : (e : Error) (o : Object) (old new : ℕ) → WriteRefused e o (checksum_of old) (checksum_of new) → IsOwnRefusal e o
own_refusal e o old new refused = record {
  memory = λ is. or_false o.wants_memory (rw (checksum_wants_none old) at (refused.memory is));
  cause = λ is. only_object e o old new (refused.cause is);
}

pub front_summed : (o : Object) (value : ℕ) → value < 256 → Wrote o (checksum_of 0) (checksum_of value) → value ≡ sum o.front % 256
front_summed o value in_range wrote = sum_from_zero o 0 value value wrote refl refl in_range

-- a whole object that takes no memory is refused nowhere
pub whole_summed : (e : Error) (o : Object) (old new : ℕ) → o.end ≡ None → o.wants_memory ≡ false → WriteRefused e o (checksum_of old) (checksum_of new) → ⊥
whole_summed e o old new whole none refused =
    let own = own_refusal e o old new refused in
    let other : e ≡ Memory → ⊥ = λ is. (let t : IsTrue o.wants_memory = own.memory is in cc) in
    let some = own.cause other in
    cc
