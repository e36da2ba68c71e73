-- Counters of bytes.
use Rattle.std.proofs.Common.{◌≡◌, ℕ, ◌+◌, ◌≤◌, ◌<◌, List, [], ◌∷◌, ◌++◌, Bool, true, false, ◌||◌, IsTrue, Some, length, ap, arith, inl, inr, ◌∙◌, sym}
use Rattle.std.specs.Prelude.{◌⊎◌, min}
use Rattle.std.proofs.lemmas.List.{append-nil}
use Rattle.std.proofs.Math.Nat.{min-eq_left}
use Rattle.acpi_base.specs.declared.error.Error.{Error}
use Rattle.acpi_base.specs.Sink.{Took, IsTold}
use Rattle.acpi_base.specs.Object.{Object, Wrote, WriteRefused, EndsIn, IsOwnRefusal}
use Rattle.acpi_hest.specs.Counter.{counter_of, counter_wants_none, most_of_64_bits}

counter_took : (old new : ℕ) (bytes : List ℕ) → new ≤ most_of_64_bits → Took (counter_of old) bytes (counter_of new) → new ≡ min (old + length bytes) most_of_64_bits
unfolding counter_of
counter_took old new bytes in_range took =
    let shown : min (new + 0) most_of_64_bits ∷ [] ≡ min (old + length (bytes ++ [])) most_of_64_bits ∷ [] = ap (λ m. m.shows []) took.moved in
    let shown' : min (new + 0) most_of_64_bits ∷ [] ≡ min (old + length bytes) most_of_64_bits ∷ [] = rw (append-nil bytes) at shown in
    let same : min (new + 0) most_of_64_bits ≡ min (old + length bytes) most_of_64_bits = cc in
    let zero : new ≡ new + 0 = omega arith in
    sym (min-eq_left in_range) ∙ ap (λ n. min n most_of_64_bits) zero ∙ same

-- what a counter that began at zero was given
pub counted_from_zero : (o : Object) (old new : ℕ) → Wrote o (counter_of old) (counter_of new) → old ≡ 0 → new < 18446744073709551616 → new ≡ min (length o.front) most_of_64_bits
counted_from_zero o old new wrote start in_range =
    counter_took old new o.front (omega (arith, in_range)) wrote.took ∙ ap (λ n. min n most_of_64_bits) (omega (arith, start))

or_false : (b : Bool) → IsTrue (b || false) → IsTrue b
or_false true h = h
or_false false h = h

-- a counter refuses nothing, so a refused write is refused by the object
only_object : (e : Error) (o : Object) (old new : ℕ) → EndsIn e o (counter_of old) (counter_of new) ⊎ IsTold e (counter_of old) o.front → o.end ≡ Some e
unfolding counter_of
only_object e o old new (inl ended) = ended.end
only_object e o old new (inr told) = absurd (let t = told.told in cc)

pub own_refusal : (e : Error) (o : Object) (old new : ℕ) → WriteRefused e o (counter_of old) (counter_of new) → IsOwnRefusal e o
own_refusal e o old new refused = record {
  memory = λ is. or_false o.wants_memory (rw (counter_wants_none old) at (refused.memory is));
  cause = λ is. only_object e o old new (refused.cause is);
}
