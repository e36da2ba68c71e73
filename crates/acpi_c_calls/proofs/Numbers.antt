-- What the numbers of outcomes mean.
use Rattle.std.proofs.Common.{◌≡◌, ℕ, ◌+◌, nat_le, Bool, true, false, List, length, take, drop, Result, Ok, Err, sym, refl, ap, subst, ◌∙◌, arith, rules}
use Rattle.std.proofs.Math.Seq.{take-append_seam}
use Rattle.std.proofs.lemmas.List.{length-append}
use Rattle.acpi_c_calls.specs.Results.{IsOutcome, IsResult, IsPut, IsGiven}
use Rattle.acpi_c_calls.specs.Fault.{number_of}
use Rattle.acpi_c_calls.specs.Laws.{NumbersDiffer, FineIsTrue, IsFront, FineIsGiven, FaultLeaves}
use Rattle.acpi_c_calls.specs.declared.fault.Fault.{Fault}
use Rattle.acpi_c_calls.specs.declared.fault.Fault.TheVariants.{Buffer}
use Rattle.acpi_c_calls.specs.declared.refused.Refused.{Refused}

numbers : NumbersDiffer
numbers f = search rules

pub no_zero : (f : Fault) → 0 ≡ number_of f → ⊥
no_zero f is = let one = (numbers f).0 in absurd (omega (arith, one, is))

fine_of : (fact : Type 0) (why : Refused → Type 0) (outcome : Result (Unit {0}) Refused) (place : ℕ)
    → IsOutcome (λ done. fact) why outcome → IsResult outcome 0 place → fact
fine_of fact why (Ok done) place is returned = is
fine_of fact why (Err refused) place is returned = absurd (no_zero refused.fault returned.0)

pub fine_is_true : (fact : Type 0) (why : Refused → Type 0) → FineIsTrue fact why
fine_is_true fact why place checks = fine_of fact why checks.outcome place checks.is checks.returned

put_front : {A : Type 0} (is : List A → Type 0) (fits : Bool) (found old new : List A) → nat_le (length found) (length old) ≡ fits
    → is found → IsPut fits found old new 0 → IsFront is new (length found)
put_front {A} is true found old new e that put =
    let size : length new ≡ length found + length (drop (length found) old) = ap length put.1 ∙ length-append found (drop (length found) old) in
    record {
      fits = omega (arith, size);
      found = subst is (sym (ap (take (length found)) put.1 ∙ take-append_seam found (drop (length found) old))) that;
    }
put_front is false found old new e that put = absurd (no_zero Buffer put.0)

front_of : {A : Type 0} (is : List A → Type 0) (why : Refused → Type 0) (outcome : Result (List A) Refused) (old new : List A) (place size : ℕ)
    → IsOutcome is why outcome → IsGiven outcome old new 0 place size → IsFront is new size
front_of {A} is why (Ok found) old new place size that given =
    let P : ℕ → Type 0 = λ n. IsFront is new n in
    subst P (sym given.1) (put_front is (nat_le (length found) (length old)) found old new refl that given.2)
front_of is why (Err refused) old new place size that given = absurd (no_zero refused.fault given.0)

pub fine_is_given : {A : Type 0} (is : List A → Type 0) (why : Refused → Type 0) → FineIsGiven is why
fine_is_given is why old new place size gives = front_of is why gives.outcome old new place size gives.found gives.given

put_nothing : {A : Type 0} (fits : Bool) (found old new : List A) (f : Fault) → IsPut fits found old new (number_of f) → new ≡ old
put_nothing true found old new f put = absurd (no_zero f (sym put.0))
put_nothing false found old new f put = put.1

nothing_of : {A : Type 0} (outcome : Result (List A) Refused) (old new : List A) (f : Fault) (place size : ℕ)
    → IsGiven outcome old new (number_of f) place size → new ≡ old
nothing_of (Ok found) old new f place size given = put_nothing (nat_le (length found) (length old)) found old new f given.2
nothing_of (Err refused) old new f place size given = given.3

pub fault_leaves : {A : Type 0} (is : List A → Type 0) (why : Refused → Type 0) → FaultLeaves is why
fault_leaves is why old new f place size gives = nothing_of gives.outcome old new f place size gives.given
