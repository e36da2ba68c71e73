-- Outcomes with bytes before them.
use Rattle.std.proofs.Common.{◌≡◌, List, [], ◌++◌, Result, Ok, Err, refl, ap, sym, append_assoc}
use Rattle.acpi_make.specs.Gives.{with_front}
use Rattle.acpi_make.specs.Fault.{Fault}

pub front_none : {A : Type 0} → (outcome : Result (List A) Fault) → with_front [] outcome ≡ outcome
front_none (Ok items) = refl
front_none (Err fault) = refl

pub front_both : {A : Type 0} → (a b : List A) (outcome : Result (List A) Fault)
    → with_front a (with_front b outcome) ≡ with_front (a ++ b) outcome
front_both a b (Ok items) = ap Ok (sym (append_assoc a b items))
front_both a b (Err fault) = refl
