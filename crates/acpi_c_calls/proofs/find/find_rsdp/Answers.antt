use Rattle.std.proofs.Common.{refl, inl, inr, arith, rules}
use Rattle.acpi_c_calls.proofs.Pointers.{none_after}
use Rattle.acpi_c_calls.proofs.find.find_rsdp.Goals as goal

pub returns-then-is_pointer : goal.returns-then-is_pointer
returns-then-is_pointer c =
    inl (record { index = c.places.index; at = refl; is = search rules; first = c.places.invariant; fine = refl })

pub returns : goal.returns
returns c =
    inr (record {
      none = none_after c.args.bytes.now c.places.index (omega arith) c.places.invariant;
      nowhere = refl;
      fault = search rules;
    })
