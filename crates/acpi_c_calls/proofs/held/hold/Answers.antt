use Rattle.std.proofs.Common.{Err, ap, ◌∙◌}
use Rattle.acpi_c_calls.proofs.Helds.{held_ok, held_err}
use Rattle.acpi_c_calls.proofs.held.hold.Goals as goal

pub returns-in-Ok : goal.returns-in-Ok
returns-in-Ok g c =
    held_ok (g.T.Aml.object c.args.value.now) c.write_into.new.held c.bytes-few.ensures.few c.requires.few (rw c.new-held.ensures at c.in-Ok.ensures.ok)

pub returns-in-Err : goal.returns-in-Err
returns-in-Err g c =
    ap (λ f. Err f) c.fault_of.ensures
    ∙ held_err c.in-Err.error (g.T.Aml.object c.args.value.now) c.write_into.new.held c.requires.dry (rw c.new-held.ensures at c.in-Err.ensures.err)
