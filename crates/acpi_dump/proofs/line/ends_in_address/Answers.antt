use Rattle.std.proofs.Common.{sym, ◌∙◌}
use Rattle.acpi_dump.proofs.Addresses.{not_here}
use Rattle.acpi_dump.proofs.line.ends_in_address.Goals as goal

pub places-preserved : goal.places-preserved
places-preserved c =
    sym (not_here c.args.text.now c.places.at c.places-test.true (sym c.is_address.ensures ∙ c.if-is_address.false))
    ∙ c.places.invariant
