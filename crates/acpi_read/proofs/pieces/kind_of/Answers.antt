use Rattle.std.proofs.Common.{ap, sym, ◌∙◌}
use Rattle.acpi_base.specs.Walk.{walk_of}
use Rattle.acpi_read.proofs.Cuts.{reached_by}
use Rattle.acpi_read.proofs.pieces.kind_of.Goals as goal

pub returns-in-Some-clause-reached : goal.returns-in-Some-clause-reached
returns-in-Some-clause-reached c =
    reached_by _ c.in-Some.walk c.args.table.now (ap walk_of (sym c.signature_number.ensures) ∙ sym c.in-Some.ensures.walk) c.in-Some.ensures.sound
