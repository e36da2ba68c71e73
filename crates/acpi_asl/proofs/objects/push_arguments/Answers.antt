use Rattle.std.proofs.Common.{codes}
use Rattle.acpi_read.proofs.Texts.{after_two}
use Rattle.acpi_asl.specs.Objects.{arguments_member}
use Rattle.acpi_asl.proofs.objects.push_arguments.Goals as goal

pub returns : goal.returns
unfolding arguments_member
returns c =
    after_two _ (codes ",\"arguments\":") _ _ _ c.in_ok-push_str.ensures.bytes (rw c.from.ensures at c.in_ok-push_decimal.ensures)
