use Rattle.std.proofs.Common.{codes}
use Rattle.acpi_read.proofs.Texts.{after_two}
use Rattle.acpi_asl.proofs.namespace.push_arguments.Goals as goal

pub returns : goal.returns
returns c =
    after_two _ (codes "Method, arguments: ") _ _ _ c.in_ok-push_str.ensures.bytes (rw c.from.ensures at c.in_ok-push_decimal.ensures)
