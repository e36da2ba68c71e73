use Rattle.std.proofs.Common.{codes}
use Rattle.acpi_asl.proofs.Pieces.{after_five}
use Rattle.acpi_asl.proofs.asl.push_definition.Goals as goal

pub returns : goal.returns
returns c =
    after_five _ (codes "DefinitionBlock (\"\"") _ _ _ (codes ")") _ _ _ _ _ c.in_ok-push_str.ensures.bytes c.in_ok-push_header_text.ensures c.in_ok-push_further_decimal.ensures c.in_ok-push_oem.ensures c.in_ok-push_str-2.ensures.bytes
