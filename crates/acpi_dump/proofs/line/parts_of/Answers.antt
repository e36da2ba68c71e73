use Rattle.acpi_dump.proofs.Numbers.{all_digits}
use Rattle.acpi_dump.proofs.line.parts_of.Goals as goal

pub returns-then-is_byte-clause-hexadecimal : goal.returns-then-is_byte-clause-hexadecimal
returns-then-is_byte-clause-hexadecimal c =
    λ k d. all_digits c.unindented-text.result.now c.count_digits-size.result k d c.count_digits-size.ensures
