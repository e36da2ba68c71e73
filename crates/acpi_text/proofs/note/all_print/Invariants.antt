use Rattle.std.proofs.Common.{◌≡◌, drop}
use Rattle.acpi_text.specs.Label.{all_print}
use Rattle.acpi_text.proofs.note.all_print.Given as goal

abbrev pub invariant-bytes : goal.invariant-bytes
invariant-bytes l = all_print (drop l.byte-index l.bytes) ≡ all_print l.bytes
