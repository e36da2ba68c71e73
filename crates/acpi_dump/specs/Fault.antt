-- The texts of faults.
use Rattle.std.specs.Prelude.{List, ℕ, ◌++◌, codes, false}
use Rattle.std.specs.Fmt.{decimal, digits}
use Rattle.acpi_dump.specs.declared.fault.DumpFault.{DumpFault}
use Rattle.acpi_dump.specs.declared.fault.DumpFault.TheVariants as faults

-- what is wrong in a line
abbrev pub wrong_in : ℕ → List ℕ → List ℕ
wrong_in line text = codes "line " ++ (decimal line ++ (codes ": " ++ text))

abbrev pub text_of : DumpFault → List ℕ
text_of faults.Memory = codes "out of memory"
text_of (faults.Unknown line) = wrong_in line (codes "expected a title or bytes")
text_of (faults.Untitled line) = wrong_in line (codes "expected a title before the first bytes")
text_of (faults.Offset line offset) = wrong_in line (codes "expected offset 0x" ++ digits 16 false offset)
