-- The texts of faults of laying tables below 4 GiB.
use Rattle.std.specs.Prelude.{ℕ, List, codes}
use Rattle.acpi_base.specs.Error as base
use Rattle.acpi_layout.specs.declared.rsdt_fault.RsdtFault.{RsdtFault}
use Rattle.acpi_layout.specs.declared.rsdt_fault.RsdtFault.TheVariants as faults

abbrev pub text_of : RsdtFault → List ℕ
text_of (faults.Table error) = base.text_of error
text_of faults.NotLow = codes "the tables or the RSDP aren't below 4 GiB"
text_of faults.Overlap = codes "the RSDP overlaps the tables"
