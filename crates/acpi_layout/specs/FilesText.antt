-- The texts of the faults of files.
use Rattle.std.specs.Prelude.{ℕ, List, codes}
use Rattle.acpi_layout.specs.declared.lay_fault.LayFault.{LayFault}
use Rattle.acpi_layout.specs.declared.lay_fault.LayFault.TheVariants as faults

abbrev pub text_of : LayFault → List ℕ
text_of faults.Memory = codes "out of memory"
text_of faults.Base = codes "the address of an image has to be a multiple of 0x40"
text_of (faults.Second index) = codes "a second table of this signature"
text_of faults.NoFadt = codes "no FADT"
text_of faults.NoDsdt = codes "no DSDT"
text_of faults.NoFacs = codes "no FACS, and the FADT doesn't have the flag HW_REDUCED_ACPI"
text_of faults.ShortFadt = codes "the FADT has no field X_DSDT"
text_of faults.NoSpace = codes "the tables end after the last address"
