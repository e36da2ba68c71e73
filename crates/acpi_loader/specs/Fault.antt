-- The texts of faults.
use Rattle.std.specs.Prelude.{ℕ, List, codes}
use Rattle.acpi_layout.specs.FilesText as laying
use Rattle.acpi_loader.specs.declared.fault.LoaderFault.{LoaderFault}
use Rattle.acpi_loader.specs.declared.fault.LoaderFault.TheVariants.{NotLaid, TooLarge}

abbrev pub text_of : LoaderFault → List ℕ
text_of (NotLaid fault) = laying.text_of fault
text_of TooLarge = codes "too large for a loader"
