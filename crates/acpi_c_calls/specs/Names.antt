-- Words of numbers, and the version.
use Rattle.std.specs.Prelude.{◌≡◌, ℕ, List, Some, None}
use Rattle.acpi_c_calls.specs.Fault.{words_of}
use Rattle.acpi_c_calls.specs.declared.fault.Fault.TheVariants.{UnknownNumber}
use Rattle.acpi_c_calls.specs.declared.refused.Refused.{Refused}

abbrev pub version : ℕ
version = 9

abbrev pub IsName : ℕ → List ℕ → Type 0
IsName number text = words_of number ≡ Some text

abbrev pub IsNoName : ℕ → Refused → Type 0
IsNoName number refused = (refused ≡ record { fault = UnknownNumber; place = 0 }) × (words_of number ≡ None)
