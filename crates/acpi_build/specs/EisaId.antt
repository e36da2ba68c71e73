-- EISA ids as texts (ACPI 6.5, 19.3.4).
use Rattle.std.specs.Prelude.{◌≢◌, ℕ, List, [], Option, Some, None}
use Rattle.acpi_base.specs.declared.error.Error.TheVariants.{Memory, EisaText}
use Rattle.acpi_base.specs.Number.{number}
use Rattle.acpi_base.specs.Object.{Object, whole, ended, whole_ends_well}
use Rattle.acpi_aml.specs.Eisa.{eisa_value}

-- the number of an id, or the error of another text
abbrev pub number_of : Option ℕ → Object
number_of (Some value) = whole (number value)
number_of None = ended (Some EisaText) (whole [])

-- the id of a text as an object
abbrev pub eisa_id : List ℕ → Object
eisa_id text = number_of (eisa_value text)

number_ends_well : (value : Option ℕ) → (number_of value).end ≢ Some Memory
number_ends_well (Some value) is = whole_ends_well (number value) is
number_ends_well None is = cc

pub eisa_id_ends_well : (text : List ℕ) → (eisa_id text).end ≢ Some Memory
eisa_id_ends_well text = number_ends_well (eisa_value text)
