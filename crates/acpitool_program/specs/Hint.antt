-- The signature that the writer of a text probably meant.
use Rattle.std.specs.Prelude.{ℕ, if◌then◌else◌, List, [], ◌++◌, Option, Some, None, Result, Ok, Err, codes, map}
use Rattle.acpi_base.specs.Bytes.{le}
use Rattle.acpi_forms.specs.Known.{is_known, meant}
use Rattle.acpi_make.specs.Fault.{Fault}
use Rattle.acpi_make.specs.Meaning.{parts_of}
use Rattle.acpi_make.specs.Signature.{signature_of}
use Rattle.acpi_make.specs.declared.fault.Wanted.{Wanted}
use Rattle.acpi_make.specs.declared.fault.Wanted.TheVariants as wanted
use Rattle.acpi_make.specs.declared.item.Item.{Item}
use Rattle.acpi_read.specs.Report.{printable}

-- the signature that is meant by one that isn't known, which is given as a number
abbrev pub meant_for : Option ℕ → Option (List ℕ)
meant_for (Some signature) = if is_known (le 4 signature) then None else meant (le 4 signature)
meant_for None = None

abbrev pub meant_in_parts : Result (List Item) Fault → Option (List ℕ)
meant_in_parts (Ok parts) = meant_for (signature_of parts)
meant_in_parts (Err wrong) = None

-- the signature that is meant by that of a text, if a line of the text is that of no field
abbrev pub meant_in : Wanted → List ℕ → Option (List ℕ)
meant_in wanted.FieldOf text = meant_in_parts (parts_of text)
meant_in _ text = None

-- what a line says of it
abbrev pub question : List ℕ → List ℕ
question signature = codes "; did you mean the signature \"" ++ map printable signature ++ codes "\"?"

abbrev pub hint : Option (List ℕ) → List ℕ
hint (Some signature) = question signature
hint None = []
