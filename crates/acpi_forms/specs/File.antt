-- The form and the walk of what a file contains, and its text.
use Rattle.std.specs.Prelude.{ℕ, List, Option, Some, None}
use Rattle.acpi_base.specs.declared.walk.Place.TheVariants.{DWord}
use Rattle.acpi_base.specs.declared.walk.Walk.{Walk}
use Rattle.acpi_forms.specs.FurtherNames.{cdat_names, s3pt_names}
use Rattle.acpi_forms.specs.Kind.{kind_of}
use Rattle.acpi_forms.specs.Layout.{names_in, walk_in}
use Rattle.acpi_forms.specs.Named.{Named, rsdp_names, facs_names}
use Rattle.acpi_forms.specs.Shows.{IsTextOf}
use Rattle.acpi_forms.specs.Walks.{cdat_walk, s3pt_walk}
use Rattle.acpi_make.specs.declared.file_kind.FileKind.{FileKind}
use Rattle.acpi_make.specs.declared.file_kind.FileKind.TheVariants.{Table, Rsdp, Facs, Cdat, S3pt}
use Rattle.acpi_text.specs.Form.{number_at}

-- ---- by a kind

-- the names of the form of a kind, where a table with a standard header has these names
abbrev pub names_by : FileKind → Named → Named
names_by Table of_table = of_table
names_by Rsdp of_table = rsdp_names
names_by Facs of_table = facs_names
names_by Cdat of_table = cdat_names
names_by S3pt of_table = s3pt_names

-- the walk of a kind, where a table with a standard header has this one
abbrev pub walk_by : FileKind → Option Walk → Option Walk
walk_by Table of_table = of_table
walk_by Rsdp of_table = None
walk_by Facs of_table = None
walk_by Cdat of_table = Some cdat_walk
walk_by S3pt of_table = Some s3pt_walk

-- ---- by bytes

-- the names of the form of bytes, whose signature is their first four bytes
unfoldable pub file_names : List ℕ → Named
file_names bytes = names_by (kind_of bytes) (names_in (number_at (DWord 0) bytes) bytes)

-- where the structures of bytes stand
unfoldable pub file_walk : List ℕ → Option Walk
file_walk bytes = walk_by (kind_of bytes) (walk_in (number_at (DWord 0) bytes) bytes)

-- the text of bytes
abbrev pub IsFileText : List ℕ → List ℕ → Type 0
IsFileText bytes text = IsTextOf (file_names bytes) (file_walk bytes) bytes text
