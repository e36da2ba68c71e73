-- What texts are made into.
use Rattle.std.specs.Prelude.{◌≡◌, ℕ, ◌==◌, ◌&&◌, not, Bool, true, false, if◌then◌else◌, List, [], length, codes, Option, Some}
use Rattle.std.specs.Prelude.{None, Result, Ok, Err}
use Rattle.acpi_base.specs.Bytes.{carried}
use Rattle.acpi_base.specs.FurtherWalk.{table_walk_of}
use Rattle.acpi_base.specs.Walk.{named}
use Rattle.acpi_base.specs.declared.walk.Walk.{Walk}
use Rattle.acpi_make.specs.Gives.{Gives}
use Rattle.acpi_make.specs.Made.{type_place, made, table_of}
use Rattle.acpi_make.specs.Meaning.{parts_of}
use Rattle.acpi_make.specs.Signature.{signature_of, begins_with_length, has_line}
use Rattle.acpi_make.specs.Template.{template_text}
use Rattle.acpi_make.specs.declared.file_kind.FileKind.{FileKind}
use Rattle.acpi_make.specs.declared.file_kind.FileKind.TheVariants.{Table, Rsdp, Facs, Cdat, S3pt}
use Rattle.acpi_make.specs.Fault.{Fault, fault, next}
use Rattle.acpi_make.specs.Item.{cells_of}
use Rattle.acpi_make.specs.Source.{Source}
use Rattle.acpi_make.specs.declared.fault.MakeError.{MakeError}
use Rattle.acpi_make.specs.declared.fault.MakeError.TheVariants as errors
use Rattle.acpi_make.specs.declared.fault.Wanted.TheVariants as wanted
use Rattle.acpi_make.specs.declared.item.Item.{Item}
use Rattle.acpi_make.specs.declared.make.Made.{Made}
use Rattle.acpi_text.specs.declared.form.TableForm.{TableForm}
use Rattle.acpi_forms.specs.File.{names_by, walk_by}
use Rattle.acpi_forms.specs.Layout.{layout_in, layout_of_text, names_as, walk_as, another_layout, line_words}
use Rattle.acpi_forms.specs.Layout.{layout_made, heading_fault}
use Rattle.acpi_forms.specs.Named.{Named, IsNamed, names_of}
use Rattle.acpi_forms.specs.declared.layout.Layout.{Layout}

-- ---- the kind of file, by its signature

-- a pointer (ACPI 6.5, 5.2.5.3), a control structure (5.2.10), a table of S3 performance (5.2.24), or a table with the standard
-- header (5.2.6)
abbrev pub file_kind_of : ℕ → FileKind
file_kind_of signature =
    if signature == named (codes "RSD ") then Rsdp
    else (if signature == named (codes "FACS") then Facs
    else (if signature == named (codes "S3PT") then S3pt
    else Table))

-- The same of a text. One whose first field is a length, and that has a sequence, has no signature: it is a table of coherent
-- devices (CDAT 1.03).
abbrev pub text_kind : List ℕ → List Item → ℕ → FileKind
text_kind text parts signature =
    if begins_with_length text parts && has_line (codes "Sequence") text parts then Cdat else file_kind_of signature

-- the same of the signature of a template, where CDAT stands for the table without one
abbrev pub template_kind : ℕ → FileKind
template_kind signature = if signature == named (codes "CDAT") then Cdat else file_kind_of signature

-- a text whose signature isn't stated has that of no table
abbrev pub signature_or_none : Option ℕ → ℕ
signature_or_none (Some signature) = signature
signature_or_none None = 0

-- ---- what is made

-- the table of a text, by a form that has these names
pub record IsMadeBy (names : Named) (walk : Option Walk) (file_kind : FileKind) (text : List ℕ) (parts : List Item)
    (result : Result Made MakeError) : Type 0 where
  pub source : Source
  pub is_named : IsNamed source.form names
  pub kind : source.kind ≡ type_place walk
  pub same : source.text ≡ text
  pub gives : Gives table_of result (made file_kind walk source parts)

-- the table of a text by a layout of its signature
abbrev pub IsMadeIn : Layout → ℕ → List ℕ → List Item → Result Made MakeError → Type 0
IsMadeIn layout signature text parts result =
    let kind = text_kind text parts signature in
    IsMadeBy (names_by kind (names_as layout signature)) (walk_by kind (walk_as layout signature)) kind text parts result

abbrev pub IsRefused : Fault → Result Made MakeError → Type 0
IsRefused wrong result = Gives {B = Made} (λ made. made) result (Err wrong)

-- a table, or in place of any fault that of a line which this layout doesn't have
abbrev pub IsToldIn : Layout → ℕ → Result Made MakeError → Result Made MakeError → Type 0
IsToldIn layout signature (Ok made) result = result ≡ Ok made
IsToldIn layout signature (Err errors.Memory) result = result ≡ Err errors.Memory
IsToldIn layout signature (Err (errors.Fault wrong)) result =
    IsRefused (next wrong.from wrong.to (line_words layout signature) 0) result

-- what comes of a text by the layout of its bytes
pub record IsMadeAgain (layout : Layout) (signature : ℕ) (text : List ℕ) (parts : List Item) (result : Result Made MakeError)
    : Type 0 where
  pub outcome : Result Made MakeError
  pub is : IsMadeIn layout signature text parts outcome
  pub told : IsToldIn layout signature outcome result

-- a table whose bytes have the layout of its text, or what comes of the text by the layout of these bytes
abbrev pub IsSettled : Option Layout → ℕ → List ℕ → List Item → Made → Result Made MakeError → Type 0
IsSettled None signature text parts made result = result ≡ Ok made
IsSettled (Some layout) signature text parts made result = IsMadeAgain layout signature text parts result

-- a table, or the fault of its heading
abbrev pub IsHeaded : Option Fault → Made → Result Made MakeError → Type 0
IsHeaded None made result = result ≡ Ok made
IsHeaded (Some wrong) made result = IsRefused wrong result

-- what follows from an outcome
abbrev pub Then : Result Made MakeError → (Made → Type 0) → Result Made MakeError → Type 0
Then (Ok made) next result = next made
Then (Err error) next result = result ≡ Err error

-- the layout of the bytes that were made of a text, if it isn't that of its fields
abbrev pub another_in : ℕ → List ℕ → List Item → Made → Option Layout
another_in signature text parts made =
    another_layout (layout_of_text signature text parts) (layout_in signature made.bytes.items)

-- the fault of the heading of a text, by the layout of its table
abbrev pub heading_in : ℕ → List ℕ → List Item → Made → Option Fault
heading_in signature text parts made =
    heading_fault (layout_made (layout_of_text signature text parts) (layout_in signature made.bytes.items)) signature text parts

-- The table of a text by the layout of its fields. If its bytes have another one, the text is made by that. The heading of the
-- table isn't the name of the layout that it doesn't have.
pub record IsMadeAs (signature : ℕ) (text : List ℕ) (parts : List Item) (result : Result Made MakeError) : Type 0 where
  pub stated : Result Made MakeError
  pub is : IsMadeIn (layout_of_text signature text parts) signature text parts stated
  pub found : Result Made MakeError
  pub settled : Then stated (λ made. IsSettled (another_in signature text parts made) signature text parts made found) found
  pub headed : Then found (λ made. IsHeaded (heading_in signature text parts made) made result) result

-- a text without bytes is no table
abbrev pub IsMadeIf : Bool → List Item → List ℕ → Result Made MakeError → Type 0
IsMadeIf true parts text result = IsMadeAs (signature_or_none (signature_of parts)) text parts result
IsMadeIf false parts text result = IsRefused (fault 0 0 wanted.Table) result

-- by the kind of the text and its signature; one that isn't read has the fault of its reading
abbrev pub IsMadeOf : Result (List Item) Fault → List ℕ → Result Made MakeError → Type 0
IsMadeOf (Ok parts) text result = IsMadeIf (not (length (cells_of parts) == 0)) parts text result
IsMadeOf (Err wrong) text result = IsRefused wrong result

abbrev pub UnlessMemory : Result Made MakeError → Type 0 → Type 0
UnlessMemory (Ok made) fact = fact
UnlessMemory (Err (errors.Fault wrong)) fact = fact
UnlessMemory (Err errors.Memory) fact = Unit {0}

-- the table that a text is made into, unless memory ran out
abbrev pub IsMade : List ℕ → Result Made MakeError → Type 0
IsMade text result = UnlessMemory result (IsMadeOf (parts_of text) text result)

-- ---- templates

-- the signature in a template: that of a pointer has eight bytes, and a table of coherent devices has none
abbrev pub signature_text : FileKind → List ℕ → List ℕ
signature_text Table signature = signature
signature_text Rsdp signature = codes "RSD PTR "
signature_text Facs signature = signature
signature_text Cdat signature = []
signature_text S3pt signature = signature

-- a template of a signature, by a form that has its names
pub record IsTemplateOf (signature text : List ℕ) : Type 0 where
  pub form : TableForm
  pub is_named : IsNamed form (names_by (template_kind (carried signature)) (names_of (carried signature)))
  pub is : text ≡ template_text (signature_text (template_kind (carried signature)) signature)
      (template_kind (carried signature)) form
      (walk_by (template_kind (carried signature)) (table_walk_of (carried signature)))
