-- The lines of one structure.
use Rattle.std.specs.Prelude.{ℕ, ◌==◌, if◌then◌else◌, List, [], ◌∷◌, ◌++◌, length, Option, Some, None, codes}
use Rattle.std.specs.Fmt.{decimal}
use Rattle.acpi_base.specs.Walk.{place_width}
use Rattle.acpi_base.specs.declared.walk.Place.{Place}
use Rattle.acpi_text.specs.Form.{number_at, count_of, parts_slots}
use Rattle.acpi_text.specs.Label.{label}
use Rattle.acpi_text.specs.Line.{title}
use Rattle.acpi_text.specs.Piece.{pieces_then, front_then, parts_text}
use Rattle.acpi_text.specs.Size.{start_in, inner_form, inner_size}
use Rattle.acpi_text.specs.Slot.{nameless, slots_text}
use Rattle.acpi_text.specs.declared.form.Inner.{Inner}
use Rattle.acpi_text.specs.declared.form.Inner.TheVariants.{Nothing, Lists}
use Rattle.acpi_text.specs.declared.form.InnerList.{InnerList}
use Rattle.acpi_text.specs.declared.form.InnerForm.{InnerForm}
use Rattle.acpi_text.specs.declared.form.Part.{Part}
use Rattle.acpi_text.specs.declared.form.StructureForm.{StructureForm}
use Rattle.acpi_text.specs.declared.form.TableForm.{TableForm}

-- ---- its form

-- the kinds of the structures of a table: both lists
abbrev pub all_forms : TableForm → List StructureForm
all_forms form = form.structures.now ++ form.further.now

abbrev pub find_form : ℕ → List StructureForm → Option StructureForm
find_form number [] = None
find_form number (form ∷ forms) = if number == form.number then Some form else find_form number forms

abbrev pub form_name : Option StructureForm → List ℕ
form_name (Some form) = 32 ∷ label form.name.now
form_name None = []

abbrev pub form_parts : Option StructureForm → List Part
form_parts (Some form) = form.parts.now
form_parts None = []

abbrev pub form_inner : Option StructureForm → Inner
form_inner (Some form) = form.inner.now
form_inner None = Nothing

-- ---- what stands within it

-- a structure within another by its form: its name, and its parts a level below
abbrev pub inner_by_form : Option InnerForm → ℕ → List ℕ → List ℕ
inner_by_form (Some form) at piece = title 0 at form.name.now ++ slots_text at (parts_slots 1 at piece form.parts.now) piece
inner_by_form None at piece = nameless at piece

abbrev pub inner_text : InnerList → ℕ → List ℕ → List ℕ
inner_text list at piece = inner_by_form (inner_form list piece) at piece

-- Lists of structures within a whole, one after another. Where one has fewer structures than it says, the rest has no names.
abbrev pub lists_text : List ℕ → List InnerList → ℕ → List ℕ → List ℕ
lists_text whole [] at bytes = nameless at bytes
lists_text whole (list ∷ lists) at bytes =
    pieces_then (count_of list.count whole) (inner_size list) (inner_text list) nameless
    (λ k rest. lists_text whole lists k rest) at bytes

-- the parts of a structure, and the structures within it
abbrev pub content_text : List Part → Inner → ℕ → List ℕ → List ℕ
content_text parts Nothing at piece = parts_text parts at piece
content_text parts (Lists start lists) at piece =
    front_then (parts_text parts) (start_in start piece) (λ k rest. lists_text piece lists.now k rest) at piece

-- ---- the whole structure

-- the type of a structure, where it has one
abbrev pub kind_text : Place → List ℕ → List ℕ
kind_text kind piece = if place_width kind == 0 then codes " entry" else codes " type " ++ decimal (number_at kind piece)

-- its offset, its type, its size and its name
abbrev pub piece_line : Place → Option StructureForm → ℕ → List ℕ → List ℕ
piece_line kind form at piece =
    decimal at ++ kind_text kind piece ++ codes " size " ++ decimal (length piece) ++ form_name form ++ 10 ∷ []

-- its line, and those of what it contains
abbrev pub piece_text : Place → List StructureForm → ℕ → List ℕ → List ℕ
piece_text kind forms at piece =
    let form = find_form (number_at kind piece) forms in
    piece_line kind form at piece ++ content_text (form_parts form) (form_inner form) at piece
