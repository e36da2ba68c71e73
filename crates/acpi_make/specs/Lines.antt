-- What lines have in common that are those of two texts of one table.
use Rattle.std.specs.Prelude.{◌≡◌, ◌⊎◌, ℕ, ◌<◌, ◌≤◌, ◌||◌, true, List, [], ◌∷◌, length, Option, Ok}
use Rattle.acpi_base.specs.declared.walk.Walk.{Walk}
use Rattle.acpi_text.specs.Table.{table_text}
use Rattle.acpi_make.specs.Compare.{mark_at, is_reference, is_same, has_no_name, is_empty}
use Rattle.acpi_make.specs.Draft.{Drafted, nothing_yet, all_taken}
use Rattle.acpi_make.specs.Made.{Table, made}
use Rattle.acpi_make.specs.Meaning.{parts_of}
use Rattle.acpi_make.specs.Own.{next_line}
use Rattle.acpi_make.specs.Source.{Source}
use Rattle.acpi_make.specs.declared.file_kind.FileKind.{FileKind}
use Rattle.acpi_make.specs.declared.draft.Mark.{Mark}
use Rattle.acpi_make.specs.declared.item.Item.{Item}

-- a line says the same as one of the other text: it has its name, or its structure's type, at its offset
abbrev pub IsAmong : Source → Source → Mark → List Mark → Type 0
IsAmong s t one [] = ⊥
IsAmong s t one (other ∷ others) = (is_same s t one other ≡ true) ⊎ IsAmong s t one others

-- Each line is among those of the other text. References are no lines. Lines of bytes without a name, and lines without bytes
-- of a field that may have none, may be other ones.
abbrev pub AreAmong : Source → Source → ℕ → List Mark → List Mark → Type 0
AreAmong s t size [] others = Unit {0}
AreAmong s t size (one ∷ marks) others =
    ((is_reference one ≡ true) ⊎ (((has_no_name s one || is_empty s one (next_line marks size)) ≡ true) ⊎ IsAmong s t one others))
    × AreAmong s t size marks others

-- a line of the text says the same as this one of the other text
abbrev pub IsSaid : Source → Source → List Mark → Mark → Type 0
IsSaid s t [] other = ⊥
IsSaid s t (one ∷ marks) other = (is_same s t one other ≡ true) ⊎ IsSaid s t marks other

-- an offset is within the bytes of a line without a name
abbrev pub IsCovered : Source → ℕ → List Mark → ℕ → Type 0
IsCovered s size [] at = ⊥
IsCovered s size (one ∷ marks) at =
    ((has_no_name s one ≡ true) × (mark_at one ≤ at) × (at < next_line marks size)) ⊎ IsCovered s size marks at

-- Each line of the other text is said, or stands within the bytes of a line without a name.
abbrev pub AreSaid : Source → Source → ℕ → List Mark → List Mark → Type 0
AreSaid s t size marks [] = Unit {0}
AreSaid s t size marks (other ∷ others) =
    ((is_reference other ≡ true) ⊎ (IsSaid s t marks other ⊎ IsCovered s size marks (mark_at other)))
    × AreSaid s t size marks others

-- The lines of a text are those of the text that shows its table: each of them stands there, and each of those stands here.
pub record IsShown (walk : Option Walk) (s : Source) (parts : List Item) (table : Table) : Type 0 where
  pub shown : Source
  pub shows : shown ≡ record s { text = table_text s.form walk table.bytes }
  pub d : Drafted
  pub taken : all_taken s parts nothing_yet ≡ Ok d
  pub others : List Item
  pub read : parts_of shown.text ≡ Ok others
  pub e : Drafted
  pub also : all_taken shown others nothing_yet ≡ Ok e
  pub among : AreAmong s shown (length table.bytes) d.marks e.marks
  pub said : AreSaid s shown (length table.bytes) d.marks e.marks

abbrev pub TextsAreShown : Type 0
TextsAreShown = (walk : Option Walk) (file_kind : FileKind) (s : Source) (parts : List Item) (table : Table)
    → made file_kind walk s parts ≡ Ok table → IsShown walk s parts table
