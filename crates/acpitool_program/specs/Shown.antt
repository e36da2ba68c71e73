-- What `show` prints of a table: its text, and lines after it.
use Rattle.std.specs.Prelude.{◌≡◌, ◌≢◌, ◌⊎◌, ℕ, nat_eq, nat_lt, ◌&&◌, Bool, true, false, if◌then◌else◌}
use Rattle.std.specs.Prelude.{List, [], ◌∷◌, ◌++◌, Option, Some, None, length, take, drop, not, codes}
use Rattle.std.specs.List.{starts_with}
use Rattle.acpi_asl.specs.Block.{has_terms, IsBlockText, IsTextInPart}
use Rattle.acpi_asl.specs.declared.block.BlockText.TheVariants.{Asl}
use Rattle.acpi_base.specs.Bytes.{field_at}
use Rattle.acpi_forms.specs.Kind.{kind_of}
use Rattle.acpi_forms.specs.Layout.{names_in}
use Rattle.acpi_forms.specs.Shows.{IsTextOf}
use Rattle.acpi_term.specs.declared.read_error.ReadError.{ReadError}
use Rattle.acpi_term.specs.declared.read_error.ReadError.TheVariants.{Memory}
use Rattle.acpi_terms_text.specs.Block.{AreNoTerms}
use Rattle.acpi_terms_text.specs.Objects.{Callee, AddObjectsIn}
use Rattle.acpi_text.specs.Comment.{comment}
use Rattle.acpitool_program.specs.Fault.{IsFaultAfter}
use Rattle.acpitool_program.specs.Offsets.{without_offsets}
use Rattle.acpitool_program.specs.Structures.{HasFault}
use Rattle.acpitool_program.specs.Terms.{IsAfter, error_line}
use Rattle.acpitool_program.specs.Text.{IsTextAs}
use Rattle.acpitool_program.specs.declared.command.Style.{Style}
use Rattle.acpitool_program.specs.declared.command.Style.TheVariants.{Usual, Bare, Bytes}
use Rattle.acpitool_program.specs.declared.fault.Fault.{Fault}

-- the header of a definition block: its title and its fields, with or without their offsets, as comments
pub record IsHeader (bare : Bool) (bytes text : List ℕ) : Type 0 where
  pub fields : List ℕ
  pub of : IsTextOf (names_in (field_at 0 4 bytes) bytes) None (take 36 bytes) fields
  pub is : text ≡ comment (if bare then without_offsets [] fields else fields)

-- The header is shown, and the terms are ASL. Names take the stated numbers of arguments, or else those of the objects of the
-- block and of further blocks.
pub record IsAsl (bare : Bool) (stated : List (List ℕ × ℕ)) (further : List Callee) (bytes text after : List ℕ) : Type 0 where
  pub header : IsHeader bare bytes text
  pub asl : IsBlockText Asl stated further bytes after

-- comments say why not all terms can be read, and have the ASL of the others
pub record IsInPart (stated : List (List ℕ × ℕ)) (further : List Callee) (bytes : List ℕ) (fault : Fault) (after : List ℕ)
    : Type 0 where
  pub part : List ℕ
  pub in_part : IsTextInPart Asl stated further bytes part
  pub is : after ≡ error_line fault ++ comment part

-- The bytes are shown, since not all terms can be read.
pub record HasNoAsl (bare : Bool) (stated : List (List ℕ × ℕ)) (further : List Callee) (bytes text after : List ℕ)
    (unread : Option Fault) : Type 0 where
  pub shows : IsTextAs bare bytes text
  pub error : ReadError
  pub no_memory : error ≢ Memory
  pub no_terms : AreNoTerms stated further (drop 36 bytes) error
  pub fault : Fault
  pub says : IsFaultAfter 36 error fault
  pub in_part : IsInPart stated further bytes fault after
  pub is : unread ≡ Some fault

-- a definition block, or any other table
abbrev pub IsShownBy : Bool → Bool → List (List ℕ × ℕ) → List Callee → List ℕ → List ℕ → List ℕ → Option Fault → Type 0
IsShownBy true bare stated further bytes text after unread =
    (IsAsl bare stated further bytes text after × (unread ≡ None)) ⊎ HasNoAsl bare stated further bytes text after unread
IsShownBy false bare stated further bytes text after unread = IsTextAs bare bytes text × (after ≡ []) × (unread ≡ None)

-- What the options print, and why not all terms can be read. With `--bytes` the bytes of a definition block are shown, and its
-- terms are comments, or why they can't be read.
abbrev pub IsShownAs : Style → List (List ℕ × ℕ) → List Callee → List ℕ → List ℕ → List ℕ → Option Fault → Type 0
IsShownAs Usual stated further bytes text after unread = IsShownBy (has_terms bytes) false stated further bytes text after unread
IsShownAs Bare stated further bytes text after unread = IsShownBy (has_terms bytes) true stated further bytes text after unread
IsShownAs Bytes stated further bytes text after unread =
    IsTextAs false bytes text × IsAfter stated bytes after × (unread ≡ None)

-- what is wrong with a table that is shown: its terms, or else its structures
abbrev pub IsShownFault : Option Fault → List ℕ → Option Fault → Type 0
IsShownFault (Some fault) bytes found = found ≡ Some fault
IsShownFault None bytes found = HasFault (kind_of bytes) bytes found

-- ---- further blocks

-- whether a table is a DSDT, of which a machine has one
abbrev pub is_dsdt : List ℕ × List ℕ → Bool
is_dsdt table = starts_with nat_eq table.1 (codes "DSDT")

-- whether at most one of tables is one, if none or one stands before them
abbrev pub one_dsdt : Bool → List (List ℕ × List ℕ) → Bool
one_dsdt seen [] = true
one_dsdt seen (table ∷ tables) = if is_dsdt table then not seen && one_dsdt true tables else one_dsdt seen tables

abbrev pub of_one_machine : List (List ℕ × List ℕ) → Bool
of_one_machine tables = one_dsdt false tables

-- the objects of a definition block were added to others
abbrev pub AddsBlock : Bool → List (List ℕ × ℕ) → List ℕ → List Callee → List Callee → Type 0
AddsBlock true stated bytes old new = AddObjectsIn stated (drop 36 bytes) old new
AddsBlock false stated bytes old new = new ≡ old

-- those of all definition blocks among tables, in order
abbrev pub AddsBlocks : List (List ℕ × ℕ) → List (List ℕ × List ℕ) → List Callee → List Callee → Type 0
AddsBlocks stated [] old new = new ≡ old
AddsBlocks stated (table ∷ tables) old new =
    (between : List Callee) × AddsBlock (has_terms table.1) stated table.1 old between × AddsBlocks stated tables between new

-- The objects that each block may name besides its own: those of all blocks, if there are several tables and they are those of
-- one machine.
abbrev pub AreFurtherBy : Bool → List (List ℕ × ℕ) → List (List ℕ × List ℕ) → List Callee → Type 0
AreFurtherBy true stated tables further = AddsBlocks stated tables [] further
AreFurtherBy false stated tables further = further ≡ []

abbrev pub AreFurther : List (List ℕ × ℕ) → List (List ℕ × List ℕ) → List Callee → Type 0
AreFurther stated tables further = AreFurtherBy (nat_lt 1 (length tables) && of_one_machine tables) stated tables further
