-- Laws about reading, which hold for all calls.
use Rattle.std.specs.Prelude.{◌≡◌, ℕ, ◌≤◌, List, [], ◌∷◌, length, drop, map, None}
use Rattle.acpi_base.specs.Object.{Object, all_of}
use Rattle.acpi_base.specs.Sdt.{added}
use Rattle.acpi_term.specs.declared.mode.Mode.TheVariants.{Term}
use Rattle.acpi_term.specs.declared.read_error.ReadError.{ReadError}
use Rattle.acpi_term.specs.declared.read_error.ReadError.TheVariants.{Memory}
use Rattle.acpi_term.specs.declared.language.Language.TheVariants.{Written}
use Rattle.acpi_term.specs.Language.{Grammar}
use Rattle.acpi_term.specs.Row.{row, writer_width}
use Rattle.acpi_term.specs.Tree.{Head, Terms, end, term, depth}
use Rattle.acpi_term.specs.Spelling.{Takes, IsStandard, IsWritten, SpellsIn, SpellEach, inner}
use Rattle.acpi_read.specs.Terms.{AreRead, IsUnread, AreReadIn, IsUnreadIn}

-- In each language, if bytes spell terms that aren't nested too deep, these terms are what is read, and `Memory` is the only
-- error.
abbrev pub SpelledTermsAreRead : Type 0
SpelledTermsAreRead =
    (g : Grammar) (bytes : List ℕ) (ts : Terms) → SpellsIn g Term bytes ts → depth ts ≤ 255
    → ((us : Terms) → AreReadIn g bytes us → us ≡ ts) × ((e : ReadError) → IsUnreadIn g bytes e → e ≡ Memory)

-- Objects that spell a term each were added to a table without content. The terms that are read from the bytes after the header
-- are those of the objects, if they aren't nested too deep.
abbrev pub DefinitionBlocksAreRead : Type 0
DefinitionBlocksAreRead =
    (arity : List ℕ → ℕ) (header : List ℕ) (objects : List Object) (ts : Terms)
    → length header ≡ 36 → SpellEach arity Term objects ts → (all_of objects).end ≡ None → depth ts ≤ 255
    → ((us : Terms) → AreRead arity (drop 36 (added header (all_of objects).front)) us → us ≡ ts)
    × ((e : ReadError) → IsUnread arity (drop 36 (added header (all_of objects).front)) e → e ≡ Memory)

-- ---- blocks of well-formed parts

-- A part of a definition block: a row of the format around its children, and the terms of these children.
pub record Part : Type 0 where
  pub head : Head
  pub children : List Object
  pub terms : Terms

-- the object that the constructor of the row makes
abbrev pub object_of : Part → Object
object_of p = row p.head p.children

abbrev pub objects_of : List Part → List Object
objects_of parts = map object_of parts

-- Names, texts and numbers are standard, a name has as many arguments as are stated for it, and each child spells its term.
pub record IsWellFormed (arity : List ℕ → ℕ) (p : Part) : Type 0 where
  pub takes : Takes arity Term p.head (length p.children)
  pub is_standard : IsStandard Written p.head
  pub written : IsWritten p.head
  pub spell : SpellEach arity (inner Written p.head) p.children p.terms

abbrev pub AreWellFormed : (List ℕ → ℕ) → List Part → Type 0
AreWellFormed arity [] = Unit {0}
AreWellFormed arity (p ∷ parts) = IsWellFormed arity p × AreWellFormed arity parts

-- the terms that parts mean: for each its head, in the width that is written, over the terms of its children
abbrev pub meaning : List Part → Terms
meaning [] = end
meaning (p ∷ parts) =
    term p.head (writer_width p.head (length p.children) (all_of p.children).front) p.terms (meaning parts)

-- These terms alone are read from the bytes, `Memory` is the only error, and no other bytes give these terms.
pub record AreTheOnlyTerms (arity : List ℕ → ℕ) (bytes : List ℕ) (ts : Terms) : Type 0 where
  pub are : AreRead arity bytes ts
  pub only : (us : Terms) → AreRead arity bytes us → us ≡ ts
  pub errors : (e : ReadError) → IsUnread arity bytes e → e ≡ Memory
  pub others : (other : List ℕ) → AreRead arity other ts → other ≡ bytes

-- Well-formed parts were added to a table of any length, without an error. Then the terms of the bytes after it are those that
-- the parts mean, if they aren't nested too deep.
abbrev pub BlocksMeanTheirParts : Type 0
BlocksMeanTheirParts =
    (arity : List ℕ → ℕ) (start : List ℕ) (parts : List Part)
    → 36 ≤ length start → AreWellFormed arity parts → (all_of (objects_of parts)).end ≡ None → depth (meaning parts) ≤ 255
    → AreTheOnlyTerms arity (drop (length start) (added start (all_of (objects_of parts)).front)) (meaning parts)
