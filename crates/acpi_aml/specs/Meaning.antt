-- The terms that objects spell.
use Rattle.std.specs.Prelude.{◌≡◌, ℕ, List, length, None}
use Rattle.acpi_base.specs.Object.{Object, all_of}
use Rattle.acpi_term.specs.declared.language.Language.TheVariants.{Written}
use Rattle.acpi_term.specs.declared.mode.Mode.{Mode}
use Rattle.acpi_term.specs.Tree.{Head, Terms, one}
use Rattle.acpi_term.specs.Row.{row, writer_width}
use Rattle.acpi_term.specs.Spelling.{inner, Spells, SpellEach}

-- If the object has no error, its bytes spell the term in every place.
abbrev pub Means : (List ℕ → ℕ) → Object → Terms → Type 0
Means arity object t = (m : Mode) → object.end ≡ None → Spells arity m object.front t

-- the term of a head over the terms of these objects, in the width that is written
abbrev pub written : Head → List Object → Terms → Terms
written h objects ts = one h (writer_width h (length objects) (all_of objects).front) ts

-- If each object spells a term, the row of the head over the objects spells the term of this head over these terms.
abbrev pub RowMeans : (List ℕ → ℕ) → Head → List Object → Type 0
RowMeans arity h objects = (ts : Terms) → SpellEach arity (inner Written h) objects ts
    → Means arity (row h objects) (written h objects ts)
