-- The text of a table.
use Rattle.std.specs.Prelude.{ℕ, nat_lt, if◌then◌else◌, List, ◌∷◌, ◌++◌, Option, Some, None}
use Rattle.acpi_base.specs.declared.walk.Walk.{Walk}
use Rattle.acpi_text.specs.Form.{number_at}
use Rattle.acpi_text.specs.Label.{label}
use Rattle.acpi_text.specs.Piece.{pieces_text, front_then, parts_text}
use Rattle.acpi_text.specs.Size.{front_size}
use Rattle.acpi_text.specs.Structure.{all_forms, content_text, piece_text}
use Rattle.acpi_text.specs.declared.form.TableForm.{TableForm}

-- where the structures begin: at the offset that the table itself has, if it isn't below the one that its walk has
abbrev pub start_of : Walk → List ℕ → ℕ
start_of walk bytes =
    if nat_lt (number_at walk.first bytes) walk.start then walk.start else number_at walk.first bytes

-- the fields before structures, and these; without a walk, what the form says
abbrev pub body_text : TableForm → Option Walk → List ℕ → List ℕ
body_text form None bytes = content_text form.parts.now form.inner.now 0 bytes
body_text form (Some walk) bytes =
    front_then (parts_text form.parts.now) (start_of walk bytes)
    (λ k rest. pieces_text (front_size walk.sizes) (piece_text walk.kind (all_forms form)) k rest) 0 bytes

-- a table's name, and its bytes
abbrev pub table_text : TableForm → Option Walk → List ℕ → List ℕ
table_text form walk bytes = label form.name.now ++ (10 ∷ body_text form walk bytes)
