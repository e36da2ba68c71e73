-- How the report and its comments are put together: a list of comments, one for each line, and the lines with these comments.
use Rattle.std.specs.Prelude.{ℕ, ◌==◌, Bool, if◌then◌else◌, List, [], ◌∷◌, ◌++◌, length, replicate}
use Rattle.acpi_term.specs.Tree.{Head, def_field, def_index_field, def_bank_field, Terms, end, term}
use Rattle.acpi_terms_text.specs.Comment.{has_ids, note, comment}

-- the lines of a field's entries have no comments
abbrev pub entry_notes : Head → List (List ℕ)
entry_notes (def_field name access lock update entries) = replicate (length entries) []
entry_notes (def_index_field index name access lock update entries) = replicate (length entries) []
entry_notes (def_bank_field name bank access lock update entries) = replicate (length entries) []
entry_notes _ = []

-- the comment of each line of the report of terms, in order; it is empty if the line has none
abbrev pub notes : Bool → Terms → List (List ℕ)
notes ids end = []
notes ids (term h w children others) =
    note ids h w children ∷ (entry_notes h ++ (notes (has_ids ids h) children ++ notes ids others))

-- a text with a comment before the end of each line
abbrev pub woven : List ℕ → List (List ℕ) → List ℕ
woven [] notes = []
woven (c ∷ text) [] = c ∷ text
woven (c ∷ text) (n ∷ notes) = if c == 10 then comment n ++ (10 ∷ woven text notes) else c ∷ woven text (n ∷ notes)
