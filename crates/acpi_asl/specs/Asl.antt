-- The ASL of terms and of a definition block (ACPI 6.5, 19.2).
use Rattle.std.specs.Prelude.{◌≡◌, ℕ, Bool, if◌then◌else◌, List, [], ◌++◌, take, drop, slice_index, codes}
use Rattle.std.specs.Fmt.{decimal}
use Rattle.acpi_base.specs.Bytes.{field_at}
use Rattle.acpi_term.specs.Tree.{Head, Terms, end, term, count}
use Rattle.acpi_term.specs.View.{Parts}
use Rattle.acpi_asl.specs.declared.place.Body.TheVariants.{Statements}
use Rattle.acpi_asl.specs.declared.place.Place.{Place}
use Rattle.acpi_asl.specs.Absent.{absent_text}
use Rattle.acpi_asl.specs.Content.{up_to_zero}
use Rattle.acpi_asl.specs.Note.{note}
use Rattle.acpi_asl.specs.Number.{hex, string_text}
use Rattle.acpi_asl.specs.Opening.{further, opening}
use Rattle.acpi_asl.specs.Place.{place, place_in, in_braces, next, is_statement, is_left_out, depth_in}
use Rattle.acpi_asl.specs.Place.{before, after, opened, closed}
use Rattle.acpi_asl.specs.Row.{rows}
use Rattle.acpi_asl.specs.Special.{is_external_block, block_note, is_special, special_text}

-- ---- terms

-- a head with n children around their text
abbrev pub around : Bool → Head → ℕ → ℕ → ℕ → List ℕ → List ℕ
around statement h w n d inside = opening statement h w n d ++ inside ++ rows h d ++ closed (place h n).body d

-- the terms in a place of a term at depth d
abbrev pub texts : Place → ℕ → Terms → List ℕ
texts p d end = []
texts p d (term h w children others) =
    before p (is_left_out p h w) d
    ++ note h w children ++ block_note p h children
    ++ (if is_special p h w children then special_text p h w children (depth_in p d)
    else around (is_statement p) h w (count children) (depth_in p d)
    (texts (place_in p h (count children)) (depth_in p d) children))
    ++ after p d
    ++ texts (next p (is_external_block h children)) d others

-- the place after terms
abbrev pub place_after : Place → Terms → Place
place_after p end = p
place_after p (term h w children others) = place_after (next p (is_external_block h children)) others

-- a term in a place, at its own depth
abbrev pub whole : Place → ℕ → Parts → List ℕ
whole p d t =
    if is_special p t.0 t.1 t.2 then special_text p t.0 t.1 t.2 d
    else around (is_statement p) t.0 t.1 (count t.2) d (texts (place_in p t.0 (count t.2)) d t.2)

-- The text of terms was added, and `left` is the place after them.
pub record AreWritten (p : Place) (d : ℕ) (ts : Terms) (left : Place) (old new : List ℕ) : Type 0 where
  pub added : new ≡ old ++ texts p d ts
  pub place : left ≡ place_after p ts

-- ---- definition blocks

-- the characters of this many bytes of a header at an offset
unfoldable pub header_text : ℕ → ℕ → List ℕ → List ℕ
header_text offset n header = string_text (up_to_zero (take n (drop offset header)))

-- The arguments of the definition block with this header (ACPI 6.5, 5.2.6 and 19.6.29): the file, which the compiler names, the
-- signature, the revision, the OEM, its name of the table, and its revision of the table.
abbrev pub definition : List ℕ → List ℕ
definition header =
    codes "DefinitionBlock (\"\"" ++ further (header_text 0 4 header) ++ further (decimal (slice_index header 8))
    ++ (further (header_text 10 6 header) ++ further (header_text 16 8 header) ++ further (hex 4 (field_at 24 4 header)))
    ++ codes ")"

-- The program that made the table, and its revision (ACPI 6.5, 5.2.6). ASL has no word for them, so they are a comment.
abbrev pub creator : List ℕ → List ℕ
creator header =
    codes "/*= Creator " ++ header_text 28 4 header ++ further (hex 4 (field_at 32 4 header)) ++ codes " */\n"

abbrev pub block_line : List ℕ → List ℕ
block_line header = creator header ++ definition header

-- The definition block of a header and terms. The External statements of what it has no object for come first.
abbrev pub asl_text : List ℕ → Terms → List ℕ
asl_text header ts =
    block_line header ++ opened Statements 0 ++ absent_text ts ++ texts (in_braces Statements) 0 ts ++ closed Statements 0
    ++ codes "\n"
