-- The report of terms with comments at the ends of lines.
use Rattle.std.specs.Prelude.{◌≡◌, ℕ, suc, ◌-◌, ◌^◌, nat_lt, ◌==◌, ◌&&◌, ◌||◌, Bool, false, if◌then◌else◌}
use Rattle.std.specs.Prelude.{List, [], ◌∷◌, ◌++◌, length, codes}
use Rattle.std.specs.Str.{bytes_eq}
use Rattle.acpi_term.specs.declared.language.Language.TheVariants.{Standard}
use Rattle.acpi_term.specs.Arity.{grammar_by}
use Rattle.acpi_term.specs.Tree.{Head, number, def_name, def_buffer, def_package, def_roomy_package, Terms, end, term, count}
use Rattle.acpi_read.specs.Lines.{head_text, line, own_lines, term_suffix}
use Rattle.acpi_read.specs.Terms.{AreReadIn}
use Rattle.acpi_terms_text.specs.Eisa.{eisa_text}
use Rattle.acpi_terms_text.specs.Path.{last_segment}
use Rattle.acpi_terms_text.specs.Uuid.{uuid_text}
use Rattle.acpi_terms_text.specs.Descriptor.{is_template, template_text}

-- ---- what the comments say

-- a name whose value is an id (ACPI 6.5, 6.1.5 and 6.1.2)
abbrev pub is_id_name : List ℕ → Bool
is_id_name name = bytes_eq (last_segment name) (codes "_HID") || bytes_eq (last_segment name) (codes "_CID")

-- whether the numbers among a head's children are ids: the value of such a name, and the elements of a package there
abbrev pub has_ids : Bool → Head → Bool
has_ids ids (def_name name) = is_id_name name
has_ids ids def_package = ids
has_ids ids (def_roomy_package room) = ids
has_ids ids _ = false

-- a resource template, or otherwise a UUID if there are 16 bytes
abbrev pub buffer_text : List ℕ → List ℕ
buffer_text bytes = if is_template 0 bytes then template_text 0 bytes else (if length bytes == 16 then uuid_text bytes else [])

abbrev pub is_number : ℕ → Head → Bool
is_number n (number value) = value == n
is_number n _ = false

-- whether the first of a buffer's children, its size, is this number
abbrev pub has_size : ℕ → Terms → Bool
has_size n end = false
has_size n (term h w children others) = is_number n h

-- an id in four bytes
abbrev pub number_note : Bool → ℕ → ℕ → List ℕ
number_note ids w value = if ids && (w == 4 && nat_lt value (2 ^ 32)) then eisa_text value else []

-- the comment of a term: that of a number which is an id, and of a buffer whose size is the number of its bytes
abbrev pub note : Bool → Head → ℕ → Terms → List ℕ
note ids (number value) w children = number_note ids w value
note ids (def_buffer bytes) w children = if has_size (length bytes) children then buffer_text bytes else []
note ids _ w children = []

-- ---- where they are

-- the end of a line with a comment
abbrev pub comment : List ℕ → List ℕ
comment [] = []
comment (c ∷ note) = codes "  // " ++ (c ∷ note)

-- the lines of the report of terms at a depth, each with the comment of its term
abbrev pub noted_lines : Bool → ℕ → Terms → List ℕ
noted_lines ids d end = []
noted_lines ids d (term h w children others) =
    line d (head_text h (count children)) (term_suffix h w children ++ comment (note ids h w children))
    ++ own_lines (suc d) h ++ noted_lines (has_ids ids h) (suc d) children ++ noted_lines ids d others

-- the report of terms with its comments
abbrev pub annotated : Terms → List ℕ
annotated ts = noted_lines false 0 ts

-- The bytes spell these terms with the stated numbers of arguments, and the text is their report with its comments.
pub record IsAnnotated (stated : List (List ℕ × ℕ)) (bytes text : List ℕ) : Type 0 where
  pub terms : Terms
  pub read : AreReadIn (grammar_by Standard stated) bytes terms
  pub is : text ≡ annotated terms
