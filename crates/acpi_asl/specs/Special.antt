-- Terms whose text isn't made of their children's.
use Rattle.std.specs.Prelude.{ℕ, ◌==◌, ◌&&◌, ◌||◌, not, Bool, true, false, if◌then◌else◌, List, [], ◌++◌, length, codes}
use Rattle.acpi_term.specs.Tree.{Head, number, def_buffer, def_if, def_external, unread, Terms, end, term}
use Rattle.acpi_asl.specs.declared.place.Place.{Place}
use Rattle.acpi_asl.specs.Eisa.{is_eisa, eisa_text}
use Rattle.acpi_asl.specs.Number.{least_bytes}
use Rattle.acpi_asl.specs.Opening.{opening}
use Rattle.acpi_asl.specs.Place.{is_left_out, is_null, new_line}
use Rattle.acpi_asl.specs.Template.{is_template, template_text}
use Rattle.acpi_asl.specs.Unread.{unread_text}
use Rattle.acpi_terms_text.specs.Scoped.{is_unread}
use Rattle.acpi_terms_text.specs.Uuid.{uuid_text}

-- ---- externals

abbrev pub is_external : Head → Bool
is_external (def_external name kind args) = true
is_external _ = false

abbrev pub are_external : Terms → Bool
are_external end = true
are_external (term h w children others) = is_external h && are_external others

abbrev pub is_end : Terms → Bool
is_end end = true
is_end (term h w children others) = false

-- the terms after the first
abbrev pub after_first : Terms → Terms
after_first end = end
after_first (term h w children others) = others

abbrev pub is_zero_first : Terms → Bool
is_zero_first end = false
is_zero_first (term h w children others) = is_null h w

-- Whether a head with these children is the block in which a compiler writes External statements: `If (Zero)`, and these alone
-- (ACPI 6.5, 19.6.45 and 20.2.5.2). It writes the block itself.
abbrev pub is_external_block : Head → Terms → Bool
is_external_block def_if children =
    is_zero_first children && not (is_end (after_first children)) && are_external (after_first children)
is_external_block _ children = false

-- A compiler makes one block of all External statements, so a block that follows another has a comment.
abbrev pub block_note : Place → Head → Terms → List ℕ
block_note p h children = if p.externals && is_external_block h children then codes "/*= Block */ " else []

-- External statements at a depth, each on a line; the line of the first is begun
abbrev pub externals_text : ℕ → Bool → Terms → List ℕ
externals_text d first end = []
externals_text d first (term h w children others) =
    (if first then [] else new_line d) ++ opening true h w 0 d ++ externals_text d false others

-- ---- resource templates

-- whether a head is a number in its shortest form
abbrev pub is_shortest : ℕ → Head → ℕ → Bool
is_shortest n (number v) w = v == n && w == least_bytes n
is_shortest n _ w = false

abbrev pub has_size : ℕ → Terms → Bool
has_size n end = false
has_size n (term h w children others) = is_shortest n h w

-- whether a head with these children is a buffer that a resource template makes: with the number of its bytes as its size
abbrev pub is_template_buffer : Head → Terms → Bool
is_template_buffer (def_buffer bytes) children = has_size (length bytes) children && is_template false 0 bytes
is_template_buffer _ children = false

-- ---- UUIDs

-- Whether a head in a place is a buffer that ToUUID makes: with 16 bytes, and this number as its size.
abbrev pub is_uuid : Place → Head → Terms → Bool
is_uuid p (def_buffer bytes) children = p.uuids && length bytes == 16 && has_size 16 children
is_uuid p _ children = false

-- the term that a compiler makes into a buffer of these bytes (ACPI 6.5, 19.6.142)
abbrev pub to_uuid : List ℕ → List ℕ
to_uuid bytes = codes "ToUUID (\"" ++ uuid_text bytes ++ codes "\")"

-- ---- all of them

-- whether a head in this width is an id, in a place where numbers are
abbrev pub is_id_number : Place → Head → ℕ → Bool
is_id_number p (number v) w = p.ids && is_eisa w v
is_id_number p _ w = false

-- whether a term in a place is special
abbrev pub is_special : Place → Head → ℕ → Terms → Bool
is_special p h w children =
    is_left_out p h w || is_id_number p h w || is_external_block h children || is_uuid p h children
    || is_template_buffer h children || is_unread h

-- the text of a special term at its depth: none for a target that is left out
abbrev pub special_text : Place → Head → ℕ → Terms → ℕ → List ℕ
special_text p (number v) w children d = if is_left_out p (number v) w then [] else eisa_text v
special_text p (def_buffer bytes) w children d =
    if is_uuid p (def_buffer bytes) children then to_uuid bytes else template_text p.tags d bytes
special_text p (unread error bytes) w children d = unread_text error bytes d
special_text p _ w children d = externals_text d true (after_first children)
