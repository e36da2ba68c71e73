-- Comments before a term for what ASL has no word for. `acpitool make` reads them.
use Rattle.std.specs.Prelude.{ℕ, ◌+◌, ◌-◌, ◌==◌, nat_lt, Bool, true, false, if◌then◌else◌, List, [], ◌++◌, length, codes}
use Rattle.std.specs.Fmt.{decimal}
use Rattle.acpi_term.specs.Length.{limit, least_width}
use Rattle.acpi_term.specs.Row.{Layout, bare, framed, layout}
use Rattle.acpi_term.specs.Spelling.{spelling}
use Rattle.acpi_term.specs.Tree.{Entry, named, reserved, connection_buffer}
use Rattle.acpi_term.specs.Tree.{Head, number, def_external, def_var_package, Terms, end, term, count}

-- the content that the length of a frame counts, besides itself
abbrev pub content : Layout → List ℕ → List ℕ
content (bare before) inside = before ++ inside
content (framed code before after) inside = before ++ (inside ++ after)

abbrev pub has_frame : Layout → Bool
has_frame (bare before) = false
has_frame (framed code before after) = true

-- Whether a PkgLength of this width could have a byte less for a content of n bytes. A compiler writes the fewest bytes.
abbrev pub is_long : ℕ → ℕ → Bool
is_long w n = nat_lt (w - 1 + n) (limit (w - 1))

abbrev pub length_text : ℕ → List ℕ
length_text w = codes "/*= PkgLength " ++ decimal w ++ codes " */ "

abbrev pub length_note : Layout → ℕ → List ℕ → List ℕ
length_note l w inside = if has_frame l then (if is_long w (length (content l inside)) then length_text w else []) else []

abbrev pub is_number : Head → Bool
is_number (number v) = true
is_number _ = false

abbrev pub is_number_first : Terms → Bool
is_number_first end = false
is_number_first (term h w children others) = is_number h

-- A compiler makes a Package of a number of elements that is a number. It writes External statements into a block of their own.
abbrev pub head_note : Head → Terms → List ℕ
head_note def_var_package children = if is_number_first children then codes "/*= VarPackage */ " else []
head_note (def_external name kind args) children = codes "/*= Alone */ "
head_note _ children = []

-- A compiler writes the bits of a field's entry, and the length of its buffer, in the least width of lengths.
abbrev pub width_note : ℕ → ℕ → List ℕ
width_note w n = if w == least_width n then [] else length_text w

-- the comment before an entry of a field
abbrev pub entry_note : Entry → List ℕ
entry_note (named name bits w) = width_note w bits
entry_note (reserved bits w) = width_note w bits
entry_note (connection_buffer w size v bytes) = width_note w (1 + v + length bytes)
entry_note _ = []

-- the comments before a head with these children
abbrev pub note : Head → ℕ → Terms → List ℕ
note h w children = length_note (layout h w (count children)) w (spelling children) ++ head_note h children
