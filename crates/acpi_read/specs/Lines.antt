-- The report of terms: a line for each, followed by its children, indented by two more spaces.
use Rattle.std.specs.Prelude.{◌≡◌, ◌⊎◌, ℕ, zero, suc, ◌+◌, ◌^◌, nat_lt, nat_le, ◌==◌, ◌&&◌, ◌||◌, not}
use Rattle.std.specs.Prelude.{Bool, true, if◌then◌else◌, List, [], ◌∷◌, ◌++◌, length, map, codes}
use Rattle.std.specs.Fmt.{decimal}
use Rattle.acpi_base.specs.Digit.{hex_byte}
use Rattle.acpi_base.specs.Number.{number_width}
use Rattle.acpi_term.specs.Name.{IsNameString, IsAbove}
use Rattle.acpi_term.specs.Tree.{Entry, named, reserved, access_as, extended_access_as, connection, connection_buffer}
use Rattle.acpi_term.specs.Tree.{Head, number, ones, string, local, arg, call}
use Rattle.acpi_term.specs.Tree.{def_scope, def_device, def_method, def_power_res, def_field, def_op_region}
use Rattle.acpi_term.specs.Tree.{def_name, def_mutex, def_acquire, def_release, def_buffer, def_package}
use Rattle.acpi_term.specs.Tree.{def_var_package, def_if, def_while, def_else, op, Terms, end, term, count}
use Rattle.acpi_term.specs.Tree.{def_external, def_leveled_method, def_processor, def_thermal_zone, def_roomy_package}
use Rattle.acpi_term.specs.Tree.{def_index_field, def_bank_field}
use Rattle.acpi_term.specs.Tree.{def_fatal, match_test, def_timeout, unread}
use Rattle.acpi_term.specs.Length.{least_width}
use Rattle.acpi_term.specs.Operator.{word}
use Rattle.acpi_term.specs.Row.{entry_length, entry_width, Layout, bare, framed, layout, writer_width}
use Rattle.acpi_term.specs.Spelling.{spelling}
use Rattle.acpi_read.specs.Report.{printable}
use Rattle.acpi_read.specs.Size.{content_sizes}

-- ---- bytes and names

-- two hexadecimal digits for each byte
abbrev pub hex_bytes : List ℕ → List ℕ
hex_bytes [] = []
hex_bytes (b ∷ bytes) = hex_byte b ++ hex_bytes bytes

-- a byte of a string: `"`, `\` and a byte that isn't printable become `\x` and two digits
abbrev pub quoted_byte : ℕ → List ℕ
quoted_byte b = if nat_le 32 b && nat_le b 126 && not (b == 34) && not (b == 92) then b ∷ [] else 92 ∷ 120 ∷ hex_byte b

abbrev pub quoted_bytes : List ℕ → List ℕ
quoted_bytes [] = []
quoted_bytes (b ∷ bytes) = quoted_byte b ++ quoted_bytes bytes

-- segments with dots between them
abbrev pub dotted_segments : List ℕ → List ℕ
dotted_segments (a ∷ b ∷ c ∷ d ∷ e ∷ rest) = a ∷ b ∷ c ∷ d ∷ 46 ∷ dotted_segments (e ∷ rest)
dotted_segments bytes = bytes

abbrev pub tail : List ℕ → List ℕ
tail [] = []
tail (b ∷ rest) = rest

-- the segments of a path, without the prefix that counts them; a null path has none
abbrev pub segments_of : List ℕ → List ℕ
segments_of [] = []
segments_of (b ∷ rest) = if b == 46 || b == 0 then rest else (if b == 47 then tail rest else b ∷ rest)

-- a name, or what stands in one after `^`
abbrev pub IsShown : List ℕ → Type 0
IsShown s = IsNameString s ⊎ IsAbove s

-- the text of a name that these bytes spell (ACPI 6.5, 20.2.2)
abbrev pub name_text : List ℕ → List ℕ
name_text [] = []
name_text (b ∷ rest) =
    if b == 92 then 92 ∷ dotted_segments (segments_of rest)
    else (if b == 94 then 94 ∷ name_text rest else dotted_segments (segments_of (b ∷ rest)))

-- ---- widths

-- a width that this library doesn't write
abbrev pub width_suffix : Bool → ℕ → List ℕ
width_suffix chosen w = if chosen then [] else codes " width " ++ decimal w

-- whether a frame of this layout around these bytes can be written
abbrev pub is_writable : Layout → List ℕ → Bool
is_writable (bare before) inside = true
is_writable (framed code before after) inside = nat_lt (4 + length (before ++ (inside ++ after))) (2 ^ 28)

-- whether this library writes a head with n children, which are spelled by the bytes inside, in this width
abbrev pub is_chosen : Head → ℕ → ℕ → List ℕ → Bool
is_chosen h w n inside = w == writer_width h n inside && is_writable (layout h w n) inside

abbrev pub is_entry_chosen : Entry → Bool
is_entry_chosen e = entry_width e == least_width (entry_length e) && nat_lt (entry_length e) (2 ^ 28)

-- ---- lines

-- a buffer's bytes after its size, and a space before them if there are any
abbrev pub data_text : List ℕ → List ℕ
data_text [] = []
data_text (b ∷ bytes) = 32 ∷ hex_bytes (b ∷ bytes)

-- the line of a head with n children
abbrev pub head_text : Head → ℕ → List ℕ
head_text (number v) n = codes "number " ++ decimal v
head_text ones n = codes "ones"
head_text (string s) n = codes "text \"" ++ quoted_bytes s ++ codes "\""
head_text (local k) n = codes "local " ++ decimal k
head_text (arg k) n = codes "arg " ++ decimal k
head_text (call name) n = codes "name " ++ name_text name ++ codes " args " ++ decimal n
head_text (def_scope name) n = codes "scope " ++ name_text name
head_text (def_device name) n = codes "device " ++ name_text name
head_text (def_method name args serialized) n =
    codes "method " ++ name_text name ++ codes " args " ++ decimal args ++ codes " serialized "
    ++ (if serialized then codes "1" else codes "0")
head_text (def_power_res name level order) n = codes "power " ++ name_text name ++ codes " level " ++ decimal level
    ++ codes " order " ++ decimal order
head_text (def_field name access lock update entries) n =
    codes "field " ++ name_text name ++ codes " access " ++ decimal access ++ codes " lock " ++ decimal lock ++ codes " update "
    ++ decimal update
head_text (def_op_region name space) n = codes "region " ++ name_text name ++ codes " space " ++ decimal space
head_text (def_name name) n = codes "define " ++ name_text name
head_text (def_mutex name level) n = codes "mutex " ++ name_text name ++ codes " level " ++ decimal level
head_text (def_acquire name timeout) n = codes "acquire " ++ name_text name ++ codes " timeout " ++ decimal timeout
head_text (def_release name) n = codes "release " ++ name_text name
head_text (def_buffer bytes) n = codes "buffer data" ++ data_text bytes
head_text def_package n = codes "package " ++ decimal n
head_text def_var_package n = codes "varpackage"
head_text def_if n = codes "if"
head_text def_while n = codes "while"
head_text def_else n = codes "else"
head_text (op o) n = word o
head_text (def_external name kind args) n = codes "external " ++ name_text name ++ codes " type " ++ decimal kind
    ++ codes " args " ++ decimal args
head_text (def_leveled_method name args serialized level) n =
    codes "method " ++ name_text name ++ codes " args " ++ decimal args ++ codes " serialized "
    ++ (if serialized then codes "1" else codes "0") ++ codes " level " ++ decimal level
head_text (def_processor name id address size) n = codes "processor " ++ name_text name ++ codes " id " ++ decimal id
    ++ codes " address " ++ decimal address ++ codes " length " ++ decimal size
head_text (def_thermal_zone name) n = codes "thermalzone " ++ name_text name
head_text (def_roomy_package room) n = codes "package " ++ decimal n ++ codes " of " ++ decimal room
head_text (def_index_field index name access lock update entries) n =
    codes "indexfield " ++ name_text index ++ (codes " data " ++ name_text name ++ codes " access " ++ decimal access)
    ++ (codes " lock " ++ decimal lock ++ codes " update " ++ decimal update)
head_text (def_bank_field name bank access lock update entries) n =
    codes "bankfield " ++ name_text name ++ (codes " bank " ++ name_text bank ++ codes " access " ++ decimal access)
    ++ (codes " lock " ++ decimal lock ++ codes " update " ++ decimal update)
head_text (def_fatal kind code) n = codes "fatal type " ++ decimal kind ++ codes " code " ++ decimal code
head_text (match_test k) n = codes "test " ++ decimal k
head_text (def_timeout t) n = codes "timeout " ++ decimal t
head_text (unread error bytes) n = codes "unread" ++ data_text bytes

-- the indentation of a line
abbrev pub indent : ℕ → List ℕ
indent zero = []
indent (suc d) = 32 ∷ 32 ∷ indent d

abbrev pub line : ℕ → List ℕ → List ℕ → List ℕ
line d said width = indent d ++ said ++ width ++ 10 ∷ []

abbrev pub access_words : ℕ → ℕ → List ℕ
access_words access attribute = (codes "access type " ++ decimal access) ++ (codes " attribute " ++ decimal attribute)

abbrev pub entry_text : Entry → List ℕ
entry_text (named name bits w) = codes "entry " ++ map printable name ++ codes " bits " ++ decimal bits
entry_text (reserved bits w) = codes "reserved bits " ++ decimal bits
entry_text (access_as access attribute) = access_words access attribute
entry_text (extended_access_as access attribute size) = access_words access attribute ++ (codes " length " ++ decimal size)
entry_text (connection name) = codes "connection " ++ name_text name
entry_text (connection_buffer w size v bytes) =
    codes "connection size " ++ decimal size ++ width_suffix (v == number_width size) v ++ (codes " data" ++ data_text bytes)

abbrev pub entry_line : ℕ → Entry → List ℕ
entry_line d e = line d (entry_text e) (width_suffix (is_entry_chosen e) (entry_width e))

abbrev pub entry_lines : ℕ → List Entry → List ℕ
entry_lines d [] = []
entry_lines d (e ∷ entries) = entry_line d e ++ entry_lines d entries

-- the lines of a field's entries, which aren't terms
abbrev pub own_lines : ℕ → Head → List ℕ
own_lines d (def_field name access lock update entries) = entry_lines d entries
own_lines d (def_index_field index name access lock update entries) = entry_lines d entries
own_lines d (def_bank_field name bank access lock update entries) = entry_lines d entries
own_lines d _ = []

-- the width of a term, if the report shows it
abbrev pub term_suffix : Head → ℕ → Terms → List ℕ
term_suffix h w children = width_suffix (is_chosen h w (count children) (spelling children)) w

-- the lines of terms at a depth
abbrev pub lines : ℕ → Terms → List ℕ
lines d end = []
lines d (term h w children others) =
    line d (head_text h (count children)) (term_suffix h w children) ++ own_lines (suc d) h ++ lines (suc d) children
    ++ lines d others

-- The lines of terms were added to a text, and their sizes removed from the front of a list.
pub record AreReported (depth : ℕ) (ts : Terms) (sizes left old new : List ℕ) : Type 0 where
  pub added : new ≡ old ++ lines depth ts
  pub taken : sizes ≡ content_sizes ts ++ left
