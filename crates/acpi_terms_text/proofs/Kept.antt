-- Comments are one line each, and leave the lines of the report.
use Rattle.std.proofs.Common.{◌≡◌, ◌≢◌, ℕ, zero, suc, ◌+◌, ◌-◌, ◌/◌, ◌%◌, ◌^◌, ◌==◌, ◌&&◌, Bool, true, false, List, [], ◌∷◌, ◌++◌, length, take, subst, refl, append_assoc, arith}
use Rattle.std.specs.Prelude.{codes, replicate, nat_lt, if◌then◌else◌}
use Rattle.std.specs.Int.{w32, swap_bytes}
use Rattle.std.proofs.lemmas.Bool.{eqb-true, and_parts}
use Rattle.std.proofs.lemmas.Bool.Decides.{nat_tests}
use Rattle.acpi_term.specs.declared.mode.Mode.TheVariants.{Term}
use Rattle.acpi_term.specs.Tree.{Head, number, ones, string, local, arg, call, def_scope, def_device, def_method, def_power_res, def_field, def_op_region, def_name, def_mutex, def_acquire, def_release, def_buffer, def_package, def_var_package, def_if, def_while, def_else, op, def_external, def_leveled_method, def_processor, def_thermal_zone, def_roomy_package, def_index_field, def_bank_field, def_fatal, match_test, def_timeout, unread, Terms, end, term}
use Rattle.acpi_read.specs.Lines.{hex_bytes, lines}
use Rattle.acpi_terms_text.specs.Eisa.{upper_digit, upper_byte, is_id, id_text, eisa_text}
use Rattle.acpi_terms_text.specs.Uuid.{uuid_text}
use Rattle.acpi_terms_text.specs.Descriptor.{names, item_size, item_type, is_space, space_names, or_space, space_name, item_name, is_template, template_text}
use Rattle.acpi_terms_text.specs.Word.{word_in}
use Rattle.acpi_terms_text.specs.Comment.{has_ids, buffer_text, has_size, number_note, note, comment}
use Rattle.acpi_terms_text.specs.Woven.{entry_notes, notes, woven}
use Rattle.acpi_terms_text.specs.Laws.{IsOneLine, HasLines, same, plain, noted, LinesAreKept}
use Rattle.acpi_terms_text.proofs.Single.{one_and, either_line, is_line, tested, bytes_line}
use Rattle.acpi_terms_text.proofs.Placed.{in_place}

-- ---- digits

upper_line : (n : ℕ) → upper_digit n ≢ 10
upper_line n = λ e. absurd (grind (arith, nat_tests, e))

letter_line : (n : ℕ) → 64 + n ≢ 10
letter_line n = λ e. absurd (omega (arith, e))

byte_line : (b : ℕ) → IsOneLine (upper_byte b)
byte_line b = (upper_line (b / 16), (upper_line (b % 16), tt))

id_line : (n : ℕ) → IsOneLine (id_text n)
id_line n =
    (letter_line (n / 2 ^ 26), (letter_line (n / 2 ^ 21 % 32), (letter_line (n / 2 ^ 16 % 32), one_and (upper_byte (n / 2 ^ 8 % 256)) (upper_byte (n % 256)) (byte_line (n / 2 ^ 8 % 256)) (byte_line (n % 256)))))

eisa_line : (v : ℕ) → IsOneLine (eisa_text v)
eisa_line v = either_line (is_id (swap_bytes w32 v)) (id_text (swap_bytes w32 v)) (id_line (swap_bytes w32 v))

-- digits and `-` before other digits
abbrev before : List ℕ → List ℕ → List ℕ
before bytes text = hex_bytes bytes ++ ((0x2d ∷ []) ++ text)

before_line : (bytes text : List ℕ) → IsOneLine text → IsOneLine (before bytes text)
before_line bytes text one = one_and (hex_bytes bytes) (0x2d ∷ text) (bytes_line bytes) (one_and (0x2d ∷ []) text (tested (0x2d ∷ []) refl) one)

uuid_line : (bytes : List ℕ) → IsOneLine (uuid_text bytes)
uuid_line [] = tt
uuid_line (a ∷ []) = tt
uuid_line (a ∷ b ∷ []) = tt
uuid_line (a ∷ b ∷ c ∷ []) = tt
uuid_line (a ∷ b ∷ c ∷ d ∷ []) = tt
uuid_line (a ∷ b ∷ c ∷ d ∷ e ∷ []) = tt
uuid_line (a ∷ b ∷ c ∷ d ∷ e ∷ f ∷ []) = tt
uuid_line (a ∷ b ∷ c ∷ d ∷ e ∷ f ∷ g ∷ []) = tt
uuid_line (a ∷ b ∷ c ∷ d ∷ e ∷ f ∷ g ∷ h ∷ []) = tt
uuid_line (a ∷ b ∷ c ∷ d ∷ e ∷ f ∷ g ∷ h ∷ i ∷ []) = tt
uuid_line (d ∷ c ∷ b ∷ a ∷ f ∷ e ∷ h ∷ g ∷ i ∷ j ∷ node) =
    let last = hex_bytes node in
    let fourth = before (i ∷ j ∷ []) last in
    let third = before (g ∷ h ∷ []) fourth in
    let second = before (e ∷ f ∷ []) third in
    before_line (a ∷ b ∷ c ∷ d ∷ []) second (before_line (e ∷ f ∷ []) third (before_line (g ∷ h ∷ []) fourth (before_line (i ∷ j ∷ []) last (bytes_line node))))

-- ---- names of descriptors

abbrev are_lines : List (ℕ × List ℕ) → Bool
are_lines [] = true
are_lines (row ∷ rows) = is_line row.1 && are_lines rows

name_line : (rows : List (ℕ × List ℕ)) (n : ℕ) → are_lines rows ≡ true → IsOneLine (word_in rows n)
name_line [] n are = tt
name_line (row ∷ rows) n are =
    let parts = and_parts (is_line row.1) (are_lines rows) are in
    elim (row.0 == n) as (λ v. IsOneLine (if v then row.1 else word_in rows n)) [
      | true ↦ tested row.1 parts.0
      | false ↦ name_line rows n parts.1
    ]

or_line : (name : List ℕ) → IsOneLine name → IsOneLine (or_space name)
or_line [] one = tested (codes "Space") refl
or_line (c ∷ name) one = one

space_line : (item : List ℕ) → IsOneLine (space_name item)
space_line [] = tested (codes "Space") refl
space_line (a ∷ []) = tested (codes "Space") refl
space_line (a ∷ b ∷ []) = tested (codes "Space") refl
space_line (a ∷ b ∷ c ∷ []) = tested (codes "Space") refl
space_line (a ∷ b ∷ c ∷ n ∷ more) = or_line (word_in space_names n) (name_line space_names n refl)

item_line : (tag : ℕ) (more : List ℕ) → IsOneLine (item_name tag more)
item_line tag more =
    one_and (word_in names (item_type tag)) _ (name_line names (item_type tag) refl)
    (either_line (is_space (item_type tag)) _ (space_line (take (item_size (tag ∷ more)) (tag ∷ more))))

template_line : (left : ℕ) (bytes : List ℕ) → IsOneLine (template_text left bytes)
template_line zero [] = tt
template_line (suc left) [] = tt
template_line (suc left) (b ∷ bytes) = template_line left bytes
template_line zero (b ∷ bytes) =
    elim (b == 0x79) as (λ v. IsOneLine (if v then codes "EndTag" else item_name b bytes ++ (codes ", " ++ template_text (item_size (b ∷ bytes) - 1) bytes))) [
      | true ↦ tested (codes "EndTag") refl
      | false ↦ one_and (item_name b bytes) _ (item_line b bytes) (one_and (codes ", ") _ (tested (codes ", ") refl) (template_line (item_size (b ∷ bytes) - 1) bytes))
    ]

-- ---- the comments of terms

buffer_line : (bytes : List ℕ) → IsOneLine (buffer_text bytes)
buffer_line bytes =
    elim (is_template 0 bytes) as (λ v. IsOneLine (if v then template_text 0 bytes else (if length bytes == 16 then uuid_text bytes else []))) [
      | true ↦ template_line 0 bytes
      | false ↦ either_line (length bytes == 16) (uuid_text bytes) (uuid_line bytes)
    ]

number_line : (ids : Bool) (w v : ℕ) → IsOneLine (number_note ids w v)
number_line ids w v = either_line (ids && (w == 4 && nat_lt v (2 ^ 32))) (eisa_text v) (eisa_line v)

note_line : (ids : Bool) (h : Head) (w : ℕ) (c : Terms) → IsOneLine (note ids h w c)
note_line ids (number v) w c = number_line ids w v
note_line ids ones w c = tt
note_line ids (string s) w c = tt
note_line ids (local k) w c = tt
note_line ids (arg k) w c = tt
note_line ids (call name) w c = tt
note_line ids (def_scope name) w c = tt
note_line ids (def_device name) w c = tt
note_line ids (def_method name args serialized) w c = tt
note_line ids (def_power_res name level order) w c = tt
note_line ids (def_field name access lock update entries) w c = tt
note_line ids (def_op_region name space) w c = tt
note_line ids (def_name name) w c = tt
note_line ids (def_mutex name level) w c = tt
note_line ids (def_acquire name timeout) w c = tt
note_line ids (def_release name) w c = tt
note_line ids (def_buffer bytes) w c = either_line (has_size (length bytes) c) (buffer_text bytes) (buffer_line bytes)
note_line ids def_package w c = tt
note_line ids def_var_package w c = tt
note_line ids def_if w c = tt
note_line ids def_while w c = tt
note_line ids def_else w c = tt
note_line ids (def_external name kind args) w c = tt
note_line ids (def_leveled_method name args serialized level) w c = tt
note_line ids (def_processor name id address size) w c = tt
note_line ids (def_thermal_zone name) w c = tt
note_line ids (def_roomy_package room) w c = tt
note_line ids (def_index_field index name access lock update entries) w c = tt
note_line ids (def_bank_field name bank access lock update entries) w c = tt
note_line ids (def_fatal kind code) w c = tt
note_line ids (match_test k) w c = tt
note_line ids (def_timeout t) w c = tt
note_line ids (unread error bytes) w c = tt
note_line ids (op o) w c = tt

-- each of a list is one line
abbrev AreOneLine : List (List ℕ) → Type 0
AreOneLine [] = Unit {0}
AreOneLine (n ∷ notes) = IsOneLine n × AreOneLine notes

all_and : (a b : List (List ℕ)) → AreOneLine a → AreOneLine b → AreOneLine (a ++ b)
all_and [] b p q = q
all_and (n ∷ a) b p q = (p.0, all_and a b p.1 q)

no_lines : (n : ℕ) → AreOneLine (replicate n [])
no_lines zero = tt
no_lines (suc n) = (tt, no_lines n)

entries_lines : (h : Head) → AreOneLine (entry_notes h)
entries_lines (number v) = tt
entries_lines ones = tt
entries_lines (string s) = tt
entries_lines (local k) = tt
entries_lines (arg k) = tt
entries_lines (call name) = tt
entries_lines (def_scope name) = tt
entries_lines (def_device name) = tt
entries_lines (def_method name args serialized) = tt
entries_lines (def_power_res name level order) = tt
entries_lines (def_field name access lock update entries) = no_lines (length entries)
entries_lines (def_op_region name space) = tt
entries_lines (def_name name) = tt
entries_lines (def_mutex name level) = tt
entries_lines (def_acquire name timeout) = tt
entries_lines (def_release name) = tt
entries_lines (def_buffer bytes) = tt
entries_lines def_package = tt
entries_lines def_var_package = tt
entries_lines def_if = tt
entries_lines def_while = tt
entries_lines def_else = tt
entries_lines (def_external name kind args) = tt
entries_lines (def_leveled_method name args serialized level) = tt
entries_lines (def_processor name id address size) = tt
entries_lines (def_thermal_zone name) = tt
entries_lines (def_roomy_package room) = tt
entries_lines (def_index_field index name access lock update entries) = no_lines (length entries)
entries_lines (def_bank_field name bank access lock update entries) = no_lines (length entries)
entries_lines (def_fatal kind code) = tt
entries_lines (match_test k) = tt
entries_lines (def_timeout t) = tt
entries_lines (unread error bytes) = tt
entries_lines (op o) = tt

notes_lines : (ids : Bool) (ts : Terms) → AreOneLine (notes ids ts)
notes_lines ids end = tt
notes_lines ids (term h w c others) =
    (note_line ids h w c, all_and (entry_notes h) _ (entries_lines h) (all_and (notes (has_ids ids h) c) _ (notes_lines (has_ids ids h) c) (notes_lines ids others)))

-- ---- lines

is_ten : (c : ℕ) → (c == 10) ≡ true → c ≡ 10
is_ten c is = eqb-true c 10 is

other : (c : ℕ) → (c == 10) ≡ false → c ≢ 10
other c is = λ e. absurd (grind (arith, nat_tests, e, is))

ended : (line text n : List ℕ) (notes : List (List ℕ)) → IsOneLine line → IsOneLine n → HasLines text (woven text notes)
    → HasLines (line ++ 10 ∷ text) (line ++ (comment n ++ (10 ∷ woven text notes)))
ended line text [] notes one single kept = plain line one kept
ended line text (c ∷ n) notes one single kept = noted line (c ∷ n) one single kept

-- from within a line
from_line : (line text : List ℕ) (notes : List (List ℕ)) → IsOneLine line → AreOneLine notes → HasLines (line ++ text) (line ++ woven text notes)
from_line line [] notes one are = same
from_line line (c ∷ text) [] one are = same
from_line line (c ∷ text) (n ∷ notes) one are =
    elim (c == 10) as (λ v. (c == 10) ≡ v → HasLines (line ++ (c ∷ text)) (line ++ (if v then comment n ++ (10 ∷ woven text notes) else c ∷ woven text (n ∷ notes)))) [
      | true ↦ λ is. rw (is_ten c is) (ended line text n notes one are.0 (from_line [] text notes tt are.1))
      | false ↦ λ is.
          let longer = from_line (line ++ c ∷ []) text (n ∷ notes) (one_and line (c ∷ []) one (other c is, tt)) are in
          subst (λ (l : List ℕ). HasLines (line ++ (c ∷ text)) l) (append_assoc line (c ∷ []) (woven text (n ∷ notes)))
          (subst (λ (l : List ℕ). HasLines l ((line ++ c ∷ []) ++ woven text (n ∷ notes))) (append_assoc line (c ∷ []) text) longer)
    ] refl

woven_kept : (ts : Terms) → HasLines (lines 0 ts) (woven (lines 0 ts) (notes false ts))
woven_kept ts = from_line [] (lines 0 ts) (notes false ts) tt (notes_lines false ts)

pub lines_kept : LinesAreKept
lines_kept g bytes ts spelled = subst (λ (l : List ℕ). HasLines (lines 0 ts) l) (in_place g Term ts spelled.0) (woven_kept ts)
