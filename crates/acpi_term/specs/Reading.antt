-- Reading terms from left to right, up to a given depth. These functions don't define the spelling: proofs/Again and proofs/Taken
-- show that they read exactly what is spelled, which is why bytes spell one list at most. They are in specs/ because the reader's
-- code is compared with them, part by part. The contracts of the reader name the spelling alone.
use Rattle.std.specs.Prelude.{ℕ, zero, suc, ◌+◌, ◌-◌, ◌*◌, ◌/◌, ◌%◌, ◌==◌, ◌&&◌, nat_lt, nat_le, Bool, false, not}
use Rattle.std.specs.Prelude.{if◌then◌else◌, List, [], ◌∷◌, ◌++◌, length, take, drop, Option, Some, None, Result, Ok, Err}
use Rattle.acpi_term.specs.declared.op.Op.{Op}
use Rattle.acpi_term.specs.declared.op.Op.TheVariants.{Acquire, Release}
use Rattle.acpi_term.specs.declared.mode.Mode.{Mode}
use Rattle.acpi_term.specs.declared.mode.Mode.TheVariants.{Term, Element}
use Rattle.acpi_term.specs.Tree.{Entry, named, reserved, access_as, extended_access_as, connection, connection_buffer}
use Rattle.acpi_term.specs.Tree.{Head, number, ones, string, local, arg, call}
use Rattle.acpi_term.specs.Tree.{def_scope, def_device, def_method, def_power_res, def_field, def_op_region}
use Rattle.acpi_term.specs.Tree.{def_name, def_mutex, def_acquire, def_release, def_buffer, def_package}
use Rattle.acpi_term.specs.Tree.{def_var_package, def_if, def_while, def_else, op, Terms, end, term, count}
use Rattle.acpi_term.specs.Tree.{def_external, def_leveled_method, def_processor, def_thermal_zone, def_roomy_package}
use Rattle.acpi_term.specs.Tree.{def_index_field, def_bank_field}
use Rattle.acpi_term.specs.Tree.{def_fatal, match_test, def_timeout}
use Rattle.acpi_term.specs.Name.{is_segment, begins_name}
use Rattle.acpi_term.specs.declared.language.Language.{Language}
use Rattle.acpi_term.specs.declared.language.Language.TheVariants.{Written, Standard}
use Rattle.acpi_term.specs.Language.{Grammar, is_standard, has}
use Rattle.acpi_term.specs.Operator.{operands, op_of, language_of}
use Rattle.acpi_term.specs.Spelling.{arguments, inner, next, is_test, is_timeout}

-- nested deeper than allowed, or any other fault
pub data Fault : Type 0 where
  Deep : Fault
  Bad : Fault

infixl 10 ◌>>=◌
abbrev pub ◌>>=◌ : {A B : Type 0} → Result A Fault → (A → Result B Fault) → Result B Fault
(Ok x) >>= f = f x
(Err e) >>= f = Err e

-- ---- names

abbrev pub segment_at : List ℕ → Result (List ℕ × List ℕ) Fault
segment_at (a ∷ b ∷ c ∷ d ∷ rest) = if is_segment a b c d then Ok (a ∷ b ∷ c ∷ d ∷ [], rest) else Err Bad
segment_at _ = Err Bad

unfoldable pub segments_at : ℕ → List ℕ → Result (List ℕ × List ℕ) Fault
segments_at zero bytes = Ok ([], bytes)
segments_at (suc n) bytes = segment_at bytes >>= λ s. segments_at n s.1 >>= λ t. Ok (s.0 ++ t.0, t.1)

unfoldable pub several_at : List ℕ → Result (List ℕ × List ℕ) Fault
several_at [] = Err Bad
several_at (n ∷ rest) = if nat_lt n 3 then Err Bad else (segments_at n rest >>= λ s. Ok (0x2f ∷ n ∷ s.0, s.1))

unfoldable pub path_at : List ℕ → Result (List ℕ × List ℕ) Fault
path_at [] = Err Bad
path_at (b ∷ rest) =
    if b == 0x2e then (segment_at rest >>= λ s. segment_at s.1 >>= λ t. Ok (0x2e ∷ s.0 ++ t.0, t.1))
    else (if b == 0x2f then several_at rest else segment_at (b ∷ rest))

unfoldable pub name_at : List ℕ → Result (List ℕ × List ℕ) Fault
name_at [] = Err Bad
name_at (b ∷ rest) = if b == 0x5c then (path_at rest >>= λ s. Ok (0x5c ∷ s.0, s.1)) else path_at (b ∷ rest)

-- after `^`
unfoldable pub above_at : List ℕ → Result (List ℕ × List ℕ) Fault
above_at [] = Err Bad
above_at (b ∷ rest) =
    if b == 0x00 then Ok (0x00 ∷ [], rest)
    else (if b == 0x5e then (above_at rest >>= λ s. Ok (0x5e ∷ s.0, s.1)) else path_at (b ∷ rest))

-- after `\`
unfoldable pub root_at : List ℕ → Result (List ℕ × List ℕ) Fault
root_at [] = Err Bad
root_at (b ∷ rest) = if b == 0x00 then Ok (0x5c ∷ 0x00 ∷ [], rest) else name_at (0x5c ∷ b ∷ rest)

unfoldable pub name_string_at : List ℕ → Result (List ℕ × List ℕ) Fault
name_string_at [] = Err Bad
name_string_at (b ∷ rest) =
    if b == 0x5e then (above_at rest >>= λ s. Ok (0x5e ∷ s.0, s.1))
    else (if b == 0x5c then root_at rest else name_at (b ∷ rest))

-- a name of a language
abbrev pub name_in : Language → List ℕ → Result (List ℕ × List ℕ) Fault
name_in Written bytes = name_at bytes
name_in Standard bytes = name_string_at bytes

-- ---- frames

abbrev pub cut_at : ℕ → List ℕ → Result (List ℕ × List ℕ) Fault
cut_at n bytes = if nat_lt (length bytes) n then Err Bad else Ok (take n bytes, drop n bytes)

-- a number of k bytes, lowest first
unfoldable pub high_at : ℕ → List ℕ → Result (ℕ × List ℕ) Fault
high_at zero bytes = Ok (0, bytes)
high_at (suc k) [] = Err Bad
high_at (suc k) (b ∷ rest) = high_at k rest >>= λ h. Ok (b + 256 * h.0, h.1)

abbrev pub long_at : ℕ → ℕ → List ℕ → Result (ℕ × ℕ × List ℕ) Fault
long_at k low bytes = if nat_lt low 16 then (high_at k bytes >>= λ h. Ok (k + 1, low + 16 * h.0, h.1)) else Err Bad

-- a length in any width: its width, its value and the bytes after it
unfoldable pub length_at : List ℕ → Result (ℕ × ℕ × List ℕ) Fault
length_at [] = Err Bad
length_at (b ∷ rest) = if nat_lt b 64 then Ok (1, b, rest) else long_at (b / 64) (b % 64) rest

abbrev pub sized_at : ℕ → ℕ → List ℕ → Result (ℕ × List ℕ × List ℕ) Fault
sized_at w v rest = if nat_lt v w then Err Bad else (cut_at (v - w) rest >>= λ c. Ok (w, c.0, c.1))

-- the width of a frame's length, the frame's content, and the bytes after it
unfoldable pub frame_at : List ℕ → Result (ℕ × List ℕ × List ℕ) Fault
frame_at bytes = length_at bytes >>= λ l. sized_at l.0 l.1 l.2

-- ---- fields

-- what this library doesn't write
abbrev pub further : {A : Type 0} → Language → Result A Fault → Result A Fault
further l read = if has l Standard then read else Err Bad

abbrev pub constant_in : ℕ → List ℕ → Result (ℕ × ℕ × List ℕ) Fault
constant_in w bytes = high_at w bytes >>= λ h. Ok (h.0, w, h.1)

-- a number in any width: its value, its width and the bytes after it
unfoldable pub constant_at : List ℕ → Result (ℕ × ℕ × List ℕ) Fault
constant_at [] = Err Bad
constant_at (b ∷ rest) =
    if nat_lt b 2 then Ok (b, 0, rest)
    else (if b == 0x0a then constant_in 1 rest
    else (if b == 0x0b then constant_in 2 rest
    else (if b == 0x0c then constant_in 4 rest
    else (if b == 0x0e then constant_in 8 rest
    else Err Bad))))

abbrev pub access_at : List ℕ → Result (Entry × List ℕ) Fault
access_at (access ∷ attribute ∷ rest) = Ok (access_as access attribute, rest)
access_at _ = Err Bad

abbrev pub extended_access_at : List ℕ → Result (Entry × List ℕ) Fault
extended_access_at (access ∷ attribute ∷ size ∷ rest) = Ok (extended_access_as access attribute size, rest)
extended_access_at _ = Err Bad

unfoldable pub connection_at : Language → List ℕ → Result (Entry × List ℕ) Fault
connection_at l [] = Err Bad
connection_at l (b ∷ rest) =
    if b == 0x11 then (frame_at rest >>= λ f. constant_at f.1 >>= λ c. Ok (connection_buffer f.0 c.0 c.1 c.2, f.2))
    else (name_in l (b ∷ rest) >>= λ n. Ok (connection n.0, n.1))

unfoldable pub entry_at : Language → List ℕ → Result (Entry × List ℕ) Fault
entry_at l [] = Err Bad
entry_at l (b ∷ rest) =
    if b == 0x00 then (length_at rest >>= λ s. Ok (reserved s.1 s.0, s.2))
    else (if b == 0x01 then further l (access_at rest)
    else (if b == 0x02 then further l (connection_at l rest)
    else (if b == 0x03 then further l (extended_access_at rest)
    else (segment_at (b ∷ rest) >>= λ s. length_at s.1 >>= λ n. Ok (named s.0 n.1 n.0, n.2)))))

-- the entries of all n bytes or fewer
unfoldable pub entries_at : Language → ℕ → List ℕ → Result (List Entry) Fault
entries_at l n [] = Ok []
entries_at l zero (b ∷ bytes) = Err Bad
entries_at l (suc n) (b ∷ bytes) = entry_at l (b ∷ bytes) >>= λ e. entries_at l n e.1 >>= λ others. Ok (e.0 ∷ others)

-- ---- texts

-- the bytes up to a zero, without it, and the bytes after it
unfoldable pub text_at : List ℕ → Result (List ℕ × List ℕ) Fault
text_at [] = Err Bad
text_at (b ∷ rest) =
    if b == 0x00 then Ok ([], rest)
    else (if nat_lt b 0x80 then (text_at rest >>= λ t. Ok (b ∷ t.0, t.1)) else Err Bad)

-- ---- heads

-- A head that was read, with its width, and the bytes from which its children are read.
pub data Opened : Type 0 where
  -- n children, followed by the rest
  follows : Head → ℕ → ℕ → List ℕ → Opened
  -- children that are all bytes inside, and the bytes after these
  fills : Head → ℕ → List ℕ → List ℕ → Opened
  -- a package's width, and n elements that are all bytes inside
  packs : ℕ → ℕ → List ℕ → List ℕ → Opened
  -- a package's width, the number of elements for which it has room, and elements that are all bytes inside
  rooms : ℕ → ℕ → List ℕ → List ℕ → Opened
  -- a buffer's width, and the bytes inside: a size, and the others
  begins : ℕ → List ℕ → List ℕ → Opened
  -- the width of a BankField, its names, and the bytes inside: a value, and the others
  banks : ℕ → List ℕ → List ℕ → List ℕ → List ℕ → Opened

abbrev pub number_at : ℕ → List ℕ → Result Opened Fault
number_at w bytes = high_at w bytes >>= λ h. Ok (follows (number h.0) w 0 h.1)

abbrev pub string_at : List ℕ → Result Opened Fault
string_at bytes = text_at bytes >>= λ t. Ok (follows (string t.0) 0 0 t.1)

-- reads on after a name, from the name and the bytes after it
abbrev pub After : Type 0
After = List ℕ → List ℕ → Result Opened Fault

abbrev pub named_at : Language → After → List ℕ → Result Opened Fault
named_at l k bytes = name_in l bytes >>= λ n. k n.0 n.1

abbrev pub define_after : After
define_after name rest = Ok (follows (def_name name) 0 1 rest)

abbrev pub release_after : After
release_after name rest = Ok (follows (def_release name) 0 0 rest)

abbrev pub mutex_after : After
mutex_after name [] = Err Bad
mutex_after name (level ∷ rest) = Ok (follows (def_mutex name level) 0 0 rest)

abbrev pub region_after : After
region_after name [] = Err Bad
region_after name (space ∷ rest) = Ok (follows (def_op_region name space) 0 2 rest)

abbrev pub acquire_after : After
acquire_after name bytes = high_at 2 bytes >>= λ h. Ok (follows (def_acquire name h.0) 0 0 h.1)

abbrev pub external_after : After
external_after name [] = Err Bad
external_after name (kind ∷ []) = Err Bad
external_after name (kind ∷ args ∷ rest) = Ok (follows (def_external name kind args) 0 0 rest)

abbrev pub fatal_at : List ℕ → Result Opened Fault
fatal_at [] = Err Bad
fatal_at (kind ∷ rest) = high_at 4 rest >>= λ h. Ok (follows (def_fatal kind h.0) 0 1 h.1)

-- reads on after a name in a frame, from the width, the name, the other bytes inside and the bytes after the frame
abbrev pub Inside : Type 0
Inside = ℕ → List ℕ → List ℕ → List ℕ → Result Opened Fault

abbrev pub framed_at : Language → Inside → List ℕ → Result Opened Fault
framed_at l k bytes = frame_at bytes >>= λ f. name_in l f.1 >>= λ n. k f.0 n.0 n.1 f.2

abbrev pub scope_inside : Inside
scope_inside w name inside after = Ok (fills (def_scope name) w inside after)

abbrev pub device_inside : Inside
device_inside w name inside after = Ok (fills (def_device name) w inside after)

abbrev pub thermal_inside : Inside
thermal_inside w name inside after = Ok (fills (def_thermal_zone name) w inside after)

abbrev pub method_inside : Language → Inside
method_inside l w name [] after = Err Bad
method_inside l w name (flags ∷ inside) after =
    if nat_lt flags 16 then Ok (fills (def_method name (flags % 8) (nat_le 8 flags)) w inside after)
    else further l (Ok (fills (def_leveled_method name (flags % 8) (nat_le 8 (flags % 16)) (flags / 16)) w inside after))

abbrev pub processor_end : ℕ → List ℕ → ℕ → ℕ → List ℕ → List ℕ → Result Opened Fault
processor_end w name id address [] after = Err Bad
processor_end w name id address (size ∷ inside) after = Ok (fills (def_processor name id address size) w inside after)

abbrev pub processor_inside : Inside
processor_inside w name [] after = Err Bad
processor_inside w name (id ∷ rest) after = high_at 4 rest >>= λ h. processor_end w name id h.0 h.1 after

abbrev pub power_inside : Inside
power_inside w name [] after = Err Bad
power_inside w name (level ∷ rest) after = high_at 2 rest >>= λ h. Ok (fills (def_power_res name level h.0) w h.1 after)

abbrev pub field_inside : Language → Inside
field_inside l w name [] after = Err Bad
field_inside l w name (b ∷ rest) after =
    if nat_lt (b % 16) 6 then (if nat_lt b 96 then (
    entries_at l (length rest) rest >>= λ e. Ok (follows (def_field name (b % 16) (b / 16 % 2) (b / 32) e) w 0 after))
    else Err Bad) else Err Bad

abbrev pub index_flags : Language → ℕ → List ℕ → List ℕ → List ℕ → List ℕ → Result Opened Fault
index_flags l w index name [] after = Err Bad
index_flags l w index name (b ∷ rest) after =
    if nat_lt (b % 16) 6 then (if nat_lt b 96 then (
    entries_at l (length rest) rest >>= λ e. Ok (follows (def_index_field index name (b % 16) (b / 16 % 2) (b / 32) e) w 0 after))
    else Err Bad) else Err Bad

abbrev pub index_inside : Language → Inside
index_inside l w index rest after = name_in l rest >>= λ n. index_flags l w index n.0 n.1 after

abbrev pub bank_inside : Language → Inside
bank_inside l w name rest after = name_in l rest >>= λ n. Ok (banks w name n.0 n.1 after)

-- a frame whose content is children alone
abbrev pub plain_at : Head → List ℕ → Result Opened Fault
plain_at h bytes = frame_at bytes >>= λ f. Ok (fills h f.0 f.1 f.2)

abbrev pub counted_frame : Language → ℕ → List ℕ → List ℕ → Result Opened Fault
counted_frame l w [] after = Err Bad
counted_frame l w (n ∷ inside) after = if has l Standard then Ok (rooms w n inside after) else Ok (packs w n inside after)

abbrev pub package_at : Language → List ℕ → Result Opened Fault
package_at l bytes = frame_at bytes >>= λ f. counted_frame l f.0 f.1 f.2

abbrev pub buffer_at : List ℕ → Result Opened Fault
buffer_at bytes = frame_at bytes >>= λ f. Ok (begins f.0 f.1 f.2)

abbrev pub operator_at : Language → Option Op → List ℕ → Result Opened Fault
operator_at l None rest = Err Bad
operator_at l (Some o) rest = if has l (language_of o) then Ok (follows (op o) 0 (operands o) rest) else Err Bad

-- the first of the bytes begins a name of the standard
abbrev pub names_first : List ℕ → Bool
names_first [] = false
names_first (b ∷ rest) = begins_name Standard b

-- a name and what is read after it; in the standard also an operator over something else
abbrev pub named_or_operator_at : Language → After → Op → List ℕ → Result Opened Fault
named_or_operator_at l k o rest =
    if is_standard l && not (names_first rest) then Ok (follows (op o) 0 (operands o) rest) else named_at l k rest

-- the second byte of an opcode of two bytes
abbrev pub extended_at : Language → List ℕ → Result Opened Fault
extended_at l [] = Err Bad
extended_at l (b ∷ rest) =
    if b == 0x01 then named_at l mutex_after rest
    else (if b == 0x23 then named_or_operator_at l acquire_after Acquire rest
    else (if b == 0x27 then named_or_operator_at l release_after Release rest
    else (if b == 0x32 then further l (fatal_at rest)
    else (if b == 0x80 then named_at l region_after rest
    else (if b == 0x81 then framed_at l (field_inside l) rest
    else (if b == 0x82 then framed_at l device_inside rest
    else (if b == 0x83 then further l (framed_at l processor_inside rest)
    else (if b == 0x84 then framed_at l power_inside rest
    else (if b == 0x85 then further l (framed_at l thermal_inside rest)
    else (if b == 0x86 then further l (framed_at l (index_inside l) rest)
    else (if b == 0x87 then further l (framed_at l (bank_inside l) rest)
    else operator_at l (op_of (0x5b ∷ b ∷ [])) rest)))))))))))

abbrev pub local_at : Language → ℕ → List ℕ → Result Opened Fault
local_at l b rest =
    if nat_le 0x60 b && nat_le b 0x67 then Ok (follows (local (b - 0x60)) 0 0 rest)
    else (if nat_le 0x68 b && nat_le b 0x6e then Ok (follows (arg (b - 0x68)) 0 0 rest)
    else operator_at l (op_of (b ∷ [])) rest)

abbrev pub opcode_at : Language → ℕ → List ℕ → Result Opened Fault
opcode_at l b rest =
    if nat_lt b 2 then Ok (follows (number b) 0 0 rest)
    else (if b == 0x08 then named_at l define_after rest
    else (if b == 0x0a then number_at 1 rest
    else (if b == 0x0b then number_at 2 rest
    else (if b == 0x0c then number_at 4 rest
    else (if b == 0x0d then string_at rest
    else (if b == 0x0e then number_at 8 rest
    else (if b == 0x10 then framed_at l scope_inside rest
    else (if b == 0x11 then buffer_at rest
    else (if b == 0x12 then package_at l rest
    else (if b == 0x13 then plain_at def_var_package rest
    else (if b == 0x14 then framed_at l (method_inside l) rest
    else (if b == 0x15 then further l (named_at l external_after rest)
    else (if b == 0x5b then extended_at l rest
    else (if b == 0xa0 then plain_at def_if rest
    else (if b == 0xa1 then plain_at def_else rest
    else (if b == 0xa2 then plain_at def_while rest
    else (if b == 0xff then Ok (follows ones 0 0 rest)
    else local_at l b rest)))))))))))))))))

-- a test of a Match
abbrev pub test_at : Language → List ℕ → Result Opened Fault
test_at l [] = Err Bad
test_at l (k ∷ rest) = further l (if nat_le k 5 then Ok (follows (match_test k) 0 1 rest) else Err Bad)

-- the timeout of an Acquire
abbrev pub timeout_at : Language → List ℕ → Result Opened Fault
timeout_at l bytes = further l (high_at 2 bytes >>= λ h. Ok (follows (def_timeout h.0) 0 0 h.1))

module _ (g : Grammar) where
  -- where a term stands
  unfoldable pub head_at : Mode → List ℕ → Result Opened Fault
  head_at m [] = Err Bad
  head_at m (b ∷ rest) =
      if begins_name g.language b then (name_in g.language (b ∷ rest)
      >>= λ n. Ok (follows (call n.0) 0 (arguments g.arity m n.0) n.1))
      else opcode_at g.language b rest

  unfoldable pub open_at : Mode → List ℕ → Result Opened Fault
  open_at m bytes =
      if is_test g.language m then test_at g.language bytes
      else (if is_timeout g.language m then timeout_at g.language bytes
      else head_at m bytes)

-- ---- terms

-- the least number of children in a frame
abbrev pub least_of : Head → ℕ
least_of def_if = 1
least_of def_while = 1
least_of def_var_package = 1
least_of _ = 0

-- one term: a head, its width and its children
abbrev pub One : Type 0
One = Head × ℕ × Terms

-- one term, if it has enough children
unfoldable pub assembled : Head → ℕ → Terms → Result One Fault
assembled h w c = if nat_lt (count c) (least_of h) then Err Bad else Ok (h, w, c)

-- reads one term: its head, its width, its children and the bytes after it
abbrev pub Reader : Type 0
Reader = Mode → List ℕ → Result (Head × ℕ × Terms × List ℕ) Fault

-- a package with room for n elements
abbrev pub roomed : ℕ → ℕ → Terms → List ℕ → Result (Head × ℕ × Terms × List ℕ) Fault
roomed w n c after =
    if count c == n then Ok (def_package, w, c, after)
    else (if nat_lt (count c) n then Ok (def_roomy_package n, w, c, after) else Err Bad)

-- a BankField over its value, from the bytes after the value; only the standard has it
unfoldable pub banked : ℕ → List ℕ → List ℕ → Terms → List ℕ → List ℕ → Result (Head × ℕ × Terms × List ℕ) Fault
banked w name bank c [] after = Err Bad
banked w name bank c (b ∷ rest) after =
    if nat_lt (b % 16) 6 then (if nat_lt b 96 then (
    entries_at Standard (length rest) rest
    >>= λ e. Ok (def_bank_field name bank (b % 16) (b / 16 % 2) (b / 32) e, w, c, after))
    else Err Bad) else Err Bad

module _ (read : Reader) where
  unfoldable pub counted : ℕ → Mode → List ℕ → Result (Terms × List ℕ) Fault
  counted zero m bytes = Ok (end, bytes)
  counted (suc n) m bytes = read m bytes >>= λ t. counted n (next m) t.3 >>= λ others. Ok (term t.0 t.1 t.2 others.0, others.1)

  -- the terms of all n bytes or fewer
  unfoldable pub all_of : ℕ → Mode → List ℕ → Result Terms Fault
  all_of n m [] = Ok end
  all_of zero m (b ∷ bytes) = Err Bad
  all_of (suc n) m (b ∷ bytes) = read m (b ∷ bytes) >>= λ t. all_of n (next m) t.3 >>= λ others. Ok (term t.0 t.1 t.2 others)

  abbrev pub wants_no_more : Head → ℕ → Terms → List ℕ → List ℕ → Result (Head × ℕ × Terms × List ℕ) Fault
  wants_no_more h w children [] after = Ok (h, w, children, after)
  wants_no_more h w children (b ∷ rest) after = Err Bad

  unfoldable pub close : Language → Opened → Result (Head × ℕ × Terms × List ℕ) Fault
  close l (follows h w n rest) = counted n (inner l h) rest >>= λ c. Ok (h, w, c.0, c.1)
  close l (fills h w inside after) =
      all_of (length inside) (inner l h) inside >>= λ c. assembled h w c >>= λ t. Ok (t.0, t.1, t.2, after)
  close l (packs w n inside after) = counted n Element inside >>= λ c. wants_no_more def_package w c.0 c.1 after
  close l (rooms w n inside after) = all_of (length inside) Element inside >>= λ c. roomed w n c after
  close l (banks w name bank inside after) = counted 1 Term inside >>= λ c. banked w name bank c.0 c.1 after
  close l (begins w inside after) = counted 1 Term inside >>= λ c. Ok (def_buffer c.1, w, c.0, after)

unfoldable pub term_at : Grammar → ℕ → Reader
term_at g zero m bytes = Err Deep
term_at g (suc d) m bytes = open_at g m bytes >>= close (term_at g d) g.language
