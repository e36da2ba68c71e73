-- Each line of the report has the comment of its term.
use Rattle.std.proofs.Common.{◌≡◌, ◌≢◌, ℕ, zero, suc, ◌==◌, ◌&&◌, ◌||◌, not, Bool, true, false, List, [], ◌∷◌, ◌++◌, length, map, refl, ap, sym, ◌∙◌, append_assoc, arith}
use Rattle.std.specs.Prelude.{codes, replicate, nat_le, if◌then◌else◌}
use Rattle.std.specs.Fmt.{decimal}
use Rattle.std.proofs.lemmas.List.{append-nil}
use Rattle.std.proofs.lemmas.Bool.{and_parts}
use Rattle.std.proofs.lemmas.Bool.Decides.{nat_tests}
use Rattle.acpi_term.specs.declared.mode.Mode.{Mode}
use Rattle.acpi_term.specs.declared.mode.Mode.TheVariants.{Term}
use Rattle.acpi_term.specs.declared.op.Op.{Op}
use Rattle.acpi_term.specs.declared.op.Op.TheVariants as op
use Rattle.acpi_term.specs.Name.{is_lead, is_part, is_segment, AreSegments, no_more, one_more, IsPath, single, double, multiple, relative, rooted, IsAbove, no_path, path_above, further_up, IsNameString, as_written, root_alone, upwards, IsNameIn}
use Rattle.acpi_term.proofs.Names.{is_name_string}
use Rattle.acpi_term.specs.declared.language.Language.{Language}
use Rattle.acpi_term.specs.Arity.{grammar_by}
use Rattle.acpi_term.specs.Language.{Grammar}
use Rattle.acpi_term.specs.declared.language.Language.TheVariants.{Standard}
use Rattle.acpi_term.specs.Operator.{word}
use Rattle.acpi_term.specs.Row.{entry_width}
use Rattle.acpi_term.specs.Spelling.{IsStandard, EntryIsStandard, AreStandardEntries, AreLegal, inner, next, spelling}
use Rattle.acpi_term.specs.Tree.{Entry, named, reserved, access_as, extended_access_as, connection, connection_buffer, Head, number, ones, string, local, arg, call, def_scope, def_device, def_method, def_power_res, def_field, def_op_region, def_name, def_mutex, def_acquire, def_release, def_buffer, def_package, def_var_package, def_if, def_while, def_else, op, def_external, def_leveled_method, def_processor, def_thermal_zone, def_roomy_package, def_index_field, def_bank_field, def_fatal, match_test, def_timeout, unread, Terms, end, term, count}
use Rattle.acpi_base.specs.Digit.{hex_byte}
use Rattle.acpi_base.specs.Number.{number_width}
use Rattle.acpi_read.specs.Lines.{quoted_byte, quoted_bytes, dotted_segments, tail, segments_of, name_text, width_suffix, is_chosen, is_entry_chosen, data_text, head_text, indent, line, access_words, entry_text, entry_line, entry_lines, own_lines, term_suffix, lines}
use Rattle.acpi_read.specs.Report.{printable}
use Rattle.acpi_terms_text.specs.Comment.{has_ids, note, comment, noted_lines, annotated, IsAnnotated}
use Rattle.acpi_terms_text.specs.Woven.{entry_notes, notes, woven}
use Rattle.acpi_terms_text.specs.Laws.{IsOneLine}
use Rattle.acpi_read.specs.Terms.{AreReadIn}
use Rattle.acpi_terms_text.proofs.Single.{one_and, is_line, tested, bytes_line, decimal_line}
use Rattle.acpi_terms_text.proofs.Woven.{woven_line}

-- ---- names

lead_line : (b : ℕ) → is_lead b ≡ true → b ≢ 10
lead_line b h = λ e. absurd (grind (arith, nat_tests, e, h))

part_line : (b : ℕ) → is_part b ≡ true → b ≢ 10
part_line b h = λ e. absurd (grind (arith, nat_tests, e, h))

segment_line : (a b c d : ℕ) → is_segment a b c d ≡ true → (s : List ℕ) → IsOneLine s → IsOneLine (a ∷ b ∷ c ∷ d ∷ s)
unfolding is_segment
segment_line a b c d h s others =
    let p = and_parts (is_lead a && is_part b && is_part c) (is_part d) h in
    let q = and_parts (is_lead a && is_part b) (is_part c) p.0 in
    let r = and_parts (is_lead a) (is_part b) q.0 in
    (lead_line a r.0, (part_line b r.1, (part_line c q.1, (part_line d p.1, others))))

segments_line : (n : ℕ) (s : List ℕ) → AreSegments n s → IsOneLine s
segments_line n s no_more = tt
segments_line n s (one_more {n = m} {a = a} {b = b} {c = c} {d = d} {s = more} good others) = segment_line a b c d good more (segments_line m more others)

dot_line : IsOneLine (46 ∷ [])
dot_line = tested (46 ∷ []) refl

dotted_line : (s : List ℕ) → IsOneLine s → IsOneLine (dotted_segments s)
dotted_line [] p = p
dotted_line (a ∷ []) p = p
dotted_line (a ∷ b ∷ []) p = p
dotted_line (a ∷ b ∷ c ∷ []) p = p
dotted_line (a ∷ b ∷ c ∷ d ∷ []) p = p
dotted_line (a ∷ b ∷ c ∷ d ∷ e ∷ rest) p = (p.0, (p.1.0, (p.1.1.0, (p.1.1.1.0, (dot_line.0, dotted_line (e ∷ rest) p.1.1.1.1)))))

tail_line : (s : List ℕ) → IsOneLine s → IsOneLine (tail s)
tail_line [] p = p
tail_line (b ∷ s) p = p.1

choice_line : (t : Bool) (a b : List ℕ) → IsOneLine a → IsOneLine b → IsOneLine (if t then a else b)
choice_line true a b p q = p
choice_line false a b p q = q

parts_line : (s : List ℕ) → IsOneLine s → IsOneLine (segments_of s)
parts_line [] p = p
parts_line (b ∷ s) p = choice_line (b == 46 || b == 0) s (if b == 47 then tail s else b ∷ s) p.1 (choice_line (b == 47) (tail s) (b ∷ s) (tail_line s p.1) p)

path_line : (s : List ℕ) → IsPath s → IsOneLine (segments_of s)
path_line s (single one) = parts_line s (segments_line 1 s one)
path_line s (double {s = two} both) = segments_line 2 two both
path_line s (multiple {n = n} {s = several} low high all) = segments_line n several all

root_line : IsOneLine (92 ∷ [])
root_line = tested (92 ∷ []) refl

up_line : IsOneLine (94 ∷ [])
up_line = tested (94 ∷ []) refl

plain_line : (s : List ℕ) → IsOneLine s → IsOneLine (name_text s)
plain_line [] p = p
plain_line (b ∷ s) p =
    choice_line (b == 92) (92 ∷ dotted_segments (segments_of s)) (if b == 94 then 94 ∷ name_text s else dotted_segments (segments_of (b ∷ s))) (root_line.0, dotted_line (segments_of s) (parts_line s p.1))
    (choice_line (b == 94) (94 ∷ name_text s) (dotted_segments (segments_of (b ∷ s))) (up_line.0, plain_line s p.1) (dotted_line (segments_of (b ∷ s)) (parts_line (b ∷ s) p)))

path_text_line : (name : List ℕ) → IsPath name → IsOneLine (name_text name)
path_text_line name (single one) = plain_line name (segments_line 1 name one)
path_text_line name (double {s = two} both) = dotted_line two (segments_line 2 two both)
path_text_line name (multiple {n = n} {s = several} low high all) = dotted_line several (segments_line n several all)

above_line : (name : List ℕ) → IsAbove name → IsOneLine (name_text name)
above_line name no_path = tt
above_line name (path_above p) = path_text_line name p
above_line name (further_up {s} p) = (up_line.0, above_line s p)

string_line : (name : List ℕ) → IsNameString name → IsOneLine (name_text name)
string_line name (as_written (relative p)) = path_text_line name p
string_line name (as_written (rooted {s = s} path)) = (root_line.0, dotted_line (segments_of s) (path_line s path))
string_line name root_alone = root_line
string_line name (upwards {s} p) = (up_line.0, above_line s p)

-- ---- words

and_decimal : (said : List ℕ) (n : ℕ) → is_line said ≡ true → IsOneLine (said ++ decimal n)
and_decimal said n is = one_and said (decimal n) (tested said is) (decimal_line n)

then_decimal : (front said : List ℕ) (n : ℕ) → IsOneLine front → is_line said ≡ true → IsOneLine (front ++ said ++ decimal n)
then_decimal front said n one is = one_and (front ++ said) (decimal n) (one_and front said one (tested said is)) (decimal_line n)

alone_line : (l : Language) (said name : List ℕ) → is_line said ≡ true → IsNameIn l name → IsOneLine (said ++ name_text name)
alone_line l said name is std = one_and said (name_text name) (tested said is) (string_line name (is_name_string l name std))

flag_line : (flag : Bool) → IsOneLine (if flag then codes "1" else codes "0")
flag_line true = tested (codes "1") refl
flag_line false = tested (codes "0") refl

print_line : (b : ℕ) → (nat_le 32 b && nat_le b 126 && not (b == 34) && not (b == 92)) ≡ true → b ≢ 10
print_line b is = λ e. absurd (grind (arith, nat_tests, e, is))

escape_line : IsOneLine (92 ∷ 120 ∷ [])
escape_line = tested (92 ∷ 120 ∷ []) refl

byte_line : (b : ℕ) → IsOneLine (quoted_byte b)
byte_line b =
    elim (nat_le 32 b && nat_le b 126 && not (b == 34) && not (b == 92)) as (λ v. (nat_le 32 b && nat_le b 126 && not (b == 34) && not (b == 92)) ≡ v → IsOneLine (if v then b ∷ [] else 92 ∷ 120 ∷ hex_byte b)) [
      | true ↦ λ is. (print_line b is, tt)
      | false ↦ λ is. (escape_line.0, (escape_line.1.0, bytes_line (b ∷ [])))
    ] refl

quoted_line : (s : List ℕ) → IsOneLine (quoted_bytes s)
quoted_line [] = tt
quoted_line (b ∷ s) = one_and (quoted_byte b) (quoted_bytes s) (byte_line b) (quoted_line s)

space_line : IsOneLine (32 ∷ [])
space_line = tested (32 ∷ []) refl

data_line : (bytes : List ℕ) → IsOneLine (data_text bytes)
data_line [] = tt
data_line (b ∷ bytes) = (space_line.0, bytes_line (b ∷ bytes))

word_line : (o : Op) → is_line (word o) ≡ true
word_line op.LNot = refl
word_line op.LEqual = refl
word_line op.LLess = refl
word_line op.LGreater = refl
word_line op.LAnd = refl
word_line op.LOr = refl
word_line op.Increment = refl
word_line op.Decrement = refl
word_line op.Break = refl
word_line op.ObjectType = refl
word_line op.SizeOf = refl
word_line op.Return = refl
word_line op.DeRefOf = refl
word_line op.Add = refl
word_line op.Concat = refl
word_line op.Subtract = refl
word_line op.Multiply = refl
word_line op.ShiftLeft = refl
word_line op.ShiftRight = refl
word_line op.And = refl
word_line op.Nand = refl
word_line op.Or = refl
word_line op.Nor = refl
word_line op.Xor = refl
word_line op.ConcatRes = refl
word_line op.Mod = refl
word_line op.Index = refl
word_line op.ToString = refl
word_line op.CreateDWordField = refl
word_line op.CreateQWordField = refl
word_line op.ToBuffer = refl
word_line op.ToInteger = refl
word_line op.Store = refl
word_line op.Notify = refl
word_line op.Mid = refl
word_line op.CreateField = refl
word_line op.Alias = refl
word_line op.RefOf = refl
word_line op.Divide = refl
word_line op.Not = refl
word_line op.FindSetLeftBit = refl
word_line op.FindSetRightBit = refl
word_line op.Match = refl
word_line op.CreateWordField = refl
word_line op.CreateByteField = refl
word_line op.CreateBitField = refl
word_line op.ToDecimalString = refl
word_line op.ToHexString = refl
word_line op.CopyObject = refl
word_line op.Continue = refl
word_line op.Noop = refl
word_line op.BreakPoint = refl
word_line op.Event = refl
word_line op.CondRefOf = refl
word_line op.LoadTable = refl
word_line op.Load = refl
word_line op.Stall = refl
word_line op.Sleep = refl
word_line op.Signal = refl
word_line op.Wait = refl
word_line op.Reset = refl
word_line op.FromBCD = refl
word_line op.ToBCD = refl
word_line op.Unload = refl
word_line op.Revision = refl
word_line op.Debug = refl
word_line op.Timer = refl
word_line op.DataRegion = refl
word_line op.Acquire = refl
word_line op.Release = refl

head_line : (l : Language) (h : Head) (n : ℕ) → IsStandard l h → IsOneLine (head_text h n)
head_line l (number v) n std = and_decimal (codes "number ") v refl
head_line l ones n std = tested (codes "ones") refl
head_line l (string s) n std = one_and (codes "text \"" ++ quoted_bytes s) (codes "\"") (one_and (codes "text \"") (quoted_bytes s) (tested (codes "text \"") refl) (quoted_line s)) (tested (codes "\"") refl)
head_line l (local k) n std = and_decimal (codes "local ") k refl
head_line l (arg k) n std = and_decimal (codes "arg ") k refl
head_line l (call name) n std = then_decimal (codes "name " ++ name_text name) (codes " args ") n (alone_line l (codes "name ") name refl std) refl
head_line l (def_scope name) n std = alone_line l (codes "scope ") name refl std
head_line l (def_device name) n std = alone_line l (codes "device ") name refl std
head_line l (def_method name args serialized) n std = one_and (codes "method " ++ name_text name ++ codes " args " ++ decimal args ++ codes " serialized ") (if serialized then codes "1" else codes "0") (one_and (codes "method " ++ name_text name ++ codes " args " ++ decimal args) (codes " serialized ") (then_decimal (codes "method " ++ name_text name) (codes " args ") args (alone_line l (codes "method ") name refl std) refl) (tested (codes " serialized ") refl)) (flag_line serialized)
head_line l (def_power_res name level order) n std = then_decimal (codes "power " ++ name_text name ++ codes " level " ++ decimal level) (codes " order ") order (then_decimal (codes "power " ++ name_text name) (codes " level ") level (alone_line l (codes "power ") name refl std.0) refl) refl
head_line l (def_field name access lock update entries) n std = then_decimal (codes "field " ++ name_text name ++ codes " access " ++ decimal access ++ codes " lock " ++ decimal lock) (codes " update ") update (then_decimal (codes "field " ++ name_text name ++ codes " access " ++ decimal access) (codes " lock ") lock (then_decimal (codes "field " ++ name_text name) (codes " access ") access (alone_line l (codes "field ") name refl std.0) refl) refl) refl
head_line l (def_op_region name space) n std = then_decimal (codes "region " ++ name_text name) (codes " space ") space (alone_line l (codes "region ") name refl std.0) refl
head_line l (def_name name) n std = alone_line l (codes "define ") name refl std
head_line l (def_mutex name level) n std = then_decimal (codes "mutex " ++ name_text name) (codes " level ") level (alone_line l (codes "mutex ") name refl std.0) refl
head_line l (def_acquire name timeout) n std = then_decimal (codes "acquire " ++ name_text name) (codes " timeout ") timeout (alone_line l (codes "acquire ") name refl std.0) refl
head_line l (def_release name) n std = alone_line l (codes "release ") name refl std
head_line l (def_buffer bytes) n std = one_and (codes "buffer data") (data_text bytes) (tested (codes "buffer data") refl) (data_line bytes)
head_line l def_package n std = and_decimal (codes "package ") n refl
head_line l def_var_package n std = tested (codes "varpackage") refl
head_line l def_if n std = tested (codes "if") refl
head_line l def_while n std = tested (codes "while") refl
head_line l def_else n std = tested (codes "else") refl
head_line l (op o) n std = tested (word o) (word_line o)
head_line l (def_external name kind args) n std = then_decimal (codes "external " ++ name_text name ++ codes " type " ++ decimal kind) (codes " args ") args (then_decimal (codes "external " ++ name_text name) (codes " type ") kind (alone_line l (codes "external ") name refl std.1) refl) refl
head_line l (def_leveled_method name args serialized level) n std = then_decimal (codes "method " ++ name_text name ++ codes " args " ++ decimal args ++ codes " serialized " ++ (if serialized then codes "1" else codes "0")) (codes " level ") level (one_and (codes "method " ++ name_text name ++ codes " args " ++ decimal args ++ codes " serialized ") (if serialized then codes "1" else codes "0") (one_and (codes "method " ++ name_text name ++ codes " args " ++ decimal args) (codes " serialized ") (then_decimal (codes "method " ++ name_text name) (codes " args ") args (alone_line l (codes "method ") name refl std.1) refl) (tested (codes " serialized ") refl)) (flag_line serialized)) refl
head_line l (def_processor name id address size) n std = then_decimal (codes "processor " ++ name_text name ++ codes " id " ++ decimal id ++ codes " address " ++ decimal address) (codes " length ") size (then_decimal (codes "processor " ++ name_text name ++ codes " id " ++ decimal id) (codes " address ") address (then_decimal (codes "processor " ++ name_text name) (codes " id ") id (alone_line l (codes "processor ") name refl std.1) refl) refl) refl
head_line l (def_thermal_zone name) n std = alone_line l (codes "thermalzone ") name refl std.1
head_line l (def_roomy_package room) n std = then_decimal (codes "package " ++ decimal n) (codes " of ") room (and_decimal (codes "package ") n refl) refl
head_line l (def_index_field index name access lock update entries) n std =
    let one = codes "indexfield " ++ name_text index in
    let two = codes " data " ++ name_text name ++ codes " access " ++ decimal access in
    let three = codes " lock " ++ decimal lock ++ codes " update " ++ decimal update in
    let first = alone_line l (codes "indexfield ") index refl std.1 in
    let second = then_decimal (codes " data " ++ name_text name) (codes " access ") access (alone_line l (codes " data ") name refl std.2) refl in
    let third = then_decimal (codes " lock " ++ decimal lock) (codes " update ") update (and_decimal (codes " lock ") lock refl) refl in
    one_and (one ++ two) three (one_and one two first second) third
head_line l (def_bank_field name bank access lock update entries) n std =
    let one = codes "bankfield " ++ name_text name in
    let two = codes " bank " ++ name_text bank ++ codes " access " ++ decimal access in
    let three = codes " lock " ++ decimal lock ++ codes " update " ++ decimal update in
    let first = alone_line l (codes "bankfield ") name refl std.1 in
    let second = then_decimal (codes " bank " ++ name_text bank) (codes " access ") access (alone_line l (codes " bank ") bank refl std.2) refl in
    let third = then_decimal (codes " lock " ++ decimal lock) (codes " update ") update (and_decimal (codes " lock ") lock refl) refl in
    one_and (one ++ two) three (one_and one two first second) third
head_line l (def_fatal kind code) n std = then_decimal (codes "fatal type " ++ decimal kind) (codes " code ") code (and_decimal (codes "fatal type ") kind refl) refl
head_line l (match_test k) n std = and_decimal (codes "test ") k refl
head_line l (def_timeout t) n std = and_decimal (codes "timeout ") t refl
head_line l (unread error bytes) n std = absurd std

indent_line : (d : ℕ) → IsOneLine (indent d)
indent_line zero = tt
indent_line (suc d) = (space_line.0, (space_line.0, indent_line d))

suffix_line : (chosen : Bool) (w : ℕ) → IsOneLine (width_suffix chosen w)
suffix_line true w = tt
suffix_line false w = and_decimal (codes " width ") w refl

shown_line : (b : ℕ) → printable b ≢ 10
shown_line b = λ e. absurd (grind (arith, nat_tests, e))

all_shown : (name : List ℕ) → IsOneLine (map printable name)
all_shown [] = tt
all_shown (b ∷ name) = (shown_line b, all_shown name)

access_line : (access attribute : ℕ) → IsOneLine (access_words access attribute)
access_line access attribute = one_and (codes "access type " ++ decimal access) (codes " attribute " ++ decimal attribute) (and_decimal (codes "access type ") access refl) (and_decimal (codes " attribute ") attribute refl)

said_line : (l : Language) (e : Entry) → EntryIsStandard l e → IsOneLine (entry_text e)
said_line l (named name bits w) std = then_decimal (codes "entry " ++ map printable name) (codes " bits ") bits (one_and (codes "entry ") (map printable name) (tested (codes "entry ") refl) (all_shown name)) refl
said_line l (reserved bits w) std = and_decimal (codes "reserved bits ") bits refl
said_line l (access_as access attribute) std = access_line access attribute
said_line l (extended_access_as access attribute size) std =
    one_and (access_words access attribute) (codes " length " ++ decimal size) (access_line access attribute) (and_decimal (codes " length ") size refl)
said_line l (connection name) std = alone_line l (codes "connection ") name refl std.1
said_line l (connection_buffer w size v bytes) std =
    let wide = width_suffix (v == number_width size) v in
    one_and (codes "connection size " ++ decimal size ++ wide) (codes " data" ++ data_text bytes)
    (one_and (codes "connection size " ++ decimal size) wide (and_decimal (codes "connection size ") size refl) (suffix_line (v == number_width size) v))
    (one_and (codes " data") (data_text bytes) (tested (codes " data") refl) (data_line bytes))

-- ---- lines

line_placed : (d : ℕ) (said width rest n : List ℕ) (ns : List (List ℕ)) → IsOneLine said → IsOneLine width
    → woven (line d said width ++ rest) (n ∷ ns) ≡ line d said (width ++ comment n) ++ woven rest ns
line_placed d said width rest n ns one two =
    let front = indent d ++ (said ++ width) in
    let single : IsOneLine front = one_and (indent d) (said ++ width) (indent_line d) (one_and said width one two) in
    let cut : line d said width ++ rest ≡ front ++ (10 ∷ rest) = simp append_assoc in
    let joined : front ++ (comment n ++ (10 ∷ woven rest ns)) ≡ line d said (width ++ comment n) ++ woven rest ns = simp append_assoc in
    ap (λ (l : List ℕ). woven l (n ∷ ns)) cut ∙ woven_line front rest n ns single ∙ joined

entry_placed : (l : Language) (d : ℕ) (e : Entry) (rest : List ℕ) (ns : List (List ℕ)) → EntryIsStandard l e → woven (entry_line d e ++ rest) ([] ∷ ns) ≡ entry_line d e ++ woven rest ns
entry_placed l d e rest ns std =
    let width = width_suffix (is_entry_chosen e) (entry_width e) in
    line_placed d (entry_text e) width rest [] ns (said_line l e std) (suffix_line (is_entry_chosen e) (entry_width e))
    ∙ ap (λ (l : List ℕ). line d (entry_text e) l ++ woven rest ns) (append-nil width)

entries_placed : (l : Language) (d : ℕ) (entries : List Entry) (rest : List ℕ) (ns : List (List ℕ)) → AreStandardEntries l entries
    → woven (entry_lines d entries ++ rest) (replicate (length entries) [] ++ ns) ≡ entry_lines d entries ++ woven rest ns
entries_placed l d [] rest ns std = refl
entries_placed l d (e ∷ entries) rest ns std =
    ap (λ (l : List ℕ). woven l ([] ∷ (replicate (length entries) [] ++ ns))) (append_assoc (entry_line d e) (entry_lines d entries) rest)
    ∙ entry_placed l d e (entry_lines d entries ++ rest) (replicate (length entries) [] ++ ns) std.0
    ∙ ap (λ (l : List ℕ). entry_line d e ++ l) (entries_placed l d entries rest ns std.1)
    ∙ sym (append_assoc (entry_line d e) (entry_lines d entries) (woven rest ns))

own_placed : (l : Language) (d : ℕ) (h : Head) (rest : List ℕ) (ns : List (List ℕ)) → IsStandard l h → woven (own_lines d h ++ rest) (entry_notes h ++ ns) ≡ own_lines d h ++ woven rest ns
own_placed l d (number v) rest ns std = refl
own_placed l d ones rest ns std = refl
own_placed l d (string s) rest ns std = refl
own_placed l d (local k) rest ns std = refl
own_placed l d (arg k) rest ns std = refl
own_placed l d (call name) rest ns std = refl
own_placed l d (def_scope name) rest ns std = refl
own_placed l d (def_device name) rest ns std = refl
own_placed l d (def_method name args serialized) rest ns std = refl
own_placed l d (def_power_res name level order) rest ns std = refl
own_placed l d (def_field name access lock update entries) rest ns std = entries_placed l d entries rest ns std.4
own_placed l d (def_op_region name space) rest ns std = refl
own_placed l d (def_name name) rest ns std = refl
own_placed l d (def_mutex name level) rest ns std = refl
own_placed l d (def_acquire name timeout) rest ns std = refl
own_placed l d (def_release name) rest ns std = refl
own_placed l d (def_buffer bytes) rest ns std = refl
own_placed l d def_package rest ns std = refl
own_placed l d def_var_package rest ns std = refl
own_placed l d def_if rest ns std = refl
own_placed l d def_while rest ns std = refl
own_placed l d def_else rest ns std = refl
own_placed l d (op o) rest ns std = refl
own_placed l d (def_external name kind args) rest ns std = refl
own_placed l d (def_leveled_method name args serialized level) rest ns std = refl
own_placed l d (def_processor name id address size) rest ns std = refl
own_placed l d (def_thermal_zone name) rest ns std = refl
own_placed l d (def_roomy_package room) rest ns std = refl
own_placed l d (def_index_field index name access lock update entries) rest ns std = entries_placed l d entries rest ns std.6
own_placed l d (def_bank_field name bank access lock update entries) rest ns std = entries_placed l d entries rest ns std.6
own_placed l d (def_fatal kind code) rest ns std = refl
own_placed l d (match_test k) rest ns std = refl
own_placed l d (def_timeout t) rest ns std = refl
own_placed l d (unread error bytes) rest ns std = refl

module _ (g : Grammar) where
  all_placed : (m : Mode) (ids : Bool) (d : ℕ) (ts : Terms) → AreLegal g m ts → (rest : List ℕ) (ns : List (List ℕ))
      → woven (lines d ts ++ rest) (notes ids ts ++ ns) ≡ noted_lines ids d ts ++ woven rest ns
  all_placed m ids d end legal rest ns = refl
  all_placed m ids d (term h w c o) legal rest ns =
      let said = head_text h (count c) in
      let width = term_suffix h w c in
      let n = note ids h w c in
      let first = line d said width in
      let own = own_lines (suc d) h in
      let below = lines (suc d) c in
      let after = lines d o in
      let inner_notes = notes (has_ids ids h) c in
      let after_notes = notes ids o in
      let first' = line d said (width ++ comment n) in
      let below' = noted_lines (has_ids ids h) (suc d) c in
      let after' = noted_lines ids d o in
      let texts : (first ++ own ++ below ++ after) ++ rest ≡ first ++ (own ++ (below ++ (after ++ rest))) = simp append_assoc in
      let lists : (entry_notes h ++ (inner_notes ++ after_notes)) ++ ns ≡ entry_notes h ++ (inner_notes ++ (after_notes ++ ns)) = simp append_assoc in
      let joined : first' ++ (own ++ (below' ++ (after' ++ woven rest ns))) ≡ (first' ++ own ++ below' ++ after') ++ woven rest ns = simp append_assoc in
      ap (λ (l : List ℕ). woven l (n ∷ ((entry_notes h ++ (inner_notes ++ after_notes)) ++ ns))) texts
      ∙ ap (λ (l : List (List ℕ)). woven (first ++ (own ++ (below ++ (after ++ rest)))) (n ∷ l)) lists
      ∙ line_placed d said width (own ++ (below ++ (after ++ rest))) n (entry_notes h ++ (inner_notes ++ (after_notes ++ ns))) (head_line g.language h (count c) legal.0.is_standard) (suffix_line (is_chosen h w (count c) (spelling c)) w)
      ∙ ap (λ (l : List ℕ). first' ++ l)
      (own_placed g.language (suc d) h (below ++ (after ++ rest)) (inner_notes ++ (after_notes ++ ns)) legal.0.is_standard
      ∙ ap (λ (l : List ℕ). own ++ l)
      (all_placed (inner g.language h) (has_ids ids h) (suc d) c legal.1 (after ++ rest) (after_notes ++ ns)
      ∙ ap (λ (l : List ℕ). below' ++ l) (all_placed (next m) ids d o legal.2 rest ns)))
      ∙ joined

  pub in_place : (m : Mode) (ts : Terms) → AreLegal g m ts → woven (lines 0 ts) (notes false ts) ≡ annotated ts
  in_place m ts legal =
      ap (λ (l : List ℕ). woven l (notes false ts)) (sym (append-nil (lines 0 ts)))
      ∙ ap (λ (l : List (List ℕ)). woven (lines 0 ts ++ []) l) (sym (append-nil (notes false ts)))
      ∙ all_placed m false 0 ts legal [] []
      ∙ append-nil (annotated ts)

-- The report of terms that were read, with its comments.
pub is_annotated : (stated : List (List ℕ × ℕ)) (bytes : List ℕ) (ts : Terms) (report text : List ℕ) (said : List (List ℕ)) → AreReadIn (grammar_by Standard stated) bytes ts
    → report ≡ lines 0 ts → said ≡ notes false ts → text ≡ woven report said → IsAnnotated stated bytes text
is_annotated stated bytes ts report text said read p q r = record {
  terms = ts;
  read = read;
  is = r ∙ ap (λ (l : List ℕ). woven l said) p ∙ ap (λ (l : List (List ℕ)). woven (lines 0 ts) l) q ∙ in_place (grammar_by Standard stated) Term ts read.spelled.0;
}
