-- The names that texts show.
use Rattle.std.proofs.Common.{◌≡◌, ℕ, zero, suc, ◌+◌, ◌-◌, ◌*◌, ◌/◌, ◌%◌, ◌<◌, ◌==◌, nat_le, nat_lt, Bool, true, false, cond}
use Rattle.std.proofs.Common.{List, [], ◌∷◌, ◌++◌, length, take, drop, codes, refl, sym, ap, subst, ◌∙◌, append_assoc, arith, Option, Some, None}
use Rattle.std.specs.Prelude.{replicate}
use Rattle.std.specs.Fmt.{decimal}
use Rattle.std.proofs.lemmas.List.{append-nil, length-take-le}
use Rattle.std.proofs.lemmas.Bool.{ltb-false}
use Rattle.acpi_base.specs.Bytes.{AreBytes}
use Rattle.acpi_base.specs.declared.walk.Place.{Place}
use Rattle.acpi_base.specs.declared.walk.Walk.{Walk}
use Rattle.acpi_base.proofs.Bytes.{bytes_take, bytes_drop}
use Rattle.acpi_text.specs.declared.form.Inner.{Inner}
use Rattle.acpi_text.specs.declared.form.Inner.TheVariants.{Nothing, Lists}
use Rattle.acpi_text.specs.declared.form.InnerForm.{InnerForm}
use Rattle.acpi_text.specs.declared.form.InnerList.{InnerList}
use Rattle.acpi_text.specs.declared.form.Part.{Part}
use Rattle.acpi_text.specs.declared.form.StructureForm.{StructureForm}
use Rattle.acpi_text.specs.declared.form.TableForm.{TableForm}
use Rattle.std.specs.List.{flat_map, slice_range}
use Rattle.acpi_base.specs.declared.row.Row.{Row}
use Rattle.acpi_base.specs.declared.row.Row.TheVariants as rows
use Rattle.acpi_text.specs.declared.form.Choice.{Choice}
use Rattle.acpi_text.specs.declared.form.Part.TheVariants as parts
use Rattle.acpi_text.specs.Form.{number_at, count_of, size_between, repeated, group_slots, find_choice, choice_slots}
use Rattle.acpi_text.specs.Form.{optional_slots, part_slots, parts_slots}
use Rattle.acpi_base.specs.Digit.{hex_byte}
use Rattle.acpi_text.specs.Hex.{number_text, numbers_text}
use Rattle.acpi_text.specs.Label.{label}
use Rattle.acpi_text.specs.Line.{spaces, margin, padded, line, title}
use Rattle.acpi_text.specs.Names.{OneLine, WholeLines, Named, Names, Wanted, sized, until, unnamed, row_fields, rows_fields, times}
use Rattle.acpi_text.specs.Names.{choice_fields, optional_fields, part_fields}
use Rattle.acpi_text.specs.Names.{field_and, fields_of, parts_fields, no_fields, fields_by_form, inner_fields}
use Rattle.acpi_text.specs.Names.{lists_fields, content_fields, structure_fields, table_fields, LinesHaveNames, TextsHaveNames}
use Rattle.acpi_base.specs.Look.{Look}
use Rattle.acpi_base.specs.Look as looks
use Rattle.acpi_text.specs.Note.{meaning}
use Rattle.acpi_text.specs.Piece.{SizeOf, OfBytes, TextOf, piece_and, pieces_then, pieces_text, front_then, parts_text}
use Rattle.acpi_text.specs.Reading.{at_start, in_number, read}
use Rattle.acpi_text.specs.Size.{front_size, start_in, inner_form, inner_size}
use Rattle.acpi_text.specs.Slot.{Slot, heading, field, upto, unknown, nameless_lines, nameless, field_text, slots_text, row_slots}
use Rattle.acpi_text.specs.Structure.{all_forms, find_form, form_name, form_parts, form_inner, inner_by_form, inner_text, lists_text, content_text, kind_text, piece_line, piece_text}
use Rattle.acpi_text.specs.Table.{start_of, body_text}
use Rattle.acpi_text.proofs.Lines.{meaning_ends}
use Rattle.acpi_text.proofs.Meanings.{meaning_by}
use Rattle.acpi_text.proofs.Printed.{Plain, plain_is_one_line, one_line_append}
use Rattle.acpi_text.proofs.Shown.{some_bytes}
use Rattle.acpi_text.proofs.Reading.{digit_read, numbers_read}

-- ---- one line

spaces_are : (n : ℕ) → spaces n ≡ replicate n 32
spaces_are zero = refl
spaces_are (suc n) = ap (λ (l : List ℕ). 32 ∷ l) (spaces_are n)

byte_line : (b : ℕ) → b < 256 → OneLine (hex_byte b)
byte_line b small = ((digit_read (b / 16) (omega arith)).end, ((digit_read (b % 16) (omega arith)).end, tt))

number_line : (bytes : List ℕ) → AreBytes bytes → OneLine (number_text bytes)
number_line [] are = tt
number_line (b ∷ bytes) are = one_line_append (number_text bytes) (hex_byte b) (number_line bytes are.1) (byte_line b are.0)

numbers_line : (w n : ℕ) (bytes : List ℕ) → AreBytes bytes → OneLine (numbers_text w n bytes)
numbers_line w zero bytes are = tt
numbers_line w (suc n) bytes are = (
  refl,
  one_line_append (number_text (take w bytes)) (numbers_text w n (drop w bytes))
      (number_line (take w bytes) (bytes_take w bytes are)) (numbers_line w n (drop w bytes) (bytes_drop w bytes are)),
)

comment_line : (said : List ℕ) → Plain said → OneLine (codes "  // " ++ said)
comment_line said prints = (refl, (refl, (refl, (refl, (refl, plain_is_one_line said prints)))))

meaning_line : (look : Look) (w n : ℕ) (bytes : List ℕ) → AreBytes bytes → length bytes ≡ w * n → OneLine (meaning look w n bytes)
meaning_line = meaning_by OneLine tt comment_line

pub line_named : LinesHaveNames
line_named depth offset name look w n bytes are size =
    let blank = 40 - length (margin depth offset name) in
    let numbers = numbers_text w n bytes in
    let means = meaning look w n bytes in
    let rest = 58 ∷ (numbers ++ (means ++ 10 ∷ [])) in
    let dec = decimal offset in
    let named = label name in
    record {
      indent = 2 * depth;
      blank = blank;
      said = numbers ++ means;
      parts =
          append_assoc (margin depth offset name) (spaces blank) rest
          ∙ append_assoc (spaces (2 * depth + 2)) (dec ++ 32 ∷ named) (spaces blank ++ rest)
          ∙ ap (λ (l : List ℕ). spaces (2 * depth + 2) ++ l) (append_assoc dec (32 ∷ named) (spaces blank ++ rest))
          ∙ ap (λ (l : List ℕ). spaces (2 * depth + 2) ++ (dec ++ (32 ∷ (named ++ (spaces blank ++ (58 ∷ l)))))) (sym (append_assoc numbers means (10 ∷ [])))
          ∙ ap (λ (l : List ℕ). l ++ (dec ++ (32 ∷ (named ++ (spaces blank ++ (58 ∷ ((numbers ++ means) ++ 10 ∷ []))))))) (spaces_are (2 * depth + 2))
          ∙ ap (λ (l : List ℕ). replicate (2 * depth + 2) 32 ++ (dec ++ (32 ∷ (named ++ (l ++ (58 ∷ ((numbers ++ means) ++ 10 ∷ []))))))) (spaces_are blank);
      ends = one_line_append numbers means (numbers_line w n bytes are) (meaning_line look w n bytes are size);
      reads = λ more.
          ap (read (in_number [])) (append_assoc numbers means (10 ∷ more))
          ∙ numbers_read w n bytes (means ++ (10 ∷ more)) (read at_start more) are size (meaning_ends look w n bytes are size more) [];
    }

-- ---- whole lines

whole_after : (a b : List ℕ) → WholeLines b → 0 < length b → WholeLines (a ++ b)
whole_after [] b whole some = whole
whole_after (x ∷ []) [] whole some = absurd (omega (arith, some))
whole_after (x ∷ []) (c ∷ b) whole some = whole
whole_after (x ∷ y ∷ a) b whole some = whole_after (y ∷ a) b whole some

whole_append : (a b : List ℕ) → WholeLines a → WholeLines b → WholeLines (a ++ b)
whole_append a [] one two = subst WholeLines (sym (append-nil a)) one
whole_append a (c ∷ b) one two = whole_after a (c ∷ b) two (omega arith)

ended : (text : List ℕ) → WholeLines (text ++ 10 ∷ [])
ended text = whole_after text (10 ∷ []) refl (omega arith)

line_whole : (depth offset : ℕ) (name : List ℕ) (look : Look) (w n : ℕ) (bytes : List ℕ) → WholeLines (line depth offset name look w n bytes)
line_whole depth offset name look w n bytes =
    let front = padded 40 (margin depth offset name) in
    let numbers = numbers_text w n bytes in
    let means = meaning look w n bytes in
    subst WholeLines
    (append_assoc front (58 ∷ (numbers ++ means)) (10 ∷ []) ∙ ap (λ (l : List ℕ). front ++ (58 ∷ l)) (append_assoc numbers means (10 ∷ [])))
    (ended (front ++ (58 ∷ (numbers ++ means))))

nameless_whole : (k at : ℕ) (bytes : List ℕ) → WholeLines (nameless_lines k at bytes)
nameless_whole zero at bytes = tt
nameless_whole (suc k) at bytes =
    whole_append (line 0 at (codes "Bytes") looks.bytes 1 (length (take 16 bytes)) (take 16 bytes)) (nameless_lines k (at + 16) (drop 16 bytes))
    (line_whole 0 at (codes "Bytes") looks.bytes 1 (length (take 16 bytes)) (take 16 bytes)) (nameless_whole k (at + 16) (drop 16 bytes))

-- ---- lines one after another

names_after : (fields : List Named) (a b : List ℕ) → WholeLines a → Names fields b → Names fields (a ++ b)
names_after [] a b whole names = whole_append a b whole names
names_after (one ∷ others) a b whole (before, named, after, is, start, has, more) = (
  a ++ before,
  named,
  after,
  ap (λ (l : List ℕ). a ++ l) is ∙ sym (append_assoc a before (named ++ after)),
  whole_append a before whole start,
  has,
  more,
)

names_append : (fields more : List Named) (a b : List ℕ) → Names fields a → Names more b → Names (fields ++ more) (a ++ b)
names_append [] more a b one two = names_after more a b one two
names_append (f ∷ fields) more a b (before, named, after, is, start, has, others) two = (
  before,
  named,
  after ++ b,
  ap (λ (l : List ℕ). l ++ b) is ∙ append_assoc before (named ++ after) b ∙ ap (λ (l : List ℕ). before ++ l) (append_assoc named after b),
  start,
  has,
  names_append fields more after b others two,
)

-- ---- slots

-- the fields of slots
abbrev want : List Slot → List Wanted
want [] = []
want (heading depth name ∷ slots) = want slots
want (field depth name look w n ∷ slots) = sized name (w * n) ∷ want slots
want (upto depth name end ∷ slots) = until name end ∷ want slots
want (unknown ∷ slots) = unnamed ∷ want slots

none_chosen : (b : Bool) (x : List Named) → x ≡ [] → cond b x [] ≡ []
none_chosen true x none = none
none_chosen false x none = refl

no_bytes_no_fields : (at : ℕ) (wanted : List Wanted) → fields_of at wanted [] ≡ []
no_bytes_no_fields at [] = refl
no_bytes_no_fields at (sized name size ∷ wanted) = refl
no_bytes_no_fields at (until name end ∷ wanted) = none_chosen (nat_le end at) (fields_of at wanted []) (no_bytes_no_fields at wanted)
no_bytes_no_fields at (unnamed ∷ wanted) = refl

module _ (fields : ℕ → List ℕ → List Named) (after : ℕ → List ℕ → List ℕ)
    (others : (k : ℕ) (rest : List ℕ) → AreBytes rest → Names (fields k rest) (after k rest)) where
  field_named : (at depth : ℕ) (name : List ℕ) (look : Look) (w n : ℕ) (bytes : List ℕ) → AreBytes bytes
      → Names (field_and fields at name (w * n) bytes) (field_text after at depth name look w n bytes)
  field_named at depth name look w n [] are = tt
  field_named at depth name look w n (b ∷ bytes) are =
      subst (λ none. Names (cond none [] (cond (nat_lt (length whole) (w * n)) [] named)) (cond none [] (cond (nat_lt (length whole) (w * n)) (nameless at whole) shown)))
      (sym (some_bytes whole (omega arith))) (chosen (nat_lt (length (b ∷ bytes)) (w * n)) refl)
    where
      whole : List ℕ
      whole = b ∷ bytes

      named : List Named
      named = record { offset = at; name = name; bytes = take (w * n) whole } ∷ fields (at + w * n) (drop (w * n) whole)

      shown : List ℕ
      shown = line depth at name look w n (take (w * n) whole) ++ after (at + w * n) (drop (w * n) whole)

      chosen : (short : Bool) → nat_lt (length (b ∷ bytes)) (w * n) ≡ short
          → Names (cond short [] named) (cond short (nameless at whole) shown)
      chosen true is = nameless_whole _ at whole
      chosen false is = (
        [],
        line depth at name look w n (take (w * n) whole),
        after (at + w * n) (drop (w * n) whole),
        refl,
        tt,
        line_named depth at name look w n (take (w * n) whole) (bytes_take (w * n) whole are) (length-take-le (w * n) whole (ltb-false _ _ is)),
        others (at + w * n) (drop (w * n) whole) (bytes_drop (w * n) whole are),
      )

either_named : (b : Bool) (fields others : List Named) (text other : List ℕ) → Names fields text → Names others other
    → Names (cond b fields others) (cond b text other)
either_named true fields others text other one two = one
either_named false fields others text other one two = two

slots_named : (at : ℕ) (slots : List Slot) (bytes : List ℕ) → AreBytes bytes → Names (fields_of at (want slots) bytes) (slots_text at slots bytes)
slots_named at [] bytes are = nameless_whole _ at bytes
slots_named at (unknown ∷ slots) bytes are = nameless_whole _ at bytes
slots_named at (heading depth name ∷ slots) [] are = subst (λ l. Names l []) (sym (no_bytes_no_fields at (want slots))) tt
slots_named at (heading depth name ∷ slots) (b ∷ bytes) are =
    subst (λ none. Names (fields_of at (want slots) (b ∷ bytes)) (cond none [] (title depth at name ++ slots_text at slots (b ∷ bytes))))
    (sym (some_bytes (b ∷ bytes) (omega arith)))
    (names_after (fields_of at (want slots) (b ∷ bytes)) (title depth at name) (slots_text at slots (b ∷ bytes))
    (ended (margin depth at name)) (slots_named at slots (b ∷ bytes) are))
slots_named at (field depth name look w n ∷ slots) bytes are =
    field_named (λ k rest. fields_of k (want slots) rest) (λ k rest. slots_text k slots rest) (λ k rest fits. slots_named k slots rest fits)
    at depth name look w n bytes are
slots_named at (upto depth name end ∷ slots) bytes are =
    either_named (nat_le end at) (fields_of at (want slots) bytes) (field_and (λ k rest. fields_of k (want slots) rest) at name (end - at) bytes)
    (slots_text at slots bytes) (field_text (λ k rest. slots_text k slots rest) at depth name looks.text 1 (end - at) bytes)
    (slots_named at slots bytes are)
    (subst (λ size. Names (field_and (λ k rest. fields_of k (want slots) rest) at name size bytes) (field_text (λ k rest. slots_text k slots rest) at depth name looks.text 1 (end - at) bytes))
    (let e : 1 * (end - at) ≡ end - at = omega arith in e)
    (field_named (λ k rest. fields_of k (want slots) rest) (λ k rest. slots_text k slots rest) (λ k rest fits. slots_named k slots rest fits)
    at depth name looks.text 1 (end - at) bytes are))

-- ---- forms

want_append : (a b : List Slot) → want (a ++ b) ≡ want a ++ want b
want_append [] b = refl
want_append (heading depth name ∷ a) b = want_append a b
want_append (field depth name look w n ∷ a) b = ap (λ l. sized name (w * n) ∷ l) (want_append a b)
want_append (upto depth name end ∷ a) b = ap (λ l. until name end ∷ l) (want_append a b)
want_append (unknown ∷ a) b = ap (λ l. unnamed ∷ l) (want_append a b)

-- the fields of each of a list
module _ {X : Type 0} (slots : X → List Slot) (fields : X → List Wanted) (same : (x : X) → want (slots x) ≡ fields x) where
  each_wanted : (xs : List X) → want (flat_map slots xs) ≡ flat_map fields xs
  each_wanted [] = refl
  each_wanted (x ∷ xs) =
      want_append (slots x) (flat_map slots xs) ∙ ap (λ l. l ++ want (flat_map slots xs)) (same x) ∙ ap (λ l. fields x ++ l) (each_wanted xs)

repeated_wanted : (n : ℕ) (slots : List Slot) (fields : List Wanted) → want slots ≡ fields → want (repeated n slots) ≡ times n fields
repeated_wanted zero slots fields same = refl
repeated_wanted (suc n) slots fields same =
    want_append slots (repeated n slots) ∙ ap (λ l. l ++ want (repeated n slots)) same ∙ ap (λ l. fields ++ l) (repeated_wanted n slots fields same)

one_number : (name : List ℕ) (w : ℕ) → sized name (w * 1) ∷ [] ≡ sized name w ∷ []
one_number name w = ap (λ n. sized name n ∷ []) (let e : w * 1 ≡ w = omega arith in e)

some_bytes_of : (name : List ℕ) (n : ℕ) → sized name (1 * n) ∷ [] ≡ sized name n ∷ []
some_bytes_of name n = ap (λ k. sized name k ∷ []) (let e : 1 * n ≡ n = omega arith in e)

row_wanted : (depth : ℕ) (row : Row) → want (row_slots depth row) ≡ row_fields row
row_wanted depth (rows.Number name w) = one_number name.now w
row_wanted depth (rows.Hex name w) = one_number name.now w
row_wanted depth (rows.Preset name w value) = one_number name.now w
row_wanted depth (rows.Reference name w) = one_number name.now w
row_wanted depth (rows.Flags name w bits) = one_number name.now w
row_wanted depth (rows.OneOf name w words) = one_number name.now w
row_wanted depth (rows.Bytes name n) = some_bytes_of name.now n
row_wanted depth (rows.Text name n) = some_bytes_of name.now n
row_wanted depth (rows.Uuid name) = refl
row_wanted depth (rows.Register name) = refl
row_wanted depth (rows.Reserved n) = some_bytes_of (codes "Reserved") n

rows_wanted : (depth : ℕ) (list : List Row) → want (flat_map (row_slots depth) list) ≡ rows_fields list
rows_wanted depth list = each_wanted (row_slots depth) row_fields (row_wanted depth) list

choice_wanted : (depth : ℕ) (choice : Option Choice) → want (choice_slots depth choice) ≡ choice_fields choice
choice_wanted depth (Some choice) = rows_wanted (depth + 1) choice.rows.now
choice_wanted depth None = refl

optional_wanted : (depth : ℕ) (choice : Option Choice) → want (optional_slots depth choice) ≡ optional_fields choice
optional_wanted depth (Some choice) = rows_wanted (depth + 1) choice.rows.now
optional_wanted depth None = refl

matrix_wanted : (none : Bool) (n : ℕ) (slots : List Slot) (fields : List Wanted) → want slots ≡ fields
    → want (cond none [] (repeated n slots)) ≡ cond none [] (times n fields)
matrix_wanted true n slots fields same = refl
matrix_wanted false n slots fields same = repeated_wanted n slots fields same

part_wanted : (depth start : ℕ) (whole : List ℕ) (part : Part) → want (part_slots depth start whole part) ≡ part_fields start whole part
part_wanted depth start whole (parts.Fields list) = rows_wanted depth list.now
part_wanted depth start whole (parts.Between list from to) = rows_wanted depth (slice_range list.now from to)
part_wanted depth start whole (parts.Group name list) = rows_wanted (depth + 1) list.now
part_wanted depth start whole (parts.Entries name count list) =
    repeated_wanted (count_of count whole) (group_slots depth name.now list.now) (rows_fields list.now) (rows_wanted (depth + 1) list.now)
part_wanted depth start whole (parts.Numbers name w count) =
    repeated_wanted (count_of count whole) (field depth name.now looks.number w 1 ∷ []) (sized name.now w ∷ []) (one_number name.now w)
part_wanted depth start whole (parts.Matrix name w list columns) =
    matrix_wanted (number_at columns whole == 0) (number_at list whole) (field depth name.now looks.number w (number_at columns whole) ∷ [])
    (sized name.now (w * number_at columns whole) ∷ []) refl
part_wanted depth start whole (parts.Bytes name count) = some_bytes_of name.now (number_at count whole)
part_wanted depth start whole (parts.Until name end) = refl
part_wanted depth start whole (parts.Chosen by choices) = choice_wanted depth (find_choice (number_at by whole) choices.now)
part_wanted depth start whole (parts.BySize from to choices) =
    optional_wanted depth (find_choice (size_between from to whole) choices.now)

parts_named : (depth at : ℕ) (list : List Part) (piece : List ℕ) → AreBytes piece
    → Names (parts_fields list at piece) (slots_text at (parts_slots depth at piece list) piece)
parts_named depth at list piece are =
    subst (λ wanted. Names (fields_of at wanted piece) (slots_text at (parts_slots depth at piece list) piece))
    (each_wanted (part_slots depth at piece) (part_fields at piece) (part_wanted depth at piece) list)
    (slots_named at (parts_slots depth at piece list) piece are)

-- ---- structures

-- the text of each structure names its fields
abbrev EachNames : (ℕ → List ℕ → List Named) → (ℕ → List ℕ → List ℕ) → Type 0
EachNames fields shown = (at : ℕ) (piece : List ℕ) → AreBytes piece → Names (fields at piece) (shown at piece)

none_named : EachNames no_fields nameless
none_named at bytes are = nameless_whole _ at bytes

-- the text of structures names their fields, and then those of what is left
module _ (size : SizeOf) (fields others : OfBytes Named) (shown after : TextOf) (each : EachNames fields shown) (left : EachNames others after) where
  front_names : (front : Option ℕ) (n at : ℕ) (bytes : List ℕ) → AreBytes bytes
      → ((k : ℕ) (rest : List ℕ) → AreBytes rest → Names (pieces_then n size fields no_fields others k rest) (pieces_then n size shown nameless after k rest))
      → Names (piece_and front fields (λ k rest. pieces_then n size fields no_fields others k rest) no_fields at bytes)
      (piece_and front shown (λ k rest. pieces_then n size shown nameless after k rest) nameless at bytes)
  front_names None n at bytes are more = none_named at bytes are
  front_names (Some k) n at bytes are more =
      names_append (fields at (take k bytes)) (pieces_then n size fields no_fields others (at + k) (drop k bytes))
      (shown at (take k bytes)) (pieces_then n size shown nameless after (at + k) (drop k bytes))
      (each at (take k bytes) (bytes_take k bytes are)) (more (at + k) (drop k bytes) (bytes_drop k bytes are))

  pieces_names : (n at : ℕ) (bytes : List ℕ) → AreBytes bytes
      → Names (pieces_then n size fields no_fields others at bytes) (pieces_then n size shown nameless after at bytes)
  pieces_names zero at bytes are = left at bytes are
  pieces_names (suc n) at bytes are = front_names (size bytes) n at bytes are (λ k rest fits. pieces_names n k rest fits)

parts_and_names : (list : List Part) (start : ℕ) (fields : OfBytes Named) (shown : TextOf) → EachNames fields shown
    → (at : ℕ) (bytes : List ℕ) → AreBytes bytes → Names (front_then (parts_fields list) start fields at bytes) (front_then (parts_text list) start shown at bytes)
parts_and_names list start fields shown each at bytes are =
    let front = take start bytes in
    let rest = drop start bytes in
    names_append (parts_fields list at front) (fields (at + length front) rest)
    (slots_text at (parts_slots 0 at front list) front) (shown (at + length front) rest)
    (parts_named 0 at list front (bytes_take start bytes are))
    (each (at + length front) rest (bytes_drop start bytes are))

inner_names : (form : Option InnerForm) → EachNames (fields_by_form form) (inner_by_form form)
inner_names (Some form) at piece are =
    names_after (parts_fields form.parts.now at piece) (title 0 at form.name.now) (slots_text at (parts_slots 1 at piece form.parts.now) piece)
    (ended (margin 0 at form.name.now)) (parts_named 1 at form.parts.now piece are)
inner_names None at piece are = none_named at piece are

lists_names : (whole : List ℕ) (lists : List InnerList) → EachNames (λ k rest. lists_fields whole lists k rest) (λ k rest. lists_text whole lists k rest)
lists_names whole [] at bytes are = none_named at bytes are
lists_names whole (list ∷ lists) at bytes are =
    pieces_names (inner_size list) (inner_fields list) (λ k rest. lists_fields whole lists k rest) (inner_text list) (λ k rest. lists_text whole lists k rest)
    (λ k piece fits. inner_names (inner_form list piece) k piece fits) (lists_names whole lists) (count_of list.count whole) at bytes are

content_names : (list : List Part) (inner : Inner) (at : ℕ) (piece : List ℕ) → AreBytes piece
    → Names (content_fields list inner at piece) (content_text list inner at piece)
content_names list Nothing at piece are = parts_named 0 at list piece are
content_names list (Lists start lists) at piece are =
    parts_and_names list (start_in start piece) (λ k rest. lists_fields piece lists.now k rest) (λ k rest. lists_text piece lists.now k rest)
    (lists_names piece lists.now) at piece are

piece_names : (kind : Place) (forms : List StructureForm) → EachNames (structure_fields kind forms) (piece_text kind forms)
piece_names kind forms at piece are =
    let form = find_form (number_at kind piece) forms in
    names_after (structure_fields kind forms at piece) (piece_line kind form at piece) (content_text (form_parts form) (form_inner form) at piece)
    (ended (decimal at ++ kind_text kind piece ++ codes " size " ++ decimal (length piece) ++ form_name form))
    (content_names (form_parts form) (form_inner form) at piece are)

-- ---- tables

body_names : (form : TableForm) (walk : Option Walk) (bytes : List ℕ) → AreBytes bytes
    → Names (table_fields form walk bytes) (body_text form walk bytes)
body_names form None bytes are = content_names form.parts.now form.inner.now 0 bytes are
body_names form (Some walk) bytes are =
    let forms = all_forms form in
    let size = front_size walk.sizes in
    parts_and_names form.parts.now (start_of walk bytes) (λ k rest. pieces_then (length rest) size (structure_fields walk.kind forms) no_fields no_fields k rest)
    (λ k rest. pieces_text size (piece_text walk.kind forms) k rest)
    (λ k rest fits. pieces_names size (structure_fields walk.kind forms) no_fields (piece_text walk.kind forms) nameless
    (piece_names walk.kind forms) none_named (length rest) k rest fits) 0 bytes are

pub tables_named : TextsHaveNames
tables_named form walk bytes are small =
    subst (Names (table_fields form walk bytes)) (append_assoc (label form.name.now) (10 ∷ []) (body_text form walk bytes))
    (names_after (table_fields form walk bytes) (label form.name.now ++ 10 ∷ []) (body_text form walk bytes)
    (ended (label form.name.now)) (body_names form walk bytes are))
