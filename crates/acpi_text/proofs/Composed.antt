-- What holds of each line of a text and its bytes holds of the text of a table.
use Rattle.std.proofs.Common.{◌≡◌, ℕ, zero, suc, ◌+◌, ◌-◌, ◌*◌, ◌/◌, ◌^◌, ◌<◌, ◌≤◌, ◌==◌, nat_lt, nat_le, Bool, true, false, cond}
use Rattle.std.proofs.Common.{List, [], ◌∷◌, ◌++◌, length, take, drop, codes, refl, sym, ap, subst, ◌∙◌, append_assoc, arith, length-append, Option, Some, None}
use Rattle.std.specs.Fmt.{decimal}
use Rattle.std.proofs.lemmas.List.{length-drop, length-take, length-take-le, take-append-drop, nil_from_length}
use Rattle.std.proofs.lemmas.Bool.{eqb-true, ltb-false}
use Rattle.std.proofs.Math.Nat.{min-le_left}
use Rattle.acpi_base.specs.Bytes.{AreBytes, carried}
use Rattle.acpi_base.specs.Walk.{place_offset, place_width, end_of}
use Rattle.acpi_base.specs.declared.walk.Place.{Place}
use Rattle.acpi_base.specs.declared.walk.Place.TheVariants.{Nowhere, Byte, Word, DWord}
use Rattle.acpi_base.specs.declared.walk.Walk.{Walk}
use Rattle.acpi_base.proofs.Bytes.{bytes_take, bytes_drop}
use Rattle.acpi_text.specs.declared.form.Inner.{Inner}
use Rattle.acpi_text.specs.declared.form.Inner.TheVariants.{Nothing, Lists}
use Rattle.acpi_text.specs.declared.form.InnerForm.{InnerForm}
use Rattle.acpi_text.specs.declared.form.InnerList.{InnerList}
use Rattle.acpi_text.specs.declared.form.Part.{Part}
use Rattle.acpi_text.specs.declared.form.StructureForm.{StructureForm}
use Rattle.acpi_text.specs.declared.form.TableForm.{TableForm}
use Rattle.acpi_text.specs.Form.{number_at, count_of, parts_slots}
use Rattle.acpi_text.specs.Label.{label}
use Rattle.acpi_text.specs.Line.{line, title}
use Rattle.acpi_base.specs.Look.{Look}
use Rattle.acpi_base.specs.Look as looks
use Rattle.acpi_text.specs.Piece.{SizeOf, TextOf, piece_and, pieces_then, pieces_text, front_then, parts_text}
use Rattle.acpi_text.specs.Size.{front_size, start_in, inner_form, inner_size}
use Rattle.acpi_text.specs.Slot.{Slot, heading, field, upto, unknown, nameless, nameless_lines, field_text, slots_text}
use Rattle.acpi_text.specs.Structure.{all_forms, find_form, form_name, form_parts, form_inner, inner_by_form, inner_text, lists_text, content_text, kind_text, piece_line, piece_text}
use Rattle.acpi_text.specs.Table.{start_of, body_text, table_text}
use Rattle.acpi_text.proofs.Numbers.{narrow_carried}
use Rattle.acpi_text.proofs.Pieces.{AreWithin, front_within, inner_within}
use Rattle.acpi_text.proofs.Printed.{Quiet, quiet_append, quiet_text, quiet_label, quiet_decimal}

-- A relation of whole lines and their bytes, which holds of each line, and of lines after lines.
pub record Composes (R : List ℕ → List ℕ → Type 0) : Type 0 where
  pub nothing : R [] []
  pub append : (a b x y : List ℕ) → R a x → R b y → R (a ++ b) (x ++ y)
  pub empty : (text : List ℕ) → Quiet text → R (text ++ 10 ∷ []) []
  pub titles : (depth offset : ℕ) (name : List ℕ) → offset < 2 ^ 64 → R (title depth offset name) []
  pub lines : (depth offset : ℕ) (name : List ℕ) (look : Look) (w n : ℕ) (bytes : List ℕ) → offset < 2 ^ 64 → AreBytes bytes
      → length bytes ≡ w * n → R (line depth offset name look w n bytes) bytes

-- ---- the line of a structure

narrow_place : (place : Place) → place_width place ≤ 4
narrow_place Nowhere = omega arith
narrow_place (Byte offset) = omega arith
narrow_place (Word offset) = omega arith
narrow_place (DWord offset) = omega arith

number_small : (place : Place) (whole : List ℕ) → AreBytes whole → number_at place whole < 2 ^ 64
number_small place whole are = chosen (nat_le (end_of place) (length whole))
  where
    bytes : List ℕ
    bytes = take (place_width place) (drop (place_offset place) whole)

    chosen : (b : Bool) → cond b (carried bytes) 0 < 2 ^ 64
    chosen true = narrow_carried bytes (bytes_take (place_width place) (drop (place_offset place) whole) (bytes_drop (place_offset place) whole are))
        (omega (arith, length-take (place_width place) (drop (place_offset place) whole), min-le_left (place_width place) (length (drop (place_offset place) whole)), narrow_place place))
    chosen false = omega arith

quiet_kind : (kind : Place) (piece : List ℕ) → AreBytes piece → Quiet (kind_text kind piece)
quiet_kind kind piece are = chosen (place_width kind == 0)
  where
    chosen : (b : Bool) → Quiet (cond b (codes " entry") (codes " type " ++ decimal (number_at kind piece)))
    chosen true = quiet_text (codes " entry") refl
    chosen false = quiet_append (codes " type ") (decimal (number_at kind piece)) (quiet_text (codes " type ") refl)
        (quiet_decimal (number_at kind piece) (number_small kind piece are))

quiet_name : (form : Option StructureForm) → Quiet (form_name form)
quiet_name (Some form) = quiet_append (codes " ") (label form.name.now) (quiet_text (codes " ") refl) (quiet_label form.name.now)
quiet_name None = tt

-- ---- texts of any such relation

module _ (R : List ℕ → List ℕ → Type 0) (r : Composes R) where
  none_by : (bytes : List ℕ) → length bytes ≡ 0 → R [] bytes
  none_by bytes none = subst (λ l. R [] l) (sym (nil_from_length bytes none)) r.nothing

  parts_by : (text : List ℕ) (k : ℕ) (bytes : List ℕ) → R text (take k bytes ++ drop k bytes) → R text bytes
  parts_by text k bytes has = subst (λ l. R text l) (take-append-drop k bytes) has

  chosen_by : (b : Bool) (x y bytes : List ℕ) → (b ≡ true → R x bytes) → (b ≡ false → R y bytes) → R (cond b x y) bytes
  chosen_by true x y bytes one two = one refl
  chosen_by false x y bytes one two = two refl

  -- ---- bytes without names

  nameless_by : (k at : ℕ) (bytes : List ℕ) → AreBytes bytes → (0 < length bytes → at + length bytes < 2 ^ 64)
      → (length bytes + 15) / 16 ≡ k → R (nameless_lines k at bytes) bytes
  nameless_by zero at bytes are small count = none_by bytes (omega (arith, count))
  nameless_by (suc k) at bytes are small count =
      let some : 0 < length bytes = omega (arith, count) in
      let front = take 16 bytes in
      parts_by _ 16 bytes (r.append _ _ front (drop 16 bytes)
      (r.lines 0 at (codes "Bytes") looks.bytes 1 (length front) front (let s = small some in omega (arith, s)) (bytes_take 16 bytes are) (omega arith))
      (nameless_by k (at + 16) (drop 16 bytes) (bytes_drop 16 bytes are)
      (λ more. let s = small some in omega (arith, s, more, length-drop 16 bytes))
      (omega (arith, count, length-drop 16 bytes))))

  all_nameless : (at : ℕ) (bytes : List ℕ) → AreBytes bytes → at + length bytes < 2 ^ 64 → R (nameless at bytes) bytes
  all_nameless at bytes are small = nameless_by ((length bytes + 15) / 16) at bytes are (λ some. small) refl

  -- ---- bytes with names

  field_by : (after : ℕ → List ℕ → List ℕ) (at depth : ℕ) (name : List ℕ) (look : Look) (w n : ℕ) (bytes : List ℕ) → AreBytes bytes
      → at + length bytes < 2 ^ 64
      → ((k : ℕ) (rest : List ℕ) → AreBytes rest → k + length rest < 2 ^ 64 → R (after k rest) rest)
      → R (field_text after at depth name look w n bytes) bytes
  field_by after at depth name look w n bytes are small others =
      chosen_by (length bytes == 0) [] _ bytes
      (λ none. none_by bytes (eqb-true (length bytes) 0 none))
      (λ some. chosen_by (nat_lt (length bytes) (w * n)) _ _ bytes
      (λ short. all_nameless at bytes are small)
      (λ long.
      let size = w * n in
      let fits : size ≤ length bytes = ltb-false (length bytes) size long in
      parts_by _ size bytes (r.append _ _ (take size bytes) (drop size bytes)
      (r.lines depth at name look w n (take size bytes) (omega (arith, small)) (bytes_take size bytes are) (length-take-le size bytes fits))
      (others (at + size) (drop size bytes) (bytes_drop size bytes are) (omega (arith, small, fits, length-drop size bytes))))))

  pub slots_by : (at : ℕ) (slots : List Slot) (bytes : List ℕ) → AreBytes bytes → at + length bytes < 2 ^ 64
      → R (slots_text at slots bytes) bytes
  slots_by at [] bytes are small = all_nameless at bytes are small
  slots_by at (unknown ∷ slots) bytes are small = all_nameless at bytes are small
  slots_by at (heading depth name ∷ slots) bytes are small =
      chosen_by (length bytes == 0) [] _ bytes
      (λ none. none_by bytes (eqb-true (length bytes) 0 none))
      (λ some. r.append (title depth at name) (slots_text at slots bytes) [] bytes
      (r.titles depth at name (omega (arith, small))) (slots_by at slots bytes are small))
  slots_by at (field depth name look w n ∷ slots) bytes are small =
      field_by (λ k rest. slots_text k slots rest) at depth name look w n bytes are small (λ k rest each fits. slots_by k slots rest each fits)
  slots_by at (upto depth name end ∷ slots) bytes are small =
      chosen_by (nat_le end at) _ _ bytes
      (λ before. slots_by at slots bytes are small)
      (λ after. field_by (λ k rest. slots_text k slots rest) at depth name looks.text 1 (end - at) bytes are small
      (λ k rest each fits. slots_by k slots rest each fits))

  -- ---- structures

  piece_line_by : (kind : Place) (form : Option StructureForm) (at : ℕ) (piece : List ℕ) → AreBytes piece → at < 2 ^ 64 → length piece < 2 ^ 64
      → R (piece_line kind form at piece) []
  piece_line_by kind form at piece are small fits =
      let front = decimal at ++ kind_text kind piece in
      let size = front ++ codes " size " in
      let sized = size ++ decimal (length piece) in
      r.empty (sized ++ form_name form)
      (quiet_append sized (form_name form)
      (quiet_append size (decimal (length piece))
      (quiet_append front (codes " size ")
      (quiet_append (decimal at) (kind_text kind piece) (quiet_decimal at small) (quiet_kind kind piece are))
      (quiet_text (codes " size ") refl))
      (quiet_decimal (length piece) fits))
      (quiet_name form))

  -- a text of each structure has the structure's bytes
  abbrev Each : TextOf → Type 0
  Each shown = (at : ℕ) (piece : List ℕ) → AreBytes piece → 0 < length piece → at + length piece < 2 ^ 64 → R (shown at piece) piece

  -- a text of any bytes has them
  abbrev All : TextOf → Type 0
  All shown = (at : ℕ) (bytes : List ℕ) → AreBytes bytes → at + length bytes < 2 ^ 64 → R (shown at bytes) bytes

  module _ (size : SizeOf) (within : AreWithin size) (shown after : TextOf) (each : Each shown) (left : All after) where
    front_by : (front : Option ℕ) (n at : ℕ) (bytes : List ℕ) → size bytes ≡ front → AreBytes bytes → at + length bytes < 2 ^ 64
        → All (λ k rest. pieces_then n size shown nameless after k rest)
        → R (piece_and front shown (λ k rest. pieces_then n size shown nameless after k rest) nameless at bytes) bytes
    front_by None n at bytes is are small others = all_nameless at bytes are small
    front_by (Some k) n at bytes is are small others =
        let fits = within k bytes is in
        let long = length-take-le k bytes fits.fits in
        parts_by _ k bytes (r.append (shown at (take k bytes)) (pieces_then n size shown nameless after (at + k) (drop k bytes)) (take k bytes) (drop k bytes)
        (each at (take k bytes) (bytes_take k bytes are) (omega (arith, fits.some, long)) (omega (arith, small, fits.fits, long)))
        (others (at + k) (drop k bytes) (bytes_drop k bytes are) (omega (arith, small, fits.fits, length-drop k bytes))))

    pieces_by : (n : ℕ) → All (λ k rest. pieces_then n size shown nameless after k rest)
    pieces_by zero at bytes are small = left at bytes are small
    pieces_by (suc n) at bytes are small = front_by (size bytes) n at bytes refl are small (pieces_by n)

  parts_then_by : (parts : List Part) (start : ℕ) (others : TextOf) → All others → All (λ at bytes. front_then (parts_text parts) start others at bytes)
  parts_then_by parts start others all at bytes are small =
      let front = take start bytes in
      let rest = drop start bytes in
      let joined : length front + length rest ≡ length bytes = sym (length-append front rest) ∙ ap length (take-append-drop start bytes) in
      parts_by _ start bytes (r.append (slots_text at (parts_slots 0 at front parts) front) (others (at + length front) rest) front rest
      (slots_by at (parts_slots 0 at front parts) front (bytes_take start bytes are) (omega (arith, small, joined)))
      (all (at + length front) rest (bytes_drop start bytes are) (omega (arith, small, joined))))

  inner_by : (form : Option InnerForm) → Each (inner_by_form form)
  inner_by (Some form) at piece are some small =
      r.append (title 0 at form.name.now) (slots_text at (parts_slots 1 at piece form.parts.now) piece) [] piece
      (r.titles 0 at form.name.now (omega (arith, small)))
      (slots_by at (parts_slots 1 at piece form.parts.now) piece are small)
  inner_by None at piece are some small = all_nameless at piece are small

  lists_by : (whole : List ℕ) (lists : List InnerList) → All (λ k rest. lists_text whole lists k rest)
  lists_by whole [] at bytes are small = all_nameless at bytes are small
  lists_by whole (list ∷ lists) at bytes are small =
      pieces_by (inner_size list) (inner_within list) (inner_text list) (λ k rest. lists_text whole lists k rest)
      (λ k piece fits some less. inner_by (inner_form list piece) k piece fits some less) (lists_by whole lists) (count_of list.count whole) at bytes are small

  content_by : (parts : List Part) (inner : Inner) → All (λ at piece. content_text parts inner at piece)
  content_by parts Nothing at piece are small = slots_by at (parts_slots 0 at piece parts) piece are small
  content_by parts (Lists start lists) at piece are small =
      parts_then_by parts (start_in start piece) (λ k rest. lists_text piece lists.now k rest) (lists_by piece lists.now) at piece are small

  piece_by : (kind : Place) (forms : List StructureForm) → Each (piece_text kind forms)
  piece_by kind forms at piece are some small =
      let form = find_form (number_at kind piece) forms in
      r.append (piece_line kind form at piece) (content_text (form_parts form) (form_inner form) at piece) [] piece
      (piece_line_by kind form at piece are (omega (arith, small)) (omega (arith, small)))
      (content_by (form_parts form) (form_inner form) at piece are small)

  -- ---- tables

  body_by : (form : TableForm) (walk : Option Walk) (bytes : List ℕ) → AreBytes bytes → length bytes < 2 ^ 64
      → R (body_text form walk bytes) bytes
  body_by form None bytes are small = content_by form.parts.now form.inner.now 0 bytes are (omega (arith, small))
  body_by form (Some walk) bytes are small =
      let shown = piece_text walk.kind (all_forms form) in
      parts_then_by form.parts.now (start_of walk bytes) (λ k rest. pieces_text (front_size walk.sizes) shown k rest)
      (λ k rest each fits. pieces_by (front_size walk.sizes) (front_within walk.sizes) shown nameless (piece_by walk.kind (all_forms form)) all_nameless (length rest) k rest each fits)
      0 bytes are (omega (arith, small))

  pub table_by : (form : TableForm) (walk : Option Walk) (bytes : List ℕ) → AreBytes bytes → length bytes < 2 ^ 64
      → R (table_text form walk bytes) bytes
  table_by form walk bytes are small =
      let name = label form.name.now in
      subst (λ l. R l bytes) (append_assoc name (10 ∷ []) (body_text form walk bytes))
      (r.append (name ++ 10 ∷ []) (body_text form walk bytes) [] bytes (r.empty name (quiet_label form.name.now))
      (body_by form walk bytes are small))
