-- What calls show, one after another.
use Rattle.std.proofs.Common.{◌≡◌, ℕ, zero, suc, ◌+◌, ◌-◌, ◌*◌, ◌<◌, ◌≤◌, ◌==◌, nat_lt, nat_le, Bool, true, false, cond}
use Rattle.std.proofs.Common.{List, [], ◌∷◌, ◌++◌, length, take, drop, get_or, refl, sym, ap, subst, ◌∙◌, append_assoc, arith, inl, inr}
use Rattle.std.proofs.lemmas.List.{append-nil, length-drop, drop-drop, nil_from_length, take_more, take_all}
use Rattle.std.specs.List.{flat_map}
use Rattle.std.proofs.lemmas.Grind.{flat_map-append}
use Rattle.std.proofs.lemmas.Bool.{ne_eqb, lt-ltb, le-ltb, le-leb, lt-leb, cases_lt}
use Rattle.acpi_text.specs.Form.{repeated}
use Rattle.acpi_text.specs.Line.{line, title}
use Rattle.acpi_base.specs.Look.{Look}
use Rattle.acpi_base.specs.Look as looks
use Rattle.acpi_text.specs.Slot.{Slot, heading, field, upto, unknown, nameless, slots_text, Showed}

-- what a slice from an index on has
pub slice_rest : (bytes : List ℕ) (n : ℕ) → take (length bytes - n) (drop n bytes) ≡ drop n bytes
slice_rest bytes n = take_all (length bytes - n) (drop n bytes) (omega (arith, length-drop n bytes))

-- ---- no bytes, and some

none_chosen : (b : Bool) (x : List ℕ) → x ≡ [] → cond b x [] ≡ []
none_chosen true x none = none
none_chosen false x none = refl

pub none_shown : (at : ℕ) (slots : List Slot) → slots_text at slots [] ≡ []
none_shown at [] = refl
none_shown at (unknown ∷ slots) = refl
none_shown at (heading depth name ∷ slots) = refl
none_shown at (field depth name look w n ∷ slots) = refl
none_shown at (upto depth name end ∷ slots) = none_chosen (nat_le end at) (slots_text at slots []) (none_shown at slots)

nothing_left : (at k : ℕ) (slots others : List Slot) (bytes rest : List ℕ) → length bytes ≡ 0 → length rest ≡ 0
    → slots_text at slots bytes ≡ slots_text k others rest
nothing_left at k slots others bytes rest one two =
    ap (slots_text at slots) (nil_from_length bytes one) ∙ none_shown at slots
    ∙ sym (ap (slots_text k others) (nil_from_length rest two) ∙ none_shown k others)

pub some_bytes : (bytes : List ℕ) → 0 < length bytes → (length bytes == 0) ≡ false
some_bytes bytes some = ne_eqb (length bytes) 0 (λ e. absurd (omega (arith, e, some)))

heading_shown : (at depth : ℕ) (name bytes : List ℕ) (slots : List Slot) → 0 < length bytes
    → slots_text at (heading depth name ∷ slots) bytes ≡ title depth at name ++ slots_text at slots bytes
heading_shown at depth name bytes slots some =
    ap (λ b. cond b [] (title depth at name ++ slots_text at slots bytes)) (some_bytes bytes some)

field_shown : (at depth : ℕ) (name : List ℕ) (look : Look) (w n : ℕ) (bytes : List ℕ) (slots : List Slot) → 0 < length bytes → w * n ≤ length bytes
    → slots_text at (field depth name look w n ∷ slots) bytes
    ≡ line depth at name look w n (take (w * n) bytes) ++ slots_text (at + w * n) slots (drop (w * n) bytes)
field_shown at depth name look w n bytes slots some fits =
    let whole = line depth at name look w n (take (w * n) bytes) ++ slots_text (at + w * n) slots (drop (w * n) bytes) in
    ap (λ b. cond b [] (cond (nat_lt (length bytes) (w * n)) (nameless at bytes) whole)) (some_bytes bytes some)
    ∙ ap (λ b. cond b (nameless at bytes) whole) (le-ltb (length bytes) (w * n) fits)

short_shown : (at depth : ℕ) (name : List ℕ) (look : Look) (w n : ℕ) (bytes : List ℕ) (slots : List Slot) → 0 < length bytes → length bytes < w * n
    → slots_text at (field depth name look w n ∷ slots) bytes ≡ nameless at bytes
short_shown at depth name look w n bytes slots some short =
    let whole = line depth at name look w n (take (w * n) bytes) ++ slots_text (at + w * n) slots (drop (w * n) bytes) in
    ap (λ b. cond b [] (cond (nat_lt (length bytes) (w * n)) (nameless at bytes) whole)) (some_bytes bytes some)
    ∙ ap (λ b. cond b (nameless at bytes) whole) (lt-ltb (length bytes) (w * n) short)

-- ---- one slot

pub showed_none : (slots : List Slot) (at : ℕ) (bytes text : List ℕ) → length bytes ≡ 0 → Showed slots at bytes text text 0
showed_none slots at bytes text none = record {
  within = omega (arith, none);
  lines = λ more. ap (λ (l : List ℕ). text ++ l) (nothing_left at (at + 0) (slots ++ more) more bytes bytes none none);
}

pub showed_heading : (depth at : ℕ) (name bytes old new : List ℕ) → 0 < length bytes → new ≡ old ++ title depth at name
    → Showed (heading depth name ∷ []) at bytes old new 0
showed_heading depth at name bytes old new some added = record {
  within = omega arith;
  lines = λ more.
      ap (λ (l : List ℕ). old ++ l) (heading_shown at depth name bytes more some)
      ∙ sym (append_assoc old (title depth at name) (slots_text at more bytes))
      ∙ ap (λ (l : List ℕ). l ++ slots_text at more bytes) (sym added)
      ∙ ap (λ k. new ++ slots_text k more bytes) (let e : at ≡ at + 0 = omega arith in e);
}

pub showed_field : (depth at : ℕ) (name : List ℕ) (look : Look) (w n size : ℕ) (bytes old new : List ℕ) → 0 < length bytes → size ≡ w * n
    → size ≤ length bytes → new ≡ old ++ line depth at name look w n (take size bytes)
    → Showed (field depth name look w n ∷ []) at bytes old new size
showed_field depth at name look w n size bytes old new some is fits added = record {
  within = fits;
  lines = λ more.
      let one = λ (k : ℕ). line depth at name look w n (take k bytes) in
      ap (λ (l : List ℕ). old ++ l) (field_shown at depth name look w n bytes more some (omega (arith, is, fits)))
      ∙ ap (λ k. old ++ (one k ++ slots_text (at + k) more (drop k bytes))) (sym is)
      ∙ sym (append_assoc old (one size) (slots_text (at + size) more (drop size bytes)))
      ∙ ap (λ (l : List ℕ). l ++ slots_text (at + size) more (drop size bytes)) (sym added);
}

pub showed_short : (depth at : ℕ) (name : List ℕ) (look : Look) (w n : ℕ) (bytes old new : List ℕ) → 0 < length bytes → length bytes < w * n
    → new ≡ old ++ nameless at bytes → Showed (field depth name look w n ∷ []) at bytes old new (length bytes)
showed_short depth at name look w n bytes old new some short added = record {
  within = omega arith;
  lines = λ more.
      let end = at + length bytes in
      let rest = drop (length bytes) bytes in
      ap (λ (l : List ℕ). old ++ l) (short_shown at depth name look w n bytes more some short)
      ∙ sym added
      ∙ sym (append-nil new)
      ∙ ap (λ (l : List ℕ). new ++ l) (sym (ap (slots_text end more) (nil_from_length rest (omega (arith, length-drop (length bytes) bytes))) ∙ none_shown end more));
}

-- bytes of which nothing is known were shown
pub showed_unknown : (at : ℕ) (bytes old new : List ℕ) → new ≡ old ++ nameless at bytes → Showed (unknown ∷ []) at bytes old new (length bytes)
showed_unknown at bytes old new added = record {
  within = omega arith;
  lines = λ more.
      let end = at + length bytes in
      let rest = drop (length bytes) bytes in
      sym added
      ∙ sym (append-nil new)
      ∙ ap (λ (l : List ℕ). new ++ l) (sym (ap (slots_text end more) (nil_from_length rest (omega (arith, length-drop (length bytes) bytes))) ∙ none_shown end more));
}

-- where the end was reached before, nothing is shown
pub showed_nothing : (depth : ℕ) (name : List ℕ) (end at : ℕ) (bytes text : List ℕ) → end ≤ at → Showed (upto depth name end ∷ []) at bytes text text 0
showed_nothing depth name end at bytes text before = record {
  within = omega arith;
  lines = λ more.
      let field_lines = slots_text at (field depth name looks.text 1 (end - at) ∷ more) bytes in
      ap (λ b. text ++ cond b (slots_text at more bytes) field_lines) (le-leb end at before)
      ∙ ap (λ k. text ++ slots_text k more bytes) (let e : at ≡ at + 0 = omega arith in e);
}

-- the bytes before the end were shown
pub showed_upto : (depth : ℕ) (name : List ℕ) (end at : ℕ) (bytes old new : List ℕ) (n : ℕ) → at < end
    → Showed (field depth name looks.text 1 (end - at) ∷ []) at bytes old new n → Showed (upto depth name end ∷ []) at bytes old new n
showed_upto depth name end at bytes old new n after one = record {
  within = one.within;
  lines = λ more.
      let field_lines = slots_text at (field depth name looks.text 1 (end - at) ∷ more) bytes in
      ap (λ b. old ++ cond b (slots_text at more bytes) field_lines) (lt-leb end at after)
      ∙ one.lines more;
}

-- ---- one after another

pub showed_more : (a b : List Slot) (at k : ℕ) (bytes rest old now new : List ℕ) (n m : ℕ) → Showed a at bytes old now n
    → k ≡ at + n → rest ≡ drop n bytes → Showed b k rest now new m → Showed (a ++ b) at bytes old new (n + m)
showed_more a b at k bytes rest old now new n m one place front two = record {
  within = (let w = two.within in let e : length rest ≡ length bytes - n = ap length front ∙ length-drop n bytes in omega (arith, w, e, one.within));
  lines = λ more.
      ap (λ l. old ++ slots_text at l bytes) (append_assoc a b more)
      ∙ one.lines (b ++ more)
      ∙ ap (λ j. now ++ slots_text j (b ++ more) (drop n bytes)) (sym place)
      ∙ ap (λ (l : List ℕ). now ++ slots_text k (b ++ more) l) (sym front)
      ∙ two.lines more
      ∙ ap (λ j. new ++ slots_text j more (drop m rest)) (let e : k + m ≡ at + (n + m) = omega (arith, place) in e)
      ∙ ap (λ (l : List ℕ). new ++ slots_text (at + (n + m)) more l) (ap (drop m) front ∙ drop-drop m n bytes);
}

-- where all bytes are shown, further slots show nothing
pub showed_end : (a b : List Slot) (at : ℕ) (bytes old new : List ℕ) (n : ℕ) → Showed a at bytes old new n → n ≡ length bytes
    → Showed (a ++ b) at bytes old new n
showed_end a b at bytes old new n one all = record {
  within = one.within;
  lines = λ more.
      let rest = drop n bytes in
      let none : length rest ≡ 0 = omega (arith, all, length-drop n bytes) in
      ap (λ l. old ++ slots_text at l bytes) (append_assoc a b more)
      ∙ one.lines (b ++ more)
      ∙ ap (λ (l : List ℕ). new ++ l) (nothing_left (at + n) (at + n) (b ++ more) more rest rest none none);
}

-- ---- slots for each of a list

module _ {X : Type 0} (slots : X → List Slot) (xs : List X) (at : ℕ) (bytes old : List ℕ) where
  pub each_start : Showed (flat_map slots (take 0 xs)) at bytes old old 0
  each_start = record {
    within = omega arith;
    lines = λ more. ap (λ k. old ++ slots_text k more bytes) (let e : at ≡ at + 0 = omega arith in e);
  }

  -- the slots of the next were shown
  pub each_more : (i k n m : ℕ) (x d : X) (rest now new : List ℕ) → i < length xs → x ≡ get_or xs i d
      → Showed (flat_map slots (take i xs)) at bytes old now n → k ≡ at + n → rest ≡ drop n bytes → Showed (slots x) k rest now new m
      → Showed (flat_map slots (take (i + 1) xs)) at bytes old new (n + m)
  each_more i k n m x d rest now new inside is one place front two =
      subst (λ l. Showed l at bytes old new (n + m))
      (sym (
      ap (flat_map slots) (take_more xs i d inside ∙ ap (λ y. take i xs ++ y ∷ []) (sym is))
      ∙ flat_map-append slots (take i xs) (x ∷ [])
      ∙ ap (λ l. flat_map slots (take i xs) ++ l) (append-nil (slots x))))
      (showed_more (flat_map slots (take i xs)) (slots x) at k bytes rest old now new n m one place front two)

  pub each_done : (i n : ℕ) (new : List ℕ) → length xs ≤ i → Showed (flat_map slots (take i xs)) at bytes old new n
      → Showed (flat_map slots xs) at bytes old new n
  each_done i n new all one = subst (λ l. Showed (flat_map slots l) at bytes old new n) (take_all i xs all) one

-- ---- the same slots again and again

repeated_more : (slots : List Slot) (m n : ℕ) → repeated (m + n) slots ≡ repeated m slots ++ repeated n slots
repeated_more slots zero n = ap (λ k. repeated k slots) (let e : 0 + n ≡ n = omega arith in e)
repeated_more slots (suc m) n =
    ap (λ k. repeated k slots) (let e : suc m + n ≡ suc (m + n) = omega arith in e)
    ∙ ap (λ l. slots ++ l) (repeated_more slots m n)
    ∙ sym (append_assoc slots (repeated m slots) (repeated n slots))

repeated_once : (slots : List Slot) → repeated 1 slots ≡ slots
repeated_once slots = append-nil slots

module _ (slots : List Slot) (at : ℕ) (bytes old : List ℕ) where
  pub again_start : Showed (repeated 0 slots) at bytes old old 0
  again_start = each_start (λ (slot : Slot). slot ∷ []) slots at bytes old

  -- they were shown once more
  pub again : (done k n m : ℕ) (rest now new : List ℕ) → Showed (repeated done slots) at bytes old now n → k ≡ at + n → rest ≡ drop n bytes
      → Showed slots k rest now new m → Showed (repeated (done + 1) slots) at bytes old new (n + m)
  again done k n m rest now new one place front two =
      subst (λ l. Showed l at bytes old new (n + m)) (sym (repeated_more slots done 1 ∙ ap (λ l. repeated done slots ++ l) (repeated_once slots)))
      (showed_more (repeated done slots) slots at k bytes rest old now new n m one place front two)

  -- as often as they should be, or until all bytes were shown
  pub again_done : (done count n : ℕ) (new : List ℕ) → done ≤ count → (done < count → n ≡ length bytes) → Showed (repeated done slots) at bytes old new n
      → Showed (repeated count slots) at bytes old new n
  again_done done count n new few all one =
      elim (cases_lt done count) [
        | inl less ↦
            subst (λ l. Showed l at bytes old new n)
            (sym (ap (λ k. repeated k slots) (let e : count ≡ done + (count - done) = omega arith in e) ∙ repeated_more slots done (count - done)))
            (showed_end (repeated done slots) (repeated (count - done) slots) at bytes old new n one (all less))
        | inr more ↦ subst (λ k. Showed (repeated k slots) at bytes old new n) (let e : done ≡ count = omega arith in e) one
      ]
