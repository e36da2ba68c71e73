-- What is found of bytes, one field after another.
use Rattle.std.proofs.Common.{◌≡◌, ℕ, zero, suc, ◌+◌, ◌-◌, ◌<◌, ◌≤◌, ◌==◌, nat_lt, nat_le, Bool, true, false, cond}
use Rattle.std.proofs.Common.{if◌then◌else◌}
use Rattle.std.proofs.Common.{List, [], ◌∷◌, ◌++◌, length, take, drop, get_or, refl, sym, ap, subst, ◌∙◌, append_assoc, arith}
use Rattle.std.proofs.Common.{inl, inr}
use Rattle.std.proofs.lemmas.List.{append-nil, length-drop, drop-drop, nil_from_length, take_more, take_all}
use Rattle.std.specs.List.{flat_map}
use Rattle.std.proofs.lemmas.Grind.{flat_map-append}
use Rattle.std.proofs.lemmas.Bool.{ne_eqb, lt-ltb, le-ltb, le-leb, lt-leb, cases_lt}
use Rattle.acpi_base.specs.Look.{Look}
use Rattle.acpi_base.specs.Look as looks
use Rattle.acpi_text.specs.declared.form.Part.{Part}
use Rattle.acpi_rules.specs.Field.{Field, Wanted, sized, until, unnamed, Found, ended, after_field, after, after_all, from, times}
use Rattle.acpi_rules.specs.Field.{Reached}
use Rattle.acpi_rules.specs.Field.{part_wanted, parts_fields}

-- what a slice from an index on has
pub slice_rest : (bytes : List ℕ) (n : ℕ) → take (length bytes - n) (drop n bytes) ≡ drop n bytes
slice_rest bytes n = take_all (length bytes - n) (drop n bytes) (omega (arith, length-drop n bytes))

-- ---- no bytes are left

ended_none : (at : ℕ) (bytes : List ℕ) (fields : List Field) → length bytes ≡ 0
    → ended (from at bytes fields) ≡ from at bytes fields
ended_none at bytes fields none =
    ap (λ k. from k [] fields) (let e : at + length bytes ≡ at = omega (arith, none) in e)
    ∙ ap (λ l. from at l fields) (sym (nil_from_length bytes none))

field_none : (name : List ℕ) (look : Look) (width size at : ℕ) (bytes : List ℕ) (fields : List Field) → length bytes ≡ 0
    → after_field name look width size (from at bytes fields) ≡ from at bytes fields
field_none name look width size at bytes fields none =
    let found = from at bytes fields in
    let more : Found = if nat_lt (length bytes) size then ended found else
    record {
      at = at + size;
      rest = drop size bytes;
      fields = fields
          ++ record { offset = at; name = name; look = look; width = width; bytes = take size bytes } ∷ [];
    } in
    ap (λ n. cond (n == 0) found more) none

either_none : (b : Bool) (x y : Found) → x ≡ y → cond b y x ≡ y
either_none true x y is = refl
either_none false x y is = is

one_none : (wanted : Wanted) (at : ℕ) (bytes : List ℕ) (fields : List Field) → length bytes ≡ 0
    → after wanted (from at bytes fields) ≡ from at bytes fields
one_none (sized name look width size) at bytes fields none = field_none name look width size at bytes fields none
one_none (until name end) at bytes fields none =
    either_none (nat_le end at) (after_field name looks.text 1 (end - at) (from at bytes fields)) (from at bytes fields)
    (field_none name looks.text 1 (end - at) at bytes fields none)
one_none unnamed at bytes fields none = ended_none at bytes fields none

pub all_none : (wanted : List Wanted) (at : ℕ) (bytes : List ℕ) (fields : List Field) → length bytes ≡ 0
    → after_all wanted (from at bytes fields) ≡ from at bytes fields
all_none [] at bytes fields none = refl
all_none (one ∷ more) at bytes fields none = ap (after_all more) (one_none one at bytes fields none)
    ∙ all_none more at bytes fields none

-- ---- one after another

all_append : (a b : List Wanted) (found : Found) → after_all (a ++ b) found ≡ after_all b (after_all a found)
all_append [] b found = refl
all_append (one ∷ a) b found = all_append a b (after one found)

some_bytes : (bytes : List ℕ) → 0 < length bytes → (length bytes == 0) ≡ false
some_bytes bytes some = ne_eqb (length bytes) 0 (λ e. absurd (omega (arith, e, some)))

all_read : (bytes : List ℕ) → drop (length bytes) bytes ≡ []
all_read bytes = nil_from_length (drop (length bytes) bytes) (omega (arith, length-drop (length bytes) bytes))

ended_is : (at : ℕ) (bytes : List ℕ) (fields : List Field)
    → ended (from at bytes fields) ≡ from (at + length bytes) (drop (length bytes) bytes) fields
ended_is at bytes fields = ap (λ l. from (at + length bytes) l fields) (sym (all_read bytes))

pub reached_none : (wanted : List Wanted) (at : ℕ) (bytes : List ℕ) (fields : List Field) → length bytes ≡ 0
    → Reached wanted at bytes fields fields 0
reached_none wanted at bytes fields none = record {
  within = omega arith;
  found = all_none wanted at bytes fields none ∙ ap (λ k. from k bytes fields) (let e : at ≡ at + 0 = omega arith in e);
}

-- a field was found
pub reached_field : (name : List ℕ) (look : Look) (width size at : ℕ) (bytes : List ℕ) (old new : List Field) → 0 < length bytes
    → size ≤ length bytes
    → new ≡ old ++ record { offset = at; name = name; look = look; width = width; bytes = take size bytes } ∷ []
    → Reached (sized name look width size ∷ []) at bytes old new size
reached_field name look width size at bytes old new some fits added = record {
  within = fits;
  found =
      let found = from at bytes old in
      let more : Found = record {
        at = at + size;
        rest = drop size bytes;
        fields = old
            ++ record { offset = at; name = name; look = look; width = width; bytes = take size bytes } ∷ [];
      } in
      ap (λ b. cond b found (cond (nat_lt (length bytes) size) (ended found) more)) (some_bytes bytes some)
      ∙ ap (λ b. cond b (ended found) more) (le-ltb (length bytes) size fits)
      ∙ ap (λ l. from (at + size) (drop size bytes) l) (sym added);
}

-- there are fewer bytes than the field has, or none
pub reached_short : (name : List ℕ) (look : Look) (width size at : ℕ) (bytes : List ℕ) (fields : List Field) → length bytes < size
    → Reached (sized name look width size ∷ []) at bytes fields fields (length bytes)
reached_short name look width size at bytes fields short = record {
  within = omega arith;
  found =
      let found = from at bytes fields in
      let more : Found = record {
        at = at + size;
        rest = drop size bytes;
        fields = fields
            ++ record { offset = at; name = name; look = look; width = width; bytes = take size bytes } ∷ [];
      } in
      elim (cases_lt 0 (length bytes)) [
        | inl some ↦
            ap (λ b. cond b found (cond (nat_lt (length bytes) size) (ended found) more)) (some_bytes bytes some)
            ∙ ap (λ b. cond b (ended found) more) (lt-ltb (length bytes) size short)
            ∙ ended_is at bytes fields
        | inr few ↦
            let none : length bytes ≡ 0 = omega (arith, few) in
            field_none name look width size at bytes fields none
            ∙ sym (ended_none at bytes fields none)
            ∙ ended_is at bytes fields
      ];
}

-- no byte is left for a field of any size
pub reached_empty : (name : List ℕ) (look : Look) (width size at : ℕ) (bytes : List ℕ) (fields : List Field) → length bytes ≡ 0
    → Reached (sized name look width size ∷ []) at bytes fields fields (length bytes)
reached_empty name look width size at bytes fields none =
    subst (λ k. Reached (sized name look width size ∷ []) at bytes fields fields k) (sym none)
    (reached_none (sized name look width size ∷ []) at bytes fields none)

-- nothing is known of the bytes
pub reached_unnamed : (at : ℕ) (bytes : List ℕ) (fields : List Field)
    → Reached (unnamed ∷ []) at bytes fields fields (length bytes)
reached_unnamed at bytes fields = record { within = omega arith; found = ended_is at bytes fields }

-- the end of a field was reached before
pub reached_before : (name : List ℕ) (end at : ℕ) (bytes : List ℕ) (fields : List Field) → end ≤ at
    → Reached (until name end ∷ []) at bytes fields fields 0
reached_before name end at bytes fields before = record {
  within = omega arith;
  found =
      let found = from at bytes fields in
      ap (λ b. cond b found (after_field name looks.text 1 (end - at) found)) (le-leb end at before)
      ∙ ap (λ k. from k bytes fields) (let e : at ≡ at + 0 = omega arith in e);
}

-- the bytes before the end are a field
pub reached_until : (name : List ℕ) (end at : ℕ) (bytes : List ℕ) (old new : List Field) (n : ℕ) → at < end
    → Reached (sized name looks.text 1 (end - at) ∷ []) at bytes old new n → Reached (until name end ∷ []) at bytes old new n
reached_until name end at bytes old new n before one = record {
  within = one.within;
  found =
      let found = from at bytes old in
      ap (λ b. cond b found (after_field name looks.text 1 (end - at) found)) (lt-leb end at before)
      ∙ one.found;
}

-- ---- some fields, and then others

pub reached_more : (a b : List Wanted) (at k : ℕ) (bytes rest : List ℕ) (old now new : List Field) (n m : ℕ)
    → Reached a at bytes old now n
    → k ≡ at + n → rest ≡ drop n bytes → Reached b k rest now new m → Reached (a ++ b) at bytes old new (n + m)
reached_more a b at k bytes rest old now new n m one place front two = record {
  within = (let w = two.within in let e : length rest ≡ length bytes - n = ap length front
      ∙ length-drop n bytes in omega (arith, w, e, one.within));
  found =
      all_append a b (from at bytes old)
      ∙ ap (after_all b) one.found
      ∙ ap (λ j. after_all b (from j (drop n bytes) now)) (sym place)
      ∙ ap (λ l. after_all b (from k l now)) (sym front)
      ∙ two.found
      ∙ ap (λ j. from j (drop m rest) new) (let e : k + m ≡ at + (n + m) = omega (arith, place) in e)
      ∙ ap (λ l. from (at + (n + m)) l new) (ap (drop m) front ∙ drop-drop m n bytes);
}

-- where all bytes were read, further fields aren't found
reached_end : (a b : List Wanted) (at : ℕ) (bytes : List ℕ) (old new : List Field) (n : ℕ) → Reached a at bytes old new n
    → n ≡ length bytes
    → Reached (a ++ b) at bytes old new n
reached_end a b at bytes old new n one all = record {
  within = one.within;
  found =
      all_append a b (from at bytes old)
      ∙ ap (after_all b) one.found
      ∙ all_none b (at + n) (drop n bytes) new (omega (arith, all, length-drop n bytes));
}

-- ---- fields for each of a list

module _ {X : Type 0} (wanted : X → List Wanted) (xs : List X) (at : ℕ) (bytes : List ℕ) (old : List Field) where
  pub each_start : Reached (flat_map wanted (take 0 xs)) at bytes old old 0
  each_start = record {
    within = omega arith;
    found = ap (λ k. from k bytes old) (let e : at ≡ at + 0 = omega arith in e);
  }

  pub each_more : (i k n m : ℕ) (x d : X) (rest : List ℕ) (now new : List Field) → i < length xs → x ≡ get_or xs i d
      → Reached (flat_map wanted (take i xs)) at bytes old now n → k ≡ at + n → rest ≡ drop n bytes
      → Reached (wanted x) k rest now new m
      → Reached (flat_map wanted (take (i + 1) xs)) at bytes old new (n + m)
  each_more i k n m x d rest now new inside is one place front two =
      subst (λ l. Reached l at bytes old new (n + m))
      (sym (
      ap (flat_map wanted) (take_more xs i d inside ∙ ap (λ y. take i xs ++ y ∷ []) (sym is))
      ∙ flat_map-append wanted (take i xs) (x ∷ [])
      ∙ ap (λ l. flat_map wanted (take i xs) ++ l) (append-nil (wanted x))))
      (reached_more (flat_map wanted (take i xs)) (wanted x) at k bytes rest old now new n m one place front two)

  pub each_done : (i n : ℕ) (new : List Field) → length xs ≤ i → Reached (flat_map wanted (take i xs)) at bytes old new n
      → Reached (flat_map wanted xs) at bytes old new n
  each_done i n new all one = subst (λ l. Reached (flat_map wanted l) at bytes old new n) (take_all i xs all) one

-- ---- the same fields again and again

times_more : (wanted : List Wanted) (m n : ℕ) → times (m + n) wanted ≡ times m wanted ++ times n wanted
times_more wanted zero n = ap (λ k. times k wanted) (let e : 0 + n ≡ n = omega arith in e)
times_more wanted (suc m) n =
    ap (λ k. times k wanted) (let e : suc m + n ≡ suc (m + n) = omega arith in e)
    ∙ ap (λ l. wanted ++ l) (times_more wanted m n)
    ∙ sym (append_assoc wanted (times m wanted) (times n wanted))

times_once : (wanted : List Wanted) → times 1 wanted ≡ wanted
times_once wanted = append-nil wanted

module _ (wanted : List Wanted) (at : ℕ) (bytes : List ℕ) (old : List Field) where
  pub again_start : Reached (times 0 wanted) at bytes old old 0
  again_start = each_start (λ (one : Wanted). one ∷ []) wanted at bytes old

  -- they were found once more
  pub again : (done k n m : ℕ) (rest : List ℕ) (now new : List Field) → Reached (times done wanted) at bytes old now n
      → k ≡ at + n → rest ≡ drop n bytes
      → Reached wanted k rest now new m → Reached (times (done + 1) wanted) at bytes old new (n + m)
  again done k n m rest now new one place front two =
      subst (λ l. Reached l at bytes old new (n + m))
      (sym (times_more wanted done 1 ∙ ap (λ l. times done wanted ++ l) (times_once wanted)))
      (reached_more (times done wanted) wanted at k bytes rest old now new n m one place front two)

  -- as often as they should be, or until all bytes were read
  pub again_done : (done count n : ℕ) (new : List Field) → done ≤ count → (done < count → n ≡ length bytes)
      → Reached (times done wanted) at bytes old new n
      → Reached (times count wanted) at bytes old new n
  again_done done count n new few all one =
      elim (cases_lt done count) [
        | inl less ↦
            subst (λ l. Reached l at bytes old new n)
            (sym (ap (λ k. times k wanted) (let e : count ≡ done + (count - done) = omega arith in e) ∙ times_more wanted done
            (count - done)))
            (reached_end (times done wanted) (times (count - done) wanted) at bytes old new n one (all less))
        | inr more ↦ subst (λ k. Reached (times k wanted) at bytes old new n) (let e : done ≡ count = omega arith in e) one
      ]

-- ---- the fields of parts

-- fields that were there before those that are found
abbrev with_old : List Field → Found → Found
with_old old found = from found.at found.rest (old ++ found.fields)

picked : (f : Found → Found) (b : Bool) (x y : Found) → f (cond b x y) ≡ cond b (f x) (f y)
picked f true x y = refl
picked f false x y = refl

field_kept : (old : List Field) (name : List ℕ) (look : Look) (width size : ℕ) (found : Found)
    → after_field name look width size (with_old old found) ≡ with_old old (after_field name look width size found)
field_kept old name look width size found =
    let one : Field = record { offset = found.at; name = name; look = look; width = width; bytes = take size found.rest } in
    let none = length found.rest == 0 in
    let short = nat_lt (length found.rest) size in
    let more : Found = from (found.at + size) (drop size found.rest) (found.fields ++ one ∷ []) in
    ap (λ l. cond none (with_old old found)
    (cond short (with_old old (ended found)) (from (found.at + size) (drop size found.rest) l)))
    (append_assoc old found.fields (one ∷ []))
    ∙ ap (λ f. cond none (with_old old found) f) (sym (picked (with_old old) short (ended found) more))
    ∙ sym (picked (with_old old) none found (cond short (ended found) more))

one_kept : (old : List Field) (wanted : Wanted) (found : Found)
    → after wanted (with_old old found) ≡ with_old old (after wanted found)
one_kept old (sized name look width size) found = field_kept old name look width size found
one_kept old (until name end) found =
    ap (λ f. cond (nat_le end found.at) (with_old old found) f) (field_kept old name looks.text 1 (end - found.at) found)
    ∙ sym (picked (with_old old) (nat_le end found.at) found (after_field name looks.text 1 (end - found.at) found))
one_kept old unnamed found = refl

all_kept : (old : List Field) (wanted : List Wanted) (found : Found)
    → after_all wanted (with_old old found) ≡ with_old old (after_all wanted found)
all_kept old [] found = refl
all_kept old (one ∷ more) found = ap (after_all more) (one_kept old one found) ∙ all_kept old more (after one found)

-- the fields of all parts were found
pub parts_done : (parts : List Part) (start : ℕ) (whole : List ℕ) (old : List Field) (n : ℕ) (new : List Field)
    → Reached (flat_map (part_wanted start whole) parts) start whole old new n → new ≡ old ++ parts_fields parts start whole
parts_done parts start whole old n new one =
    let wanted = flat_map (part_wanted start whole) parts in
    sym (ap (λ f. f.fields) one.found)
    ∙ ap (λ l. (after_all wanted (from start whole l)).fields) (sym (append-nil old))
    ∙ ap (λ f. f.fields) (all_kept old wanted (from start whole []))
