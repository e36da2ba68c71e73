-- Lines that don't differ are those of both texts.
use Rattle.std.proofs.Common.{◌≡◌, ◌⊎◌, ℕ, ◌==◌, nat_le, nat_lt, not, ◌&&◌, ◌||◌, Bool, true, false, cond, inl, inr}
use Rattle.std.proofs.Common.{List, [], ◌∷◌, ◌++◌, length, drop, Option, Some, None, Result, Ok, refl, ap, subst, ◌∙◌, arith}
use Rattle.std.proofs.lemmas.Bool.{and_parts, leb-true, ltb-true}
use Rattle.acpi_base.specs.declared.walk.Walk.{Walk}
use Rattle.acpi_text.specs.Table.{table_text}
use Rattle.acpi_make.specs.Blamed.{blamed}
use Rattle.acpi_make.specs.Compare.{mark_at, is_reference, is_same, Range, no_bytes, is_within, is_passed, past, rest_after, begins_same}
use Rattle.acpi_make.specs.Compare.{has_no_name, is_empty, misgrouped}
use Rattle.acpi_make.specs.Compare.{cover, wanted_after, differ, difference}
use Rattle.acpi_make.specs.Complete.{completed}
use Rattle.acpi_make.specs.Draft.{Drafted, nothing_yet, doubt_of, first_of, all_taken}
use Rattle.acpi_make.specs.Fault.{Fault}
use Rattle.acpi_make.specs.Lines.{IsAmong, AreAmong, IsSaid, IsCovered, AreSaid, IsShown, TextsAreShown}
use Rattle.acpi_make.specs.Made.{Table, made_of, numbers_own, unless}
use Rattle.acpi_make.specs.Meaning.{parts_of}
use Rattle.acpi_make.specs.Own.{next_line, none_own}
use Rattle.acpi_make.specs.Short.{short}
use Rattle.acpi_make.specs.Source.{Source}
use Rattle.acpi_make.specs.declared.draft.Mark.{Mark}
use Rattle.acpi_make.specs.declared.item.Item.{Item}
use Rattle.acpi_make.specs.declared.extent.Own.{Own}
use Rattle.acpi_make.specs.declared.file_kind.FileKind.{FileKind}
use Rattle.acpi_make.proofs.Truth.{then_is, unless_is, doubt_is}

-- ---- which way a line went

-- nothing after the first of two
none_later : (one other : Option Fault) → first_of one other ≡ None → other ≡ None
none_later (Some wrong) other is = absurd cc
none_later None other is = is

-- one of three ways that end with nothing
ways : (a b c : Bool) (w x y z : Option Fault) (wrong : Fault) → cond a x (cond b (first_of w y) (cond c z (Some wrong))) ≡ None
    → ((a ≡ true) × (x ≡ None)) ⊎ (((b ≡ true) × (y ≡ None)) ⊎ ((c ≡ true) × (z ≡ None)))
ways true b c w x y z wrong is = inl (refl, is)
ways false true c w x y z wrong is = inr (inl (refl, none_later w y is))
ways false false true w x y z wrong is = inr (inr (refl, is))
ways false false false w x y z wrong is = absurd cc

either : (a b : Bool) → (a || b) ≡ true → (a ≡ true) ⊎ (b ≡ true)
either true b is = inl refl
either false b is = inr is

-- ---- the lines of the text

module _ (s t : Source) where
  among_past : (one other : Mark) (covered : Range) (others : List Mark) → IsAmong s t one (past s t other covered others) → IsAmong s t one others
  among_past one other covered [] is = is
  among_past one other covered (next ∷ others) is =
      chosen (is_passed s t other covered next) (λ among. among_past one other covered others among) is
    where
      chosen : (b : Bool) → (IsAmong s t one (past s t other covered others) → IsAmong s t one others)
          → IsAmong s t one (cond b (past s t other covered others) (next ∷ others)) → IsAmong s t one (next ∷ others)
      chosen true again is = inr (again is)
      chosen false again is = is

  among_drop : (one : Mark) (others : List Mark) → IsAmong s t one (drop 1 others) → IsAmong s t one others
  among_drop one [] is = is
  among_drop one (other ∷ others) is = inr is

  begins_among : (size end : ℕ) (one : Mark) (others : List Mark) → begins_same s t size end one others ≡ true → IsAmong s t one others
  begins_among size end one [] is = absurd cc
  begins_among size end one (other ∷ others) is = inl (and_parts (is_same s t one other) (end == next_line others size) is).0

  -- lines among fewer lines
  are_more : (size : ℕ) (marks few all : List Mark) → ((one : Mark) → IsAmong s t one few → IsAmong s t one all)
      → AreAmong s t size marks few → AreAmong s t size marks all
  are_more size [] few all more are = tt
  are_more size (one ∷ marks) few all more are = (kept are.0, are_more size marks few all more are.1)
    where
      kept : ((is_reference one ≡ true) ⊎ (((has_no_name s one || is_empty s one (next_line marks size)) ≡ true) ⊎ IsAmong s t one few))
          → ((is_reference one ≡ true) ⊎ (((has_no_name s one || is_empty s one (next_line marks size)) ≡ true) ⊎ IsAmong s t one all))
      kept (inl is) = inl is
      kept (inr (inl is)) = inr (inl is)
      kept (inr (inr is)) = inr (inr (more one is))

  all_among : (size : ℕ) (covered : Range) (marks others : List Mark) → differ s t size covered marks others ≡ None → AreAmong s t size marks others
  all_among size covered [] others is = tt
  all_among size covered (one ∷ marks) others is =
      chosen (λ k left among. all_among size k marks left among)
      (ways (is_reference one) (begins_same s t size end one rest) (has_no_name s one || is_empty s one end)
      (misgrouped s t one rest) _ _ _ _ is)
    where
      rest : List Mark
      rest = past s t one covered others

      end : ℕ
      end = next_line marks size

      next : Range
      next = cover s one end covered

      chosen : ((k : Range) (left : List Mark) → differ s t size k marks left ≡ None → AreAmong s t size marks left)
          → (((is_reference one ≡ true) × (differ s t size covered marks others ≡ None))
          ⊎ (((begins_same s t size end one rest ≡ true) × (differ s t size next marks (drop 1 rest) ≡ None))
          ⊎ (((has_no_name s one || is_empty s one end) ≡ true) × (differ s t size next marks rest ≡ None))))
          → AreAmong s t size (one ∷ marks) others
      chosen again (inl (way, left)) = (inl way, again covered others left)
      chosen again (inr (inl (way, left))) = (
        inr (inr (among_past one one covered others (begins_among size end one rest way))),
        are_more size marks (drop 1 rest) others (λ other among. among_past other one covered others (among_drop other rest among))
            (again next (drop 1 rest) left),
      )
      chosen again (inr (inr (way, left))) = (
        inr (inl way),
        are_more size marks rest others (λ other among. among_past other one covered others among) (again next rest left),
      )

  none_within : (at : ℕ) → is_within at no_bytes ≡ true → ⊥
  none_within at within =
      let both = and_parts (nat_le 0 at) (nat_lt at 0) within in absurd (omega (arith, ltb-true at 0 both.1))

  -- ---- the lines of the other text

  -- what may be said of a line of the other text, where bytes without a name stand up to an offset
  abbrev Known : ℕ → Range → List Mark → Mark → Type 0
  Known size covered marks other =
      (is_reference other ≡ true) ⊎ (IsSaid s t marks other ⊎ (IsCovered s size marks (mark_at other) ⊎ (is_within (mark_at other) covered ≡ true)))

  abbrev AllKnown : ℕ → Range → List Mark → List Mark → Type 0
  AllKnown size covered marks [] = Unit {0}
  AllKnown size covered marks (other ∷ others) = Known size covered marks other × AllKnown size covered marks others

  none_after : (others : List Mark) (size : ℕ) → wanted_after t others size ≡ None → others ≡ []
  none_after [] size is = refl
  none_after (other ∷ others) size is = absurd cc

  all_before : (size : ℕ) (covered : Range) (marks others : List Mark) → rest_after covered others ≡ [] → AllKnown size covered marks others
  all_before size covered marks [] is = tt
  all_before size covered marks (other ∷ others) is =
      chosen (λ none. all_before size covered marks others none) (is_reference other) (is_within (mark_at other) covered) refl refl is
    where
      chosen : (rest_after covered others ≡ [] → AllKnown size covered marks others) → (a b : Bool) → is_reference other ≡ a → is_within (mark_at other) covered ≡ b
          → cond (a || b) (rest_after covered others) (other ∷ others) ≡ [] → AllKnown size covered marks (other ∷ others)
      chosen again true b one two is = (inl one, again is)
      chosen again false true one two is = (inr (inr (inr two)), again is)
      chosen again false false one two is = absurd cc

  -- lines that are passed, and those after them
  all_past : (size : ℕ) (covered : Range) (one : Mark) (marks others : List Mark) → AllKnown size covered marks (past s t one covered others)
      → AllKnown size covered marks others
  all_past size covered one marks [] are = tt
  all_past size covered one marks (other ∷ others) are =
      chosen (λ past. all_past size covered one marks others past) (is_reference other) (is_same s t one other)
      (is_within (mark_at other) covered) refl refl are
    where
      chosen : (AllKnown size covered marks (past s t one covered others) → AllKnown size covered marks others) → (a b c : Bool) → is_reference other ≡ a → is_within (mark_at other) covered ≡ c
          → AllKnown size covered marks (cond (a || (not b && c)) (past s t one covered others) (other ∷ others))
          → AllKnown size covered marks (other ∷ others)
      chosen again true b c one' two are = (inl one', again are)
      chosen again false true c one' two are = are
      chosen again false false true one' two are = (inr (inr (inr two)), again are)
      chosen again false false false one' two are = are

  -- one line more in the text
  known_more : (size : ℕ) (covered : Range) (one : Mark) (marks : List Mark) (other : Mark)
      → Known size (cover s one (next_line marks size) covered) marks other → Known size covered (one ∷ marks) other
  known_more size covered one marks other (inl is) = inl is
  known_more size covered one marks other (inr (inl is)) = inr (inl (inr is))
  known_more size covered one marks other (inr (inr (inl is))) = inr (inr (inl (inr is)))
  known_more size covered one marks other (inr (inr (inr within))) = chosen (has_no_name s one) refl within
    where
      chosen : (b : Bool) → has_no_name s one ≡ b
          → is_within (mark_at other) (cond b (record { start = mark_at one; end = next_line marks size }) covered) ≡ true
          → Known size covered (one ∷ marks) other
      chosen true is within =
          let both = and_parts (nat_le (mark_at one) (mark_at other)) (nat_lt (mark_at other) (next_line marks size)) within in
          inr (inr (inl (inl (is, leb-true (mark_at one) (mark_at other) both.0, ltb-true (mark_at other) (next_line marks size) both.1))))
      chosen false is within = inr (inr (inr within))

  all_more : (size : ℕ) (covered : Range) (one : Mark) (marks others : List Mark)
      → AllKnown size (cover s one (next_line marks size) covered) marks others → AllKnown size covered (one ∷ marks) others
  all_more size covered one marks [] are = tt
  all_more size covered one marks (other ∷ others) are = (known_more size covered one marks other are.0, all_more size covered one marks others are.1)

  -- a reference more
  known_also : (size : ℕ) (covered : Range) (one : Mark) (marks : List Mark) (other : Mark) → Known size covered marks other → Known size covered (one ∷ marks) other
  known_also size covered one marks other (inl is) = inl is
  known_also size covered one marks other (inr (inl is)) = inr (inl (inr is))
  known_also size covered one marks other (inr (inr (inl is))) = inr (inr (inl (inr is)))
  known_also size covered one marks other (inr (inr (inr less))) = inr (inr (inr less))

  all_also : (size : ℕ) (covered : Range) (one : Mark) (marks others : List Mark) → AllKnown size covered marks others → AllKnown size covered (one ∷ marks) others
  all_also size covered one marks [] are = tt
  all_also size covered one marks (other ∷ others) are = (known_also size covered one marks other are.0, all_also size covered one marks others are.1)

  first_known : (size end : ℕ) (covered : Range) (one : Mark) (marks others : List Mark) → begins_same s t size end one others ≡ true
      → AllKnown size covered (one ∷ marks) (drop 1 others) → AllKnown size covered (one ∷ marks) others
  first_known size end covered one marks [] is are = absurd cc
  first_known size end covered one marks (other ∷ others) is are =
      (inr (inl (inl (and_parts (is_same s t one other) (end == next_line others size) is).0)), are)

  all_known : (size : ℕ) (covered : Range) (marks others : List Mark) → differ s t size covered marks others ≡ None → AllKnown size covered marks others
  all_known size covered [] others is = all_before size covered [] others (none_after (rest_after covered others) size is)
  all_known size covered (one ∷ marks) others is =
      chosen (λ k left known. all_known size k marks left known)
      (ways (is_reference one) (begins_same s t size end one rest) (has_no_name s one || is_empty s one end)
      (misgrouped s t one rest) _ _ _ _ is)
    where
      rest : List Mark
      rest = past s t one covered others

      end : ℕ
      end = next_line marks size

      next : Range
      next = cover s one end covered

      chosen : ((k : Range) (left : List Mark) → differ s t size k marks left ≡ None → AllKnown size k marks left)
          → (((is_reference one ≡ true) × (differ s t size covered marks others ≡ None))
          ⊎ (((begins_same s t size end one rest ≡ true) × (differ s t size next marks (drop 1 rest) ≡ None))
          ⊎ (((has_no_name s one || is_empty s one end) ≡ true) × (differ s t size next marks rest ≡ None))))
          → AllKnown size covered (one ∷ marks) others
      chosen again (inl (way, left)) = all_also size covered one marks others (again covered others left)
      chosen again (inr (inl (way, left))) =
          all_past size covered one (one ∷ marks) others
          (first_known size end covered one marks rest way (all_more size covered one marks (drop 1 rest) (again next (drop 1 rest) left)))
      chosen again (inr (inr (way, left))) =
          all_past size covered one (one ∷ marks) others (all_more size covered one marks rest (again next rest left))

  all_said : (size : ℕ) (marks others : List Mark) → AllKnown size no_bytes marks others → AreSaid s t size marks others
  all_said size marks [] are = tt
  all_said size marks (other ∷ others) are = (one are.0, all_said size marks others are.1)
    where
      one : Known size no_bytes marks other → ((is_reference other ≡ true) ⊎ (IsSaid s t marks other ⊎ IsCovered s size marks (mark_at other)))
      one (inl is) = inl is
      one (inr (inl is)) = inr (inl is)
      one (inr (inr (inl is))) = inr (inr is)
      one (inr (inr (inr within))) = absurd (none_within (mark_at other) within)

-- ---- texts that are made

nothing_wrong : {A : Type 0} (file_kind : FileKind) (walk : Option Walk) (s : Source) (d : Drafted) (owns : List Own)
    (bytes : List ℕ) (wrong : Option Fault)
    (outcome : Result A Fault) (value : A) → unless (blamed file_kind walk s d owns bytes wrong) outcome ≡ Ok value → wrong ≡ None
nothing_wrong file_kind walk s d owns bytes None outcome value is = refl
nothing_wrong file_kind walk s d owns bytes (Some wrong) outcome value is = absurd cc

texts_shown_by : (walk : Option Walk) (s : Source) (parts : List Item) (d : Drafted) (table : Table) → all_taken s parts nothing_yet ≡ Ok d
    → difference walk s d table.bytes ≡ Ok None → IsShown walk s parts table
texts_shown_by walk s parts d table taken is =
    let shown = record s { text = table_text s.form walk table.bytes } in
    let one = then_is (parts_of shown.text) _ None is in
    let two = then_is (all_taken shown one.middle nothing_yet) _ None one.follows in
    let none : differ s shown (length table.bytes) no_bytes d.marks two.middle.marks ≡ None = let e = two.follows in cc in
    record {
      shown = shown;
      shows = refl;
      d = d;
      taken = taken;
      others = one.middle;
      read = one.is;
      e = two.middle;
      also = two.is;
      among = all_among s shown (length table.bytes) no_bytes d.marks two.middle.marks none;
      said = all_said s shown (length table.bytes) d.marks two.middle.marks (all_known s shown (length table.bytes) no_bytes d.marks two.middle.marks none);
    }

pub texts_shown : TextsAreShown
texts_shown walk file_kind s parts table is =
    let one = then_is (all_taken s parts nothing_yet) _ table is in
    let d = one.middle in
    let owns = then_is (numbers_own file_kind walk s d) _ table (doubt_is (doubt_of d) _ table one.follows) in
    let whole = unless_is (short file_kind walk s d) _ table owns.follows in
    let two = then_is (completed file_kind (owns.middle ++ none_own walk d.marks (length d.cells)) d.cells) _ table whole in
    let three = then_is (difference walk s d two.middle) _ table two.follows in
    let none = nothing_wrong file_kind walk s d owns.middle two.middle three.middle _ table three.follows in
    let same : made_of file_kind owns.middle two.middle ≡ table = let e = unless_is (blamed file_kind walk s d owns.middle two.middle three.middle) _ table three.follows in cc in
    subst (λ made. IsShown walk s parts made) same
    (texts_shown_by walk s parts d (made_of file_kind owns.middle two.middle) one.is (three.is ∙ ap Ok none))
