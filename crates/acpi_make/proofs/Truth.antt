-- Tables that are made without notes are correct.
use Rattle.std.proofs.Common.{◌≡◌, ℕ, zero, suc, ◌+◌, ◌/◌, ◌%◌, ◌<◌, ◌≤◌, ◌==◌, nat_lt, nat_le, ◌&&◌, not, Bool, true, false, cond}
use Rattle.std.proofs.Common.{List, [], ◌∷◌, ◌++◌, length, take, drop, Option, Some, None, Result, Ok, Err, refl, sym, ap, subst, ◌∙◌, arith, length-append}
use Rattle.std.specs.Prelude.{sum}
use Rattle.std.proofs.Math.Seq.{take-length}
use Rattle.std.proofs.lemmas.Bool.{lt-ltb, le-leb, eqb-true, and_parts}
use Rattle.std.proofs.lemmas.List.{take-append-drop, drop-drop, length-drop, length-map}
use Rattle.acpi_base.proofs.Bytes.{length_le}
use Rattle.acpi_base.specs.Bytes.{le, carried, field_at}
use Rattle.acpi_base.specs.declared.walk.Walk.{Walk}
use Rattle.acpi_make.specs.Blamed.{blamed}
use Rattle.acpi_make.specs.Complete.{are_left, written, filled, all_filled, summed, known, completed}
use Rattle.acpi_make.specs.Compare.{difference}
use Rattle.acpi_make.specs.Draft.{Drafted, nothing_yet, doubt_of, all_taken}
use Rattle.acpi_make.specs.Fits.{fits}
use Rattle.acpi_make.specs.Gives.{with_front, and_then}
use Rattle.acpi_make.specs.Item.{known_cells}
use Rattle.acpi_make.specs.Laws.{TablesAreTrue}
use Rattle.acpi_make.specs.Made.{Table, sizes_own, made_of, numbers_own, unless, finished, or_doubt}
use Rattle.acpi_make.specs.Notes.{begins_with, is_untrue, untrue, listed, untrue_sum, untrue_sums, notes}
use Rattle.acpi_make.specs.Right.{with_numbers}
use Rattle.acpi_make.specs.Extent.{own}
use Rattle.acpi_make.specs.Own.{none_own, table_own, references_own}
use Rattle.acpi_make.specs.Short.{short}
use Rattle.acpi_make.specs.declared.file_kind.FileKind.{FileKind}
use Rattle.acpi_make.specs.declared.file_kind.FileKind.TheVariants as kinds
use Rattle.acpi_make.specs.Source.{Source}
use Rattle.acpi_make.specs.Fault.{Fault}
use Rattle.acpi_make.specs.declared.item.Cell.{Cell}
use Rattle.acpi_make.specs.declared.item.Cell.TheVariants.{Byte, Left}
use Rattle.acpi_make.specs.declared.extent.Own.{Own}

-- ---- as many bytes as cells

-- what a value comes from
pub record Then {A B : Type 0} (first : Result A Fault) (rest : A → Result B Fault) (value : B) : Type 0 where
  pub middle : A
  pub is : first ≡ Ok middle
  pub follows : rest middle ≡ Ok value

pub then_is : {A B : Type 0} → (first : Result A Fault) (rest : A → Result B Fault) (value : B) → and_then first rest ≡ Ok value → Then first rest value
then_is (Ok middle) rest value is = record { middle = middle; is = refl; follows = is }
then_is (Err fault) rest value is = absurd cc

record Front (b : ℕ) (read : Result (List ℕ) Fault) (bytes : List ℕ) : Type 0 where
  rest : List ℕ
  is : read ≡ Ok rest
  whole : b ∷ rest ≡ bytes

front_is : (b : ℕ) (read : Result (List ℕ) Fault) (bytes : List ℕ) → with_front (b ∷ []) read ≡ Ok bytes → Front b read bytes
front_is b (Ok rest) bytes is = record { rest = rest; is = refl; whole = cc }
front_is b (Err fault) bytes is = absurd cc

length_known : (cells : List Cell) (bytes : List ℕ) → known cells ≡ Ok bytes → length bytes ≡ length cells
length_known [] bytes is = let e : [] ≡ bytes = cc in ap length (sym e)
length_known (Left place ∷ cells) bytes is = absurd cc
length_known (Byte b ∷ cells) bytes is =
    let front = front_is b (known cells) bytes is in
    ap length (sym front.whole) ∙ ap suc (length_known cells front.rest front.is)

left_within : (w : ℕ) (cells : List Cell) → are_left w cells ≡ true → w ≤ length cells
left_within zero cells are = omega arith
left_within (suc w) [] are = absurd cc
left_within (suc w) (Left place ∷ cells) are = omega (arith, left_within w cells are)
left_within (suc w) (Byte b ∷ cells) are = absurd cc

length_written : (offset w n : ℕ) (cells : List Cell) → w ≤ length (drop offset cells) → length (written offset w n cells) ≡ length cells
length_written offset w n cells fits =
    let all = length-append (take offset cells) (known_cells (le w n) ++ drop (offset + w) cells) in
    let end = length-append (known_cells (le w n)) (drop (offset + w) cells) in
    let own = length-map (le w n) Byte ∙ length_le w n in
    let rest = ap length (sym (drop-drop w offset cells)) ∙ length-drop w (drop offset cells) in
    let whole = sym (length-append (take offset cells) (drop offset cells)) ∙ ap length (take-append-drop offset cells) in
    omega (arith, all, end, own, rest, whole, fits)

length_chosen : (a b c : Bool) (x y : List Cell) → (b ≡ true → length x ≡ length y) → length (cond (a && b && c) x y) ≡ length y
length_chosen true true true x y same = same refl
length_chosen true true false x y same = refl
length_chosen true false c x y same = refl
length_chosen false b c x y same = refl

length_filled : (offset w n : ℕ) (cells : List Cell) → length (filled offset w n cells) ≡ length cells
length_filled offset w n cells =
    length_chosen (nat_lt offset (length cells)) (are_left w (drop offset cells)) (fits w n) _ _
    (λ is. length_written offset w n cells (left_within w (drop offset cells) is))

length_all : (owns : List Own) (cells : List Cell) → length (all_filled owns cells) ≡ length cells
length_all [] cells = refl
length_all (one ∷ owns) cells =
    length_all owns (filled one.offset one.width one.number cells) ∙ length_filled one.offset one.width one.number cells

length_summed : (file_kind : FileKind) (cells : List Cell) → length (summed file_kind cells) ≡ length cells
length_summed kinds.Table cells = length_filled 9 1 _ cells
length_summed kinds.Rsdp cells = length_filled 32 1 _ _ ∙ length_filled 8 1 _ cells
length_summed kinds.Facs cells = refl
length_summed kinds.Cdat cells = length_filled 5 1 _ cells
length_summed kinds.S3pt cells = refl

length_completed : (file_kind : FileKind) (owns : List Own) (cells : List Cell) (bytes : List ℕ) → completed file_kind owns cells ≡ Ok bytes
    → length bytes ≡ length cells
length_completed file_kind owns cells bytes is =
    length_known (summed file_kind (all_filled owns cells)) bytes is ∙ length_summed file_kind (all_filled owns cells) ∙ length_all owns cells

-- what comes of an outcome that nothing is wrong with
pub unless_is : {A : Type 0} (wrong : Option Fault) (outcome : Result A Fault) (value : A) → unless wrong outcome ≡ Ok value → outcome ≡ Ok value
unless_is None outcome value is = is
unless_is (Some wrong) outcome value is = absurd cc

pub doubt_is : {A : Type 0} (doubt : Option Fault) (outcome : Result A Fault) (value : A) → or_doubt doubt outcome ≡ Ok value → outcome ≡ Ok value
doubt_is doubt (Ok made) value is = is
doubt_is doubt (Err wrong) value is = absurd cc

-- a table that is made has as many bytes as its text, and notes on its own numbers
pub record IsFinished (file_kind : FileKind) (walk : Option Walk) (s : Source) (d : Drafted) (table : Table) : Type 0 where
  pub references : List Own
  pub size : length table.bytes ≡ length d.cells
  pub noted : table.untrue ≡ notes file_kind (references ++ (sizes_own file_kind walk d ++ table_own s d.cells d.marks)) table.bytes

pub finished_is : (file_kind : FileKind) (walk : Option Walk) (s : Source) (d : Drafted) (table : Table) → finished file_kind walk s d ≡ Ok table
    → IsFinished file_kind walk s d table
finished_is file_kind walk s d table is =
    let one = then_is (numbers_own file_kind walk s d) _ table is in
    let referred = then_is (references_own s.text d.marks d.marks) _ one.middle one.is in
    let owns : referred.middle ++ (sizes_own file_kind walk d ++ table_own s d.cells d.marks) ≡ one.middle = cc in
    let whole = unless_is (short file_kind walk s d) _ table one.follows in
    let two = then_is (completed file_kind (one.middle ++ none_own walk d.marks (length d.cells)) d.cells) _ table whole in
    let three = then_is (difference walk s d two.middle) _ table two.follows in
    let same : made_of file_kind one.middle two.middle ≡ table = let e = unless_is (blamed file_kind walk s d one.middle two.middle three.middle) _ table three.follows in cc in
    subst (λ made. IsFinished file_kind walk s d made) same
    (record {
      references = referred.middle;
      size = length_completed file_kind (one.middle ++ none_own walk d.marks (length d.cells)) d.cells two.middle two.is;
      noted = ap (λ owns. notes file_kind owns two.middle) (sym owns);
    })

-- ---- numbers without a note

-- none of the numbers has a note
abbrev pub AllHold : List ℕ → List Own → Type 0
AllHold bytes [] = Unit {0}
AllHold bytes (one ∷ owns) = (is_untrue one bytes ≡ false) × AllHold bytes owns

not_noted : (b : Bool) (one : Own) (owns : List Own) → cond b (one ∷ owns) owns ≡ [] → (b ≡ false) × (owns ≡ [])
not_noted true one owns is = absurd cc
not_noted false one owns is = (refl, is)

all_hold : (owns : List Own) (bytes : List ℕ) → untrue owns bytes ≡ [] → AllHold bytes owns
all_hold [] bytes is = tt
all_hold (one ∷ owns) bytes is =
    let rest = not_noted (is_untrue one bytes) one (untrue owns bytes) is in
    (rest.0, all_hold owns bytes rest.1)

none_in : (a b : List Own) → a ++ b ≡ [] → (a ≡ []) × (b ≡ [])
none_in [] b is = (refl, is)
none_in (one ∷ a) b is = absurd cc

pub hold_both : (bytes : List ℕ) (a b : List Own) → AllHold bytes (a ++ b) → AllHold bytes a × AllHold bytes b
hold_both bytes [] b hold = (tt, hold)
hold_both bytes (one ∷ a) b hold =
    let rest = hold_both bytes a b hold.1 in
    ((hold.0, rest.0), rest.1)

begins_is : (w n : ℕ) (bytes : List ℕ) → begins_with w n bytes ≡ true → carried (take w bytes) ≡ n
begins_is zero n bytes is = sym (eqb-true n 0 is)
begins_is (suc w) n [] is = absurd cc
begins_is (suc w) n (b ∷ bytes) is =
    let parts = and_parts (b == n % 256) (begins_with w (n / 256) bytes) is in
    let lowest = eqb-true b (n % 256) parts.0 in
    let rest = begins_is w (n / 256) bytes parts.1 in
    omega (arith, lowest, rest)

not_false : (a b : Bool) → a ≡ true → (a && not b) ≡ false → b ≡ true
not_false true true one is = refl
not_false true false one is = absurd cc
not_false false b one is = absurd cc

-- a number without a note is in its field, if the field is there
pub holds : (offset w n : ℕ) (bytes : List ℕ) → w ≤ length (drop offset bytes) → is_untrue (own offset w n) bytes ≡ false
    → field_at offset w bytes ≡ n
holds offset w n bytes within is =
    let field = drop offset bytes in
    begins_is w n field (not_false (nat_le w (length field)) (begins_with w n field) (le-leb w (length field) within) is)

-- ---- whole tables

no_sum : (a b : Bool) (one : Own) → a ≡ true → listed (cond (a && not b && not b) (Some one) None) ≡ [] → b ≡ true
no_sum true true one is none = refl
no_sum true false one is none = absurd cc
no_sum false b one is none = absurd cc

sum_right : (offset : ℕ) (bytes : List ℕ) → offset < length bytes → listed (untrue_sum offset (length bytes) bytes bytes) ≡ []
    → sum bytes % 256 ≡ 0
sum_right offset bytes within none =
    let front = take (length bytes) bytes in
    ap (λ l. sum l % 256) (sym (take-length bytes))
    ∙ eqb-true (sum front % 256) 0 (no_sum (nat_lt offset (length bytes)) (sum front % 256 == 0) _ (lt-ltb offset (length bytes) within) none)

-- what a table without notes is
pub record IsQuiet (walk : Option Walk) (d : Drafted) (bytes : List ℕ) : Type 0 where
  pub hold : AllHold bytes (sizes_own kinds.Table walk d)
  pub sums : listed (untrue_sum 9 (length bytes) bytes bytes) ≡ []

pub quiet_is : (walk : Option Walk) (s : Source) (d : Drafted) (table : Table) → IsFinished kinds.Table walk s d table → table.untrue ≡ []
    → IsQuiet walk d table.bytes
quiet_is walk s d table is none =
    let sizes = sizes_own kinds.Table walk d in
    let owns = is.references ++ (sizes ++ table_own s d.cells d.marks) in
    let wrong = untrue owns table.bytes in
    let sums = untrue_sums kinds.Table table.bytes in
    let both = none_in wrong (sums (with_numbers wrong table.bytes)) (sym is.noted ∙ none) in
    let rest = hold_both table.bytes is.references (sizes ++ table_own s d.cells d.marks) (all_hold owns table.bytes both.0) in
    let as_they_are = ap (λ (l : List Own). sums (with_numbers l table.bytes)) (sym both.0) in
    record { hold = (hold_both table.bytes sizes (table_own s d.cells d.marks) rest.1).0; sums = as_they_are ∙ both.1 }

pub tables_true : TablesAreTrue
tables_true walk s parts table is none long =
    let one = then_is (all_taken s parts nothing_yet) _ table is in
    let done = finished_is kinds.Table walk s one.middle table (doubt_is (doubt_of one.middle) _ table one.follows) in
    let quiet = quiet_is walk s one.middle table done none in
    record {
      header = long;
      tells =
          holds 4 4 (length one.middle.cells) table.bytes (omega (arith, long, length-drop 4 table.bytes)) quiet.hold.0
          ∙ sym done.size;
      zero = sum_right 9 table.bytes (omega (arith, long)) quiet.sums;
    }
