-- Values written one after another, each as its row has it.
use Rattle.std.proofs.Common.{◌≡◌, ℕ, zero, suc, ◌+◌, ◌<◌, ◌≤◌, List, [], ◌∷◌, ◌++◌, length, take, drop, get_or, refl, sym, ◌∙◌, ap, append_assoc, arith, length-append}
use Rattle.std.specs.Prelude.{IsTrue, nat_le}
use Rattle.std.specs.Int.{bytes_low_first, byte_at}
use Rattle.std.proofs.lemmas.Bool.{and_parts, leb-true}
use Rattle.std.proofs.lemmas.List.{take_more, take_at, length-take-le, take-append-drop, take_all, append-nil}
use Rattle.acpi_base.specs.Bytes.{le, put}
use Rattle.acpi_base.specs.Fields.{row_width, rows_joined, are_numbers, value_in, Fits, AllFit}
use Rattle.acpi_base.specs.declared.row.Row.{Row}
use Rattle.acpi_base.specs.declared.row.Value.{Value}
use Rattle.acpi_base.specs.declared.row.Value.TheVariants as values
use Rattle.acpi_base.proofs.Bytes.{length_le}

low_take : (i w n v : ℕ) → w ≤ n → take w (bytes_low_first i n v) ≡ bytes_low_first i w v
low_take i zero n v h = refl
low_take i (suc w) zero v h = absurd (omega arith)
low_take i (suc w) (suc n) v h = ap (λ (l : List ℕ). byte_at i v ∷ l) (low_take (suc i) w n v (omega arith))

pub le_take : (w v : ℕ) → w ≤ 8 → take w (bytes_low_first 0 8 v) ≡ le w v
le_take w v h = low_take 0 w 8 v h

pub number_at : (rows : List Row) (i : ℕ) (d : Row) → i < length rows → IsTrue (are_numbers rows) → row_width (get_or rows i d) ≤ 8
number_at [] i d inside all = absurd (omega arith)
number_at (row ∷ rows) zero d inside all = leb-true (row_width row) 8 (and_parts (nat_le (row_width row) 8) (are_numbers rows) all).0
number_at (row ∷ rows) (suc i) d inside all = number_at rows i d (omega arith) (and_parts (nat_le (row_width row) 8) (are_numbers rows) all).1

pub fits_at : (rows : List Row) (values : List Value) (i : ℕ) (d : Row) (e : Value) → i < length rows → length rows ≡ length values → AllFit rows values → Fits (row_width (get_or rows i d)) (get_or values i e)
fits_at [] values i d e inside same all = absurd (omega arith)
fits_at (row ∷ rows) [] i d e inside same all = absurd (omega arith)
fits_at (row ∷ rows) (value ∷ values) zero d e inside same all = all.0
fits_at (row ∷ rows) (value ∷ values) (suc i) d e inside same all = fits_at rows values i d e (omega arith) (omega arith) all.1

pub length-value : (width : ℕ) (value : Value) → Fits width value → length (value_in width value) ≡ width
length-value width (values.Number n) fits = length_le width n
length-value width (values.Bytes b) fits = fits

-- ---- for any values

module _ {V : Type 0} (f : Row → V → List ℕ) where
  joined_push : (rows : List Row) (values : List V) (row : Row) (value : V) → length rows ≡ length values → rows_joined f (rows ++ row ∷ []) (values ++ value ∷ []) ≡ rows_joined f rows values ++ f row value
  joined_push [] [] row value same = append-nil (f row value)
  joined_push [] (v ∷ values) row value same = absurd (omega arith)
  joined_push (r ∷ rows) [] row value same = absurd (omega arith)
  joined_push (r ∷ rows) (v ∷ values) row value same =
      ap (λ (l : List ℕ). f r v ++ l) (joined_push rows values row value (omega arith)) ∙ sym (append_assoc (f r v) (rows_joined f rows values) (f row value))

  joined_append : (a b : List Row) (x y : List V) → length a ≡ length x → rows_joined f (a ++ b) (x ++ y) ≡ rows_joined f a x ++ rows_joined f b y
  joined_append [] b [] y same = refl
  joined_append [] b (v ∷ x) y same = absurd (omega arith)
  joined_append (r ∷ a) b [] y same = absurd (omega arith)
  joined_append (r ∷ a) b (v ∷ x) y same =
      ap (λ (l : List ℕ). f r v ++ l) (joined_append a b x y (omega arith)) ∙ sym (append_assoc (f r v) (rows_joined f a x) (rows_joined f b y))

module _ {V : Type 0} (f : Row → V → List ℕ) (rows : List Row) (values : List V) (i : ℕ) (d : Row) (e : V) (inside : i < length rows) (same : length rows ≡ length values) where
  -- one more field
  pub joined_more : rows_joined f (take (i + 1) rows) (take (i + 1) values) ≡ rows_joined f (take i rows) (take i values) ++ f (get_or rows i d) (get_or values i e)
  joined_more =
      ap (λ (r : List Row). rows_joined f r (take (i + 1) values)) (take_more rows i d inside)
      ∙ ap (rows_joined f (take i rows ++ get_or rows i d ∷ [])) (take_more values i e (omega arith))
      ∙ joined_push f (take i rows) (take i values) (get_or rows i d) (get_or values i e) (length-take-le i rows (omega arith) ∙ sym (length-take-le i values (omega arith)))

  pub joined_within : length (rows_joined f (take i rows) (take i values)) + length (f (get_or rows i d) (get_or values i e)) ≤ length (rows_joined f rows values)
  joined_within =
      let n = i + 1 in
      let one = rows_joined f (take n rows) (take n values) in
      let two = rows_joined f (drop n rows) (drop n values) in
      let size : length (take n rows) ≡ length (take n values) = length-take-le n rows (omega arith) ∙ sym (length-take-le n values (omega arith)) in
      let whole : one ++ two ≡ rows_joined f rows values =
      sym (joined_append f (take n rows) (drop n rows) (take n values) (drop n values) size)
      ∙ ap (λ (r : List Row). rows_joined f r (take n values ++ drop n values)) (take-append-drop n rows)
      ∙ ap (rows_joined f rows) (take-append-drop n values) in
      omega (arith, ap length whole, length-append one two, ap length joined_more, length-append (rows_joined f (take i rows) (take i values)) (f (get_or rows i d) (get_or values i e)))

  pub value_written : (at : ℕ) (b b' : List ℕ) → at ≡ length (rows_joined f (take i rows) (take i values)) → take at b ≡ rows_joined f (take i rows) (take i values)
      → at + length (f (get_or rows i d) (get_or values i e)) ≤ length b → b' ≡ put at (f (get_or rows i d) (get_or values i e)) b
      → take (at + length (f (get_or rows i d) (get_or values i e))) b' ≡ rows_joined f (take (i + 1) rows) (take (i + 1) values)
  unfolding put
  value_written at b b' is before fits now =
      let r = f (get_or rows i d) (get_or values i e) in
      let whole : b' ≡ (take at b ++ r) ++ drop (at + length r) b = now ∙ sym (append_assoc (take at b) r (drop (at + length r) b)) in
      let size : length (take at b ++ r) ≡ at + length r = omega (arith, length-append (take at b) r, length-take-le at b (omega arith)) in
      ap (take (at + length r)) whole ∙ take_at (take at b ++ r) (drop (at + length r) b) (at + length r) size ∙ ap (λ (t : List ℕ). t ++ r) before ∙ sym joined_more

-- all fields are written
pub all_written : {V : Type 0} (f : Row → V → List ℕ) (rows : List Row) (values : List V) (i at n : ℕ) (b : List ℕ) → length rows ≤ i → length rows ≡ length values → length b ≡ n
    → at ≡ length (rows_joined f (take i rows) (take i values)) → take at b ≡ rows_joined f (take i rows) (take i values) → length (rows_joined f rows values) ≡ n → b ≡ rows_joined f rows values
all_written f rows values i at n b done same size is written fits =
    let all : rows_joined f (take i rows) (take i values) ≡ rows_joined f rows values =
    ap (λ (r : List Row). rows_joined f r (take i values)) (take_all i rows done) ∙ ap (rows_joined f rows) (take_all i values (omega arith)) in
    sym (take_all at b (omega (arith, is, ap length all))) ∙ written ∙ all
