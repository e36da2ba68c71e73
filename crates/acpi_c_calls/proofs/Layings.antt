-- Tables that lie one after another.
use Rattle.std.proofs.Common.{◌≡◌, ℕ, ◌+◌, ◌-◌, ◌≤◌, Bool, true, false, cond, List, [], ◌∷◌, ◌++◌, Some, None, length, take, drop, refl, sym, ap, ◌∙◌, arith, append_assoc}
use Rattle.std.specs.Prelude.{◌||◌, nat_lt}
use Rattle.std.specs.List.{concat}
use Rattle.std.proofs.lemmas.Bool.Decides.{nat_tests}
use Rattle.std.proofs.lemmas.List.{append-nil, length-take-le, take-append-drop, drop-take, take-take}
use Rattle.acpi_base.specs.Bytes.{carried, field_at}
use Rattle.acpi_c_calls.specs.Lay.{first_table, IsOneTable, AreWhole}

if_none : (test : Bool) (v n : ℕ) → cond test None (Some v) ≡ Some n → (test ≡ false) × (v ≡ n)
if_none true v n is = absurd cc
if_none false v n is = (refl, cc)

-- what is known of a table that is there as a whole
record Found (bytes : List ℕ) (n : ℕ) : Type 0 where
  long : 8 ≤ n
  whole : n ≤ length bytes
  told : field_at 4 4 bytes ≡ n

limits : (size told n : ℕ) → (nat_lt size 8 || nat_lt told 8 || nat_lt size told) ≡ false → told ≡ n → (8 ≤ n) × (n ≤ size)
limits size told n test is = (grind (arith, nat_tests, test, is), grind (arith, nat_tests, test, is))

found : (bytes : List ℕ) (n : ℕ) → first_table bytes ≡ Some n → Found bytes n
found bytes n is =
    let both = if_none (nat_lt (length bytes) 8 || nat_lt (field_at 4 4 bytes) 8 || nat_lt (length bytes) (field_at 4 4 bytes)) (field_at 4 4 bytes) n is in
    let in_limits = limits (length bytes) (field_at 4 4 bytes) n both.0 both.1 in
    record { long = in_limits.0; whole = in_limits.1; told = both.1 }

-- a table is as long as it says
is_table : (bytes : List ℕ) → 8 ≤ length bytes → field_at 4 4 bytes ≡ length bytes → first_table bytes ≡ Some (length bytes)
is_table bytes long told =
    let enough : nat_lt (length bytes) 8 ≡ false = grind (arith, nat_tests, long) in
    let same : nat_lt (length bytes) (length bytes) ≡ false = grind (arith, nat_tests) in
    rw (told, enough, same) refl

-- the length of the first n bytes
pub told_in : (bytes : List ℕ) (n : ℕ) → 8 ≤ n → field_at 4 4 (take n bytes) ≡ field_at 4 4 bytes
told_in bytes n long =
    let split : n ≡ 4 + (n - 4) = omega (arith, long) in
    ap (λ (m : ℕ). carried (take 4 (drop 4 (take m bytes)))) split ∙ ap (λ (l : List ℕ). carried (take 4 l)) (drop-take 4 (n - 4) bytes)
    ∙ ap carried (take-take 4 (n - 4) (drop 4 bytes) (omega (arith, long)))

-- the first table of bytes
one_table : (bytes : List ℕ) (n : ℕ) → first_table bytes ≡ Some n → IsOneTable (take n bytes)
one_table bytes n is =
    let at = found bytes n is in
    let size : length (take n bytes) ≡ n = length-take-le n bytes at.whole in
    is_table (take n bytes) (omega (arith, size, at.long)) (told_in bytes n at.long ∙ at.told ∙ sym size)

pub concat_push : (tables : List (List ℕ)) (table rest : List ℕ) → concat (tables ++ table ∷ []) ++ rest ≡ concat tables ++ (table ++ rest)
concat_push [] table rest = ap (λ (l : List ℕ). l ++ rest) (append-nil table)
concat_push (t ∷ tables) table rest =
    append_assoc t (concat (tables ++ table ∷ [])) rest ∙ ap (λ (l : List ℕ). t ++ l) (concat_push tables table rest)
    ∙ sym (append_assoc t (concat tables) (table ++ rest))

all_push : (tables : List (List ℕ)) (table : List ℕ) → AreWhole tables → IsOneTable table → AreWhole (tables ++ table ∷ [])
all_push [] table are is = (is, tt)
all_push (t ∷ tables) table are is = (are.0, all_push tables table are.1 is)

-- one table more
pub next_table : (tables : List (List ℕ)) (bytes rest : List ℕ) (n : ℕ) → concat tables ++ rest ≡ bytes → AreWhole tables → first_table rest ≡ Some n
    → (concat (tables ++ take n rest ∷ []) ++ drop n rest ≡ bytes) × AreWhole (tables ++ take n rest ∷ [])
next_table tables bytes rest n joined are is = (
  concat_push tables (take n rest) (drop n rest) ∙ ap (λ (l : List ℕ). concat tables ++ l) (take-append-drop n rest) ∙ joined,
  all_push tables (take n rest) are (one_table rest n is),
)
