-- Sound bytes that are repaired stay as they are.
use Rattle.std.proofs.Common.{◌≡◌, ℕ, ◌+◌, ◌-◌, ◌%◌, ◌<◌, ◌≤◌, ◌==◌, Bool, cond, List, [], ◌∷◌, ◌++◌, length, take, drop, true, false, refl, sym, ◌∙◌, ap, arith, inl, inr, subst}
use Rattle.std.specs.Prelude.{sum, slice_index}
use Rattle.std.proofs.lemmas.List.{take_all, take_at, length-take-le, take-append-drop}
use Rattle.std.proofs.lemmas.Bool.Decides.{nat_tests}
use Rattle.acpi_base.specs.Bytes.{le, carried, put, complement, field_at, AreBytes}
use Rattle.acpi_base.specs.Table.{IsTrueTable}
use Rattle.acpi_base.proofs.Bytes.{le_carried, bytes_take, bytes_drop}
use Rattle.acpi_base.proofs.Puts.{parts, put_in, put-put, put-append, sum-put, length-mid, length-put}
use Rattle.acpi_forms.specs.Kind.{kind_of}
use Rattle.acpitool_program.specs.Laws.{SoundStay}
use Rattle.acpitool_program.specs.Text.{IsKind}
use Rattle.acpitool_program.specs.Repair.{seals_as, with_length, with_sum, set_seals, is_short_pointer}
use Rattle.acpitool_program.specs.Check.{IsPointer, IsControl, IsCoherent, IsPerformance}
use Rattle.acpi_make.specs.declared.file_kind.FileKind.{FileKind}
use Rattle.acpi_make.specs.declared.file_kind.FileKind.TheVariants.{Rsdp, Facs, Cdat, S3pt, Table}
use Rattle.acpitool_program.specs.declared.repair.Seal.{Seal}
use Rattle.acpitool_program.specs.declared.repair.Seal.TheVariants.{Length, Checksum, FrontChecksum}

-- bytes that are written over themselves
own : (at n : ℕ) (x : List ℕ) → at + n ≤ length x → put at (take n (drop at x)) x ≡ x
own at n x h =
    let m = take n (drop at x) in
    ap (put at m) (parts at n x)
    ∙ put_in (take at x) m (drop n (drop at x)) m at (length-take-le at x (omega arith)) refl
    ∙ sym (parts at n x)

length_stays : (at : ℕ) (x : List ℕ) → AreBytes x → at + 4 ≤ length x → field_at at 4 x ≡ length x → with_length at x ≡ x
length_stays at x bytes h told =
    let m = take 4 (drop at x) in
    let four : length m ≡ 4 = length-mid at 4 x h in
    let same : le 4 (length x) ≡ m =
    ap (le 4) (sym told) ∙ ap (λ n. le n (carried m)) (sym four) ∙ le_carried m (bytes_take 4 (drop at x) (bytes_drop at x bytes)) in
    ap (λ l. put at l x) same ∙ own at 4 x h

only : (m : List ℕ) → length m ≡ 1 → m ≡ slice_index m 0 ∷ []
only (b ∷ []) h = refl
only (b ∷ d ∷ m) h = absurd (omega arith)
only m h = absurd (omega arith)

first_is_byte : (m : List ℕ) → AreBytes m → length m ≡ 1 → slice_index m 0 < 256
first_is_byte (b ∷ m) bytes h = bytes.0
first_is_byte m bytes h = absurd (omega arith)

-- a byte that makes the first bytes sum to zero is the one that is there
sum_stays_in : (at : ℕ) (t : List ℕ) → AreBytes t → at + 1 ≤ length t → sum t % 256 ≡ 0
    → put at (complement (sum (put at (0 ∷ []) t)) ∷ []) (put at (0 ∷ []) t) ≡ t
sum_stays_in at t bytes h zero =
    let m = take 1 (drop at t) in
    let one : length m ≡ 1 = length-mid at 1 t h in
    let o = slice_index m 0 in
    let is : m ≡ o ∷ [] = only m one in
    let small : o < 256 = first_is_byte m (bytes_take 1 (drop at t) (bytes_drop at t bytes)) one in
    let total : sum (put at (0 ∷ []) t) + sum m ≡ sum t + sum (0 ∷ []) = sum-put at (0 ∷ []) t h in
    let right : complement (sum (put at (0 ∷ []) t)) ≡ o = omega (arith, total, ap sum is, zero, small) in
    put-put at (complement (sum (put at (0 ∷ []) t)) ∷ []) (0 ∷ []) t refl h
    ∙ ap (λ b. put at (b ∷ []) t) right
    ∙ ap (λ l. put at l t) (sym is)
    ∙ own at 1 t h

sum_stays : (at count : ℕ) (x : List ℕ) → AreBytes x → at + 1 ≤ count → count ≤ length x → sum (take count x) % 256 ≡ 0
    → with_sum at count x ≡ x
sum_stays at count x bytes h k zero =
    let t = take count x in
    let d = drop count x in
    let len : length t ≡ count = length-take-le count x k in
    let clear : put at (0 ∷ []) x ≡ put at (0 ∷ []) t ++ d =
    ap (put at (0 ∷ [])) (sym (take-append-drop count x)) ∙ put-append at (0 ∷ []) t d (omega (arith, len)) in
    let short : length (put at (0 ∷ []) t) ≡ count = length-put at (0 ∷ []) t (omega (arith, len)) ∙ len in
    let front : take count (put at (0 ∷ []) x) ≡ put at (0 ∷ []) t = ap (take count) clear ∙ take_at (put at (0 ∷ []) t) d count short in
    ap (λ l. put at (complement (sum l) ∷ []) (put at (0 ∷ []) x)) front
    ∙ ap (put at (complement (sum (put at (0 ∷ []) t)) ∷ [])) clear
    ∙ put-append at (complement (sum (put at (0 ∷ []) t)) ∷ []) (put at (0 ∷ []) t) d (omega (arith, short))
    ∙ ap (λ l. l ++ d) (sum_stays_in at t (bytes_take count x bytes) (omega (arith, len)) zero)
    ∙ take-append-drop count x

all_stay : (at : ℕ) (x : List ℕ) → AreBytes x → at + 1 ≤ length x → sum x % 256 ≡ 0 → with_sum at (length x) x ≡ x
all_stay at x bytes h zero =
    sum_stays at (length x) x bytes h (omega arith) (ap (λ l. sum l % 256) (take_all (length x) x (omega arith)) ∙ zero)

-- a length and a checksum
both_stay : (l s : ℕ) (x : List ℕ) → AreBytes x → l + 4 ≤ length x → s + 1 ≤ length x → field_at l 4 x ≡ length x → sum x % 256 ≡ 0
    → set_seals (Length l ∷ Checksum s ∷ []) x ≡ x
both_stay l s x bytes h k told zero =
    ap (λ y. with_sum s (length y) y) (length_stays l x bytes h told) ∙ all_stay s x bytes k zero

pointer_stays : (b : Bool) (x : List ℕ) → is_short_pointer x ≡ b → AreBytes x → IsPointer x
    → set_seals (cond b (FrontChecksum 8 ∷ []) (Length 20 ∷ FrontChecksum 8 ∷ Checksum 32 ∷ [])) x ≡ x
pointer_stays true x is bytes pointer = sum_stays 8 20 x bytes (omega arith) pointer.some pointer.front
pointer_stays false x is bytes pointer = elim pointer.rest [
  | inl short ↦
      let twenty = short.1 in
      let old = short.0 in
      absurd (grind (arith, nat_tests, is, twenty, old))
  | inr long ↦
      ap (λ y. with_sum 32 (length (with_sum 8 20 y)) (with_sum 8 20 y)) (length_stays 20 x bytes (let some = long.0 in omega (arith, some)) long.1)
      ∙ ap (λ y. with_sum 32 (length y) y) (sum_stays 8 20 x bytes (omega arith) pointer.some pointer.front)
      ∙ all_stay 32 x bytes (let some = long.0 in omega (arith, some)) long.2
]

kind_stays : (kind : FileKind) (x : List ℕ) → AreBytes x → IsKind kind x → set_seals (seals_as kind x) x ≡ x
kind_stays Table x bytes is = let some = is.header in both_stay 4 9 x bytes (omega (arith, some)) (omega (arith, some)) is.tells is.zero
kind_stays Rsdp x bytes is = pointer_stays (is_short_pointer x) x refl bytes is
kind_stays Facs x bytes is = let some = is.some in length_stays 4 x bytes (omega (arith, some)) is.whole
kind_stays S3pt x bytes is = let some = is.some in length_stays 4 x bytes (omega (arith, some)) is.whole
kind_stays Cdat x bytes is = let some = is.some in both_stay 0 5 x bytes (omega (arith, some)) (omega (arith, some)) is.whole is.sums

pub sound_stay : SoundStay
sound_stay bytes are is = kind_stays (kind_of bytes) bytes are is
