-- Numbers and zeros over bytes leave their number as it is.
use Rattle.std.proofs.Common.{◌≡◌, ℕ, ◌+◌, ◌≤◌, Bool, true, false, cond, List, length, take, drop, refl, ◌∙◌, arith}
use Rattle.std.specs.Prelude.{nat_lt, nat_le, ◌&&◌}
use Rattle.std.proofs.lemmas.Bool.Decides.{nat_tests}
use Rattle.std.proofs.lemmas.List.{length-replicate}
use Rattle.acpi_base.specs.Bytes.{le, put, zeros}
use Rattle.acpi_base.specs.Walk.{place_offset, place_width, end_of}
use Rattle.acpi_base.specs.declared.walk.Place.{Place}
use Rattle.acpi_base.specs.declared.walk.Walk.{Walk}
use Rattle.acpi_base.proofs.Bytes.{length_le}
use Rattle.acpi_base.proofs.Puts.{length-put, length-mid}
use Rattle.acpi_c_calls.specs.Add.{told_place, fresh}
use Rattle.acpi_c_calls.specs.Over.{placed}

if_same : (b : Bool) (x y : List ℕ) → (b ≡ true → length x ≡ length y) → length (cond b x y) ≡ length y
if_same true x y same = same refl
if_same false x y same = refl

within : (w e n : ℕ) → (nat_lt 0 w && nat_le e n) ≡ true → e ≤ n
within w e n is = grind (arith, nat_tests, is)

pub length_placed : (place : Place) (n : ℕ) (bytes : List ℕ) → length (placed place n bytes) ≡ length bytes
length_placed place n bytes =
    if_same (nat_lt 0 (place_width place) && nat_le (end_of place) (length bytes))
    (put (place_offset place) (le (place_width place) n) bytes) bytes
    (λ is. length-put (place_offset place) (le (place_width place) n) bytes
    (omega (arith, within (place_width place) (end_of place) (length bytes) is, length_le (place_width place) n)))

pub length_zeros : (n : ℕ) → length (zeros n) ≡ n
length_zeros n = length-replicate n 0

pub length_fresh : (walk : Walk) (kind size : ℕ) → length (fresh walk kind size) ≡ size
length_fresh walk kind size =
    length_placed (told_place walk.sizes) size (placed walk.kind kind (zeros size))
    ∙ length_placed walk.kind kind (zeros size) ∙ length_zeros size

pub length_span : (from n : ℕ) (bytes : List ℕ) → from + n ≤ length bytes → length (take n (drop from bytes)) ≡ n
length_span from n bytes fits = length-mid from n bytes fits
