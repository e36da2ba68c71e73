-- What is read from hexadecimal digits is bytes.
use Rattle.std.proofs.Common.{◌≡◌, ℕ, ◌+◌, ◌-◌, ◌*◌, ◌<◌, List, [], ◌∷◌, ◌++◌, reverse, Bool, true, false, cond, Some, None, refl, sym, subst, arith}
use Rattle.std.specs.Prelude.{Option, IsTrue, nat_le, ◌&&◌, slice_range}
use Rattle.std.proofs.lemmas.List.{reverse-append}
use Rattle.std.proofs.lemmas.Bool.Decides.{nat_tests}
use Rattle.acpi_base.specs.Bytes.{AreBytes}
use Rattle.acpi_base.proofs.Bytes.{bytes_both}
use Rattle.acpi_base.specs.Digit.{digit_value}
use Rattle.acpi_aml.specs.Hex.{paired, byte_of_digits, led, bytes_of_digits}
use Rattle.acpi_aml.specs.Uuid.{is_grouped, grouped, uuid_bytes}

tested : (s t u : Bool) (x y z v : ℕ) → (IsTrue s → x < 16) → (IsTrue t → y < 16) → (IsTrue u → z < 16)
    → cond s (Some x) (cond t (Some y) (cond u (Some z) None)) ≡ Some v → v < 16
tested true t u x y z v a b c h = let e : x ≡ v = cc in omega (arith, a refl, e)
tested false true u x y z v a b c h = let e : y ≡ v = cc in omega (arith, b refl, e)
tested false false true x y z v a b c h = let e : z ≡ v = cc in omega (arith, c refl, e)
tested false false false x y z v a b c h = absurd cc

decimal : (b : ℕ) → IsTrue (nat_le 48 b && nat_le b 57) → b - 48 < 16
decimal b h = grind (arith, nat_tests)

upper : (b : ℕ) → IsTrue (nat_le 65 b && nat_le b 70) → b - 65 + 10 < 16
upper b h = grind (arith, nat_tests)

lower : (b : ℕ) → IsTrue (nat_le 97 b && nat_le b 102) → b - 97 + 10 < 16
lower b h = grind (arith, nat_tests)

digit_small : (b v : ℕ) → digit_value b ≡ Some v → v < 16
digit_small b v h = tested (nat_le 48 b && nat_le b 57) (nat_le 65 b && nat_le b 70) (nat_le 97 b && nat_le b 102) (b - 48) (b - 65 + 10) (b - 97 + 10) v (decimal b) (upper b) (lower b) h

paired_small : (o p : Option ℕ) (v : ℕ) → ((d : ℕ) → o ≡ Some d → d < 16) → ((d : ℕ) → p ≡ Some d → d < 16) → paired o p ≡ Some v → v < 256
paired_small (Some d) (Some e) v a b h = let k : 16 * d + e ≡ v = cc in omega (arith, a d refl, b e refl, k)
paired_small (Some d) None v a b h = absurd cc
paired_small None p v a b h = absurd cc

byte_small : (high low v : ℕ) → byte_of_digits high low ≡ Some v → v < 256
byte_small high low v = paired_small (digit_value high) (digit_value low) v (digit_small high) (digit_small low)

led_bytes : (o : Option ℕ) (p : Option (List ℕ)) (bytes : List ℕ) → ((v : ℕ) → o ≡ Some v → v < 256) → ((l : List ℕ) → p ≡ Some l → AreBytes l) → led o p ≡ Some bytes → AreBytes bytes
led_bytes (Some b) (Some l) bytes first rest h = let e : b ∷ l ≡ bytes = cc in subst AreBytes e (first b refl, rest l refl)
led_bytes (Some b) None bytes first rest h = absurd cc
led_bytes None p bytes first rest h = absurd cc

pub digits_are_bytes : (text bytes : List ℕ) → bytes_of_digits text ≡ Some bytes → AreBytes bytes
digits_are_bytes [] bytes h = let e : [] ≡ bytes = cc in subst AreBytes e tt
digits_are_bytes (odd ∷ []) bytes h = absurd cc
digits_are_bytes (high ∷ low ∷ more) bytes h = led_bytes (byte_of_digits high low) (bytes_of_digits more) bytes (byte_small high low) (digits_are_bytes more) h

turned : (a : List ℕ) → AreBytes a → AreBytes (reverse a)
turned [] is = tt
turned (x ∷ a) is = subst AreBytes (sym (reverse-append (x ∷ []) a)) (bytes_both (reverse a) (x ∷ []) (turned a is.1) (is.0, tt))

grouped_bytes : (a b c d e : Option (List ℕ)) (u : List ℕ) → ((l : List ℕ) → a ≡ Some l → AreBytes l) → ((l : List ℕ) → b ≡ Some l → AreBytes l) → ((l : List ℕ) → c ≡ Some l → AreBytes l)
    → ((l : List ℕ) → d ≡ Some l → AreBytes l) → ((l : List ℕ) → e ≡ Some l → AreBytes l) → grouped a b c d e ≡ Some u → AreBytes u
grouped_bytes (Some a) (Some b) (Some c) (Some d) (Some e) u p q r s t h =
    let k : reverse a ++ (reverse b ++ (reverse c ++ (d ++ e))) ≡ u = cc in
    subst AreBytes k
    (bytes_both (reverse a) _ (turned a (p a refl)) (bytes_both (reverse b) _ (turned b (q b refl)) (bytes_both (reverse c) _ (turned c (r c refl)) (bytes_both d e (s d refl) (t e refl)))))
grouped_bytes None b c d e u p q r s t h = absurd cc
grouped_bytes (Some a) None c d e u p q r s t h = absurd cc
grouped_bytes (Some a) (Some b) None d e u p q r s t h = absurd cc
grouped_bytes (Some a) (Some b) (Some c) None e u p q r s t h = absurd cc
grouped_bytes (Some a) (Some b) (Some c) (Some d) None u p q r s t h = absurd cc

passed : (test : Bool) (o : Option (List ℕ)) (u : List ℕ) → cond test o None ≡ Some u → o ≡ Some u
passed true o u h = h
passed false o u h = absurd cc

pub uuid_are_bytes : (text u : List ℕ) → uuid_bytes text ≡ Some u → AreBytes u
uuid_are_bytes text u h =
    grouped_bytes (bytes_of_digits (slice_range text 0 8)) (bytes_of_digits (slice_range text 9 13)) (bytes_of_digits (slice_range text 14 18)) (bytes_of_digits (slice_range text 19 23)) (bytes_of_digits (slice_range text 24 36)) u
    (digits_are_bytes (slice_range text 0 8)) (digits_are_bytes (slice_range text 9 13)) (digits_are_bytes (slice_range text 14 18)) (digits_are_bytes (slice_range text 19 23)) (digits_are_bytes (slice_range text 24 36))
    (passed (is_grouped text) _ u h)
