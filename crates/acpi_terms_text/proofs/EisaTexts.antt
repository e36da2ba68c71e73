-- EISA ids that are read as they are shown.
use Rattle.std.proofs.Common.{◌≡◌, ◌≢◌, ℕ, ◌+◌, ◌-◌, ◌*◌, ◌/◌, ◌%◌, ◌^◌, ◌<◌, ◌&&◌, Bool, true, false, if◌then◌else◌, Option, Some, None, List, [], refl, ap, ◌∙◌, arith}
use Rattle.std.specs.Int.{w32, swap_bytes}
use Rattle.std.proofs.lemmas.Bool.{and_parts}
use Rattle.std.proofs.lemmas.Bool.Decides.{nat_tests}
use Rattle.acpi_aml.specs.Hex.{byte_of_digits}
use Rattle.acpi_aml.specs.Eisa.{is_upper, packed, swapped, eisa_value}
use Rattle.acpi_terms_text.specs.Eisa.{is_letter, upper_digit, is_id, id_text}
use Rattle.acpi_terms_text.specs.Laws.{EisaTextsAreRead}
use Rattle.acpi_terms_text.proofs.Pairs.{upper_read}

-- ---- bytes in the opposite order

swap_of : (a b c d : ℕ) → a < 256 → b < 256 → c < 256 → d < 256
    → swap_bytes w32 (a * 16777216 + b * 65536 + c * 256 + d) ≡ d * 16777216 + c * 65536 + b * 256 + a
swap_of a b c d ha hb hc hd =
    let n = a * 16777216 + b * 65536 + c * 256 + d in
    let nd : n % 256 ≡ d = omega arith in
    let nc : n / 256 % 256 ≡ c = omega arith in
    let nb : n / 65536 % 256 ≡ b = omega arith in
    let na : n / 16777216 % 256 ≡ a = omega arith in
    omega (arith, na, nb, nc, nd)

-- the four bytes of a number
of_bytes : (n : ℕ) → n < 2 ^ 32
    → n / 16777216 % 256 * 16777216 + n / 65536 % 256 * 65536 + n / 256 % 256 * 256 + n % 256 ≡ n
of_bytes n small = omega arith

swapped_is : (n : ℕ)
    → swap_bytes w32 n ≡ n % 256 * 16777216 + n / 256 % 256 * 65536 + n / 65536 % 256 * 256 + n / 16777216 % 256
swapped_is n = omega arith

swap_small : (n : ℕ) → swap_bytes w32 n < 2 ^ 32
swap_small n = omega (arith, swapped_is n)

swap_twice : (n : ℕ) → n < 2 ^ 32 → swap_bytes w32 (swap_bytes w32 n) ≡ n
swap_twice n small =
    ap (swap_bytes w32) (swapped_is n)
    ∙ swap_of (n % 256) (n / 256 % 256) (n / 65536 % 256) (n / 16777216 % 256) (omega arith) (omega arith) (omega arith) (omega arith)
    ∙ of_bytes n small

-- ---- ids

letter_is_upper : (x : ℕ) → is_letter x ≡ true → is_upper (64 + x) ≡ true
letter_is_upper x is = grind (arith, nat_tests)

packed_is : (n : ℕ) → n < 2 ^ 32
    → packed (64 + n / 2 ^ 26) (64 + n / 2 ^ 21 % 32) (64 + n / 2 ^ 16 % 32) (n / 2 ^ 8 % 256) (n % 256) ≡ n
packed_is n small =
    let a : 64 + n / 67108864 - 64 ≡ n / 67108864 = omega arith in
    let b : 64 + n / 2097152 % 32 - 64 ≡ n / 2097152 % 32 = omega arith in
    let c : 64 + n / 65536 % 32 - 64 ≡ n / 65536 % 32 = omega arith in
    rw (a, b, c) (omega arith)

read_by : (p q r : Bool) (a b c : ℕ) (d e : Option ℕ) (high low : ℕ) → p ≡ true → q ≡ true → r ≡ true → d ≡ Some high
    → e ≡ Some low → (if p && q && r then swapped a b c d e else None) ≡ Some (swap_bytes w32 (packed a b c high low))
read_by true true true a b c (Some d) (Some e) high low ip iq ir id ie =
    let same_high : d ≡ high = cc in
    let same_low : e ≡ low = cc in
    ap (λ (h : ℕ). Some (swap_bytes w32 (packed a b c h e))) same_high
    ∙ ap (λ (l : ℕ). Some (swap_bytes w32 (packed a b c high l))) same_low
read_by true true true a b c (Some d) None high low ip iq ir id ie = absurd cc
read_by true true true a b c None e high low ip iq ir id ie = absurd cc
read_by true true false a b c d e high low ip iq ir id ie = absurd cc
read_by true false r a b c d e high low ip iq ir id ie = absurd cc
read_by false q r a b c d e high low ip iq ir id ie = absurd cc

id_read : (n : ℕ) → n < 2 ^ 32 → is_id n ≡ true → eisa_value (id_text n) ≡ Some (swap_bytes w32 n)
id_read n small is =
    let x = n / 2 ^ 26 in let y = n / 2 ^ 21 % 32 in let z = n / 2 ^ 16 % 32 in
    let two = and_parts (is_letter x && is_letter y) (is_letter z) is in
    let one = and_parts (is_letter x) (is_letter y) two.0 in
    let high = n / 2 ^ 8 % 256 in let low = n % 256 in
    read_by (is_upper (64 + x)) (is_upper (64 + y)) (is_upper (64 + z)) (64 + x) (64 + y) (64 + z)
    (byte_of_digits (upper_digit (high / 16)) (upper_digit (high % 16))) (byte_of_digits (upper_digit (low / 16)) (upper_digit (low % 16))) high low
    (letter_is_upper x one.0) (letter_is_upper y one.1) (letter_is_upper z two.1)
    (upper_read high (omega arith)) (upper_read low (omega arith))
    ∙ ap (λ (m : ℕ). Some (swap_bytes w32 m)) (packed_is n small)

by_test : (b : Bool) (text : List ℕ) (value : ℕ) → (b ≡ true → eisa_value text ≡ Some value) → (if b then text else []) ≢ []
    → eisa_value (if b then text else []) ≡ Some value
by_test true text value read shown = read refl
by_test false text value read shown = absurd (shown refl)

pub eisa_read : EisaTextsAreRead
eisa_read value small =
    let n = swap_bytes w32 value in
    by_test (is_id n) (id_text n) value (λ (is : is_id n ≡ true). id_read n (swap_small value) is ∙ ap Some (swap_twice value small))
