-- Numbers that grow digit by digit.
use Rattle.std.proofs.Common.{◌≡◌, ℕ, ◌+◌, ◌*◌, ◌≤◌, ◌<◌, List, [], ◌∷◌, length, take, drop, true, Some, ap, get_or, sym, ◌∙◌, arith}
use Rattle.std.proofs.lemmas.List.{at_drop_more, at_drop_all, get_or-take, length-take}
use Rattle.std.proofs.lemmas.List.Folds.{length-prefix_len}
use Rattle.std.proofs.lemmas.List.Sums.{prefix_len_passes}
use Rattle.std.specs.Char.{digit_value, is_ascii_hexdigit}
use Rattle.std.specs.List.{prefix_len, take_while}
use Rattle.std.specs.Str.Parse.{digits_value_after}
use Rattle.std.proofs.lemmas.Bool.Decides.{nat_tests}
use Rattle.acpi_base.specs.Digit as base

-- a digit has one value
pub one_value : (c : ℕ) → digit_value c < 16 → base.digit_value c ≡ Some (digit_value c)
one_value c small = grind (arith, nat_tests, small)

-- further digits make a number no smaller
pub grows : (n : ℕ) (digits : List ℕ) → n ≤ digits_value_after 16 n digits
grows n [] = omega arith
grows n (c ∷ digits) = let more = grows (n * 16 + digit_value c) digits in omega (arith, more)

-- a number that is too large before a digit is too large at the end
pub too_large : (n : ℕ) (digits : List ℕ) (i all most : ℕ) → i < length digits → digits_value_after 16 n (drop i digits) ≡ all
    → most ≤ n * 16 + digit_value (get_or digits i 0) → most ≤ all
too_large n digits i all most inside is past =
    let next = n * 16 + digit_value (get_or digits i 0) in
    let here : digits_value_after 16 n (drop i digits) ≡ digits_value_after 16 next (drop (i + 1) digits)
    = at_drop_more (digits_value_after 16 n) digits i 0 inside in
    let more = grows next (drop (i + 1) digits) in
    omega (arith, here, more, is)

pub at_end : (n : ℕ) (digits : List ℕ) (i all : ℕ) → length digits ≤ i → digits_value_after 16 n (drop i digits) ≡ all → n ≡ all
at_end n digits i all past is = sym (at_drop_all (digits_value_after 16 n) digits i past) ∙ is

-- as many bytes of a text as there are digits at its front are digits
pub all_digits : (text : List ℕ) (n k d : ℕ) → n ≡ length (take_while is_ascii_hexdigit text) → k < length (take n text)
    → is_ascii_hexdigit (get_or (take n text) k d) ≡ true
all_digits text n k d size inside =
    let all : n ≡ prefix_len is_ascii_hexdigit text = size ∙ length-prefix_len is_ascii_hexdigit text in
    let below : k < n = omega (arith, length-take n text) in
    ap is_ascii_hexdigit (get_or-take n text k d below) ∙ prefix_len_passes is_ascii_hexdigit text k d (omega arith)
