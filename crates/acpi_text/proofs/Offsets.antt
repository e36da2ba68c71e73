-- Offsets in decimal, by two digits.
use Rattle.std.proofs.Common.{◌≡◌, ℕ, zero, suc, ◌+◌, ◌*◌, ◌/◌, ◌%◌, ◌^◌, ◌<◌, ◌≤◌, ◌&&◌, ◌==◌, Bool, true, List, [], ◌∷◌, ◌++◌, get_or}
use Rattle.std.proofs.Common.{refl, sym, ap, ◌∙◌, append_assoc, subst, arith, inl, inr}
use Rattle.std.specs.Fmt.{decimal}
use Rattle.std.specs.Str.{IsUtf8}
use Rattle.std.proofs.lemmas.Str.{IsUtf8-from_ascii}
use Rattle.std.proofs.lemmas.Str.Ascii.{IsAscii-cons, IsAscii-push}
use Rattle.std.proofs.lemmas.Fmt.{decimal_digit, IsAscii-decimal}
use Rattle.std.proofs.lemmas.Bool.{and_parts, eqb-true, cases_lt}
use Rattle.itoa.proofs.Decimal.{decimal_two, decimal_pair, decimal_four}
use Rattle.acpi_text.specs.Line.{spaces}
use Rattle.acpi_text.specs.Offset.{before_name}
use Rattle.acpi_text.specs.declared.offset.TheConstants.{PAIRS}
use Rattle.acpi_text.proofs.Spaces.{spaces-append}

-- the digits of the numbers below n stand in the table
abbrev are_pairs : ℕ → Bool
are_pairs zero = true
are_pairs (suc n) = ((get_or PAIRS.now (2 * n) 0 == 48 + n / 10) && (get_or PAIRS.now (2 * n + 1) 0 == 48 + n % 10)) && are_pairs n

-- the two digits of a number at their places
abbrev pub ArePairAt : ℕ → Type 0
ArePairAt n = (get_or PAIRS.now (2 * n) 0 ≡ 48 + n / 10) × (get_or PAIRS.now (2 * n + 1) 0 ≡ 48 + n % 10)

below : (m n : ℕ) → are_pairs m ≡ true → n < m → ArePairAt n
below zero n are less = absurd (omega arith)
below (suc m) n are less =
    let parts = and_parts ((get_or PAIRS.now (2 * m) 0 == 48 + m / 10) && (get_or PAIRS.now (2 * m + 1) 0 == 48 + m % 10)) (are_pairs m) are in
    elim (cases_lt n m) [
      | inl lower ↦ below m n parts.1 lower
      | inr not ↦
          let two = and_parts (get_or PAIRS.now (2 * m) 0 == 48 + m / 10) (get_or PAIRS.now (2 * m + 1) 0 == 48 + m % 10) parts.0 in
          let e : m ≡ n = omega arith in
          subst ArePairAt e (eqb-true _ _ two.0, eqb-true _ _ two.1)
    ]

pub pair_at : (n : ℕ) → n < 100 → ArePairAt n
pair_at n small = below 100 n refl small

pub front_utf8 : (n : ℕ) → n < 2 ^ 64 → IsUtf8 (before_name n)
front_utf8 n small =
    IsUtf8-from_ascii (before_name n)
    (IsAscii-cons 32 (32 ∷ (decimal n ++ 32 ∷ [])) (omega arith)
    (IsAscii-cons 32 (decimal n ++ 32 ∷ []) (omega arith) (IsAscii-push (decimal n) 32 (IsAscii-decimal n small) (omega arith))))

-- ---- by the number of digits

abbrev pub between_spaces : List ℕ → List ℕ
between_spaces digits = 32 ∷ (32 ∷ (digits ++ 32 ∷ []))

abbrev pub two_of : ℕ → List ℕ
two_of n = (48 + n / 10) ∷ (48 + n % 10) ∷ []

abbrev pub last_of : ℕ → List ℕ
last_of n = (48 + n % 10) ∷ []

abbrev pub four_of : ℕ → List ℕ
four_of n = two_of (n / 100) ++ two_of (n % 100)

last_digit : (n : ℕ) → n < 10 → last_of n ≡ decimal n
last_digit n small = ap (λ d. (48 + d) ∷ []) (let e : n % 10 ≡ n = omega arith in e) ∙ sym (decimal_digit n small)

pub one_digit : (n : ℕ) → n < 10 → between_spaces (last_of n) ≡ before_name n
one_digit n small = ap between_spaces (last_digit n small)

pub two_digits : (n : ℕ) → 10 ≤ n → n < 100 → between_spaces (two_of n) ≡ before_name n
two_digits n some small = ap between_spaces (sym (decimal_two n some small))

pub three_digits : (n : ℕ) → 100 ≤ n → n < 1000 → between_spaces (last_of (n / 100) ++ two_of (n % 100)) ≡ before_name n
three_digits n some small =
    ap between_spaces (ap (λ (l : List ℕ). l ++ two_of (n % 100)) (last_digit (n / 100) (omega arith)) ∙ sym (decimal_pair n some (omega arith)))

pub four_digits : (n : ℕ) → 1000 ≤ n → n < 10000 → between_spaces (two_of (n / 100) ++ two_of (n % 100)) ≡ before_name n
four_digits n some small =
    ap between_spaces (ap (λ (l : List ℕ). l ++ two_of (n % 100)) (sym (decimal_two (n / 100) (omega arith) (omega arith)))
    ∙ sym (decimal_pair n (omega arith) (omega arith)))

pub five_digits : (n : ℕ) → 10000 ≤ n → n < 100000 → between_spaces (last_of (n / 10000) ++ four_of (n % 10000)) ≡ before_name n
five_digits n some small =
    ap between_spaces (ap (λ (l : List ℕ). l ++ four_of (n % 10000)) (last_digit (n / 10000) (omega arith)) ∙ sym (decimal_four n some (omega arith)))

pub six_digits : (n : ℕ) → 100000 ≤ n → n < 1000000 → between_spaces (two_of (n / 10000) ++ four_of (n % 10000)) ≡ before_name n
six_digits n some small =
    ap between_spaces (ap (λ (l : List ℕ). l ++ four_of (n % 10000)) (sym (decimal_two (n / 10000) (omega arith) (omega arith)))
    ∙ sym (decimal_four n (omega arith) (omega arith)))

-- ---- in a line

-- the spaces of a level, an offset and a name were added
pub margin_added : (depth offset : ℕ) (name old level front new : List ℕ) → level ≡ old ++ spaces (2 * depth) → front ≡ level ++ before_name offset
    → new ≡ front ++ name → new ≡ old ++ (spaces (2 * depth + 2) ++ (decimal offset ++ 32 ∷ name))
margin_added depth offset name old level front new one two three =
    let blank = spaces (2 * depth) in
    three
    ∙ ap (λ (l : List ℕ). l ++ name) (two ∙ ap (λ (l : List ℕ). l ++ before_name offset) one)
    ∙ append_assoc (old ++ blank) (before_name offset) name
    ∙ append_assoc old blank (before_name offset ++ name)
    ∙ ap (λ (l : List ℕ). old ++ (blank ++ (32 ∷ (32 ∷ l)))) (append_assoc (decimal offset) (32 ∷ []) name)
    ∙ ap (λ (l : List ℕ). old ++ l) (sym (append_assoc blank (spaces 2) (decimal offset ++ 32 ∷ name)))
    ∙ ap (λ (l : List ℕ). old ++ (l ++ (decimal offset ++ 32 ∷ name))) (sym (spaces-append (2 * depth) 2))
