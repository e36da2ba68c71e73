-- Spaces, and bytes that print.
use Rattle.std.proofs.Common.{◌≡◌, ℕ, zero, suc, ◌+◌, ◌-◌, ◌<◌, ◌≤◌, true, List, [], ◌∷◌, ◌++◌, length, get_or, drop}
use Rattle.std.proofs.Common.{sym, ap, ◌∙◌, append_assoc, arith, add-one, drop-cons, length-append}
use Rattle.std.specs.List.{All}
use Rattle.std.specs.Str.{IsAscii}
use Rattle.std.proofs.lemmas.List.Elements.{All-cons, All-nil}
use Rattle.std.proofs.lemmas.Str.Ascii.{IsAscii-from_all, IsAscii-push}
use Rattle.std.proofs.lemmas.Bool.{and_parts}
use Rattle.std.proofs.lemmas.Bool.Decides.{nat_tests}
use Rattle.acpi_text.specs.Label.{prints, all_print}
use Rattle.acpi_text.specs.Line.{spaces, padded}

pub spaces-append : (m n : ℕ) → spaces (m + n) ≡ spaces m ++ spaces n
spaces-append zero n = ap spaces (let e : 0 + n ≡ n = omega arith in e)
spaces-append (suc m) n = ap spaces (let e : suc m + n ≡ suc (m + n) = omega arith in e) ∙ ap (λ (l : List ℕ). 32 ∷ l) (spaces-append m n)

-- two of them were added
pub level_added : (n : ℕ) (now new : List ℕ) → new ≡ now ++ spaces 2 → new ++ spaces n ≡ now ++ spaces (n + 2)
level_added n now new added =
    ap (λ (l : List ℕ). l ++ spaces n) added ∙ append_assoc now (spaces 2) (spaces n)
    ∙ ap (λ (l : List ℕ). now ++ l) (sym (ap spaces (let e : n + 2 ≡ 2 + n = omega arith in e) ∙ spaces-append 2 n))

pub spaces_drop : (k n : ℕ) (rest : List ℕ) → k ≤ n → drop k (spaces n ++ rest) ≡ spaces (n - k) ++ rest
spaces_drop zero n rest few = ap (λ m. spaces m ++ rest) (let e : n ≡ n - 0 = omega arith in e)
spaces_drop (suc k) zero rest few = absurd (omega arith)
spaces_drop (suc k) (suc n) rest few =
    spaces_drop k n rest (omega arith) ∙ ap (λ m. spaces m ++ rest) (let e : n - k ≡ suc n - suc k = omega arith in e)

all_ascii : (n : ℕ) → All (λ b. b < 128) (spaces n)
all_ascii zero = All-nil (λ b. b < 128)
all_ascii (suc n) = All-cons (λ b. b < 128) 32 (spaces n) (omega arith) (all_ascii n)

-- the last spaces before a column were added to a text, and a colon
pub column_reached : (text old now new rest : List ℕ) (a b k left : ℕ) → a ≡ length old → b ≡ length now → now ≡ old ++ text → left ≡ 40 - (b - a) → k ≡ 40 - left
    → rest ≡ drop k (spaces 40 ++ 58 ∷ []) → new ≡ now ++ rest → new ≡ old ++ (padded 40 text ++ 58 ∷ [])
column_reached text old now new rest a b k left one two before room from is added =
    let blank = spaces (40 - length text) in
    let back : rest ≡ blank ++ 58 ∷ [] =
    is ∙ spaces_drop k 40 (58 ∷ []) (omega (arith, from)) ∙ ap (λ n. spaces n ++ 58 ∷ []) (let e : 40 - k ≡ 40 - length text = omega (arith, one, two, room, from, ap length before ∙ length-append old text) in e) in
    added
    ∙ ap (λ (l : List ℕ). l ++ rest) before
    ∙ append_assoc old text rest
    ∙ ap (λ (l : List ℕ). old ++ (text ++ l)) back
    ∙ ap (λ (l : List ℕ). old ++ l) (sym (append_assoc text blank (58 ∷ [])))

-- the spaces before a column, and a colon
pub column_ascii : (n : ℕ) → IsAscii (spaces n ++ 58 ∷ [])
column_ascii n = IsAscii-push (spaces n) 58 (IsAscii-from_all (spaces n) (all_ascii n)) (omega arith)

-- a byte was added as it is
pub byte_goes_on : (bytes : List ℕ) (i : ℕ) (old now new : List ℕ) → i < length bytes → now ++ drop i bytes ≡ old
    → new ≡ now ++ get_or bytes i 0 ∷ [] → new ++ drop (i + 1) bytes ≡ old
byte_goes_on bytes i old now new inside before added =
    let rest = drop (i + 1) bytes in
    ap (λ (l : List ℕ). l ++ rest) added ∙ append_assoc now (get_or bytes i 0 ∷ []) rest
    ∙ ap (λ (l : List ℕ). now ++ l) (sym (drop-cons bytes i 0 inside ∙ ap (λ n. get_or bytes i 0 ∷ drop n bytes) (sym (add-one i)))) ∙ before

-- where all bytes print, each is a character of one byte
pub printed_at : (bytes : List ℕ) (i : ℕ) → i < length bytes → all_print bytes ≡ true → get_or bytes i 0 < 128
printed_at [] i inside are = absurd (omega arith)
printed_at (b ∷ bytes) zero inside are =
    let is : prints b ≡ true = (and_parts (prints b) (all_print bytes) are).0 in
    grind (arith, nat_tests)
printed_at (b ∷ bytes) (suc i) inside are = printed_at bytes i (omega arith) (and_parts (prints b) (all_print bytes) are).1
