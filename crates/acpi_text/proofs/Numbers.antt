-- Numbers in hexadecimal, one after another.
use Rattle.std.proofs.Common.{◌≡◌, ℕ, zero, suc, ◌+◌, ◌-◌, ◌*◌, ◌^◌, ◌<◌, ◌≤◌, List, [], ◌∷◌, ◌++◌, length, get_or, take, drop}
use Rattle.std.proofs.Common.{sym, ap, ◌∙◌, append_assoc, arith, add-one, drop-cons}
use Rattle.std.proofs.lemmas.List.{take_more, append-nil, length-drop}
use Rattle.std.proofs.Math.Nat.{pow-le-pow_right}
use Rattle.acpi_base.specs.Bytes.{AreBytes, carried}
use Rattle.acpi_base.proofs.Bytes.{carried_below, bytes_drop}
use Rattle.acpi_base.specs.Digit.{hex_byte}
use Rattle.acpi_text.specs.Hex.{number_text, numbers_text}

pub number_text-append : (a b : List ℕ) → number_text (a ++ b) ≡ number_text b ++ number_text a
number_text-append [] b = sym (append-nil (number_text b))
number_text-append (x ∷ a) b =
    ap (λ (l : List ℕ). l ++ hex_byte x) (number_text-append a b) ∙ append_assoc (number_text b) (number_text a) (hex_byte x)

-- the last byte that is left was written
pub digits_go_on : (bytes : List ℕ) (left less : ℕ) (old now new : List ℕ) → less < length bytes → left ≡ less + 1
    → now ++ number_text (take left bytes) ≡ old → new ≡ now ++ hex_byte (get_or bytes less 0)
    → new ++ number_text (take less bytes) ≡ old
digits_go_on bytes left less old now new inside next before added =
    let b = get_or bytes less 0 in
    let front = number_text (take less bytes) in
    let more : number_text (take left bytes) ≡ hex_byte b ++ front =
    ap (λ n. number_text (take n bytes)) next ∙ ap number_text (take_more bytes less 0 inside) ∙ number_text-append (take less bytes) (b ∷ []) in
    ap (λ (l : List ℕ). l ++ front) added ∙ append_assoc now (hex_byte b) front ∙ ap (λ (l : List ℕ). now ++ l) (sym more) ∙ before

-- ---- numbers of one width

-- where there is one more number, the bytes reach its end
pub one_fits : (w left less size : ℕ) → left ≡ less + 1 → size ≡ w * left → (w ≤ size) × (size - w ≡ w * less)
one_fits w left less size next is =
    let all : size ≡ w + w * less = is ∙ ap (λ n. w * n) next ∙ grind arith in
    (omega arith, omega arith)

-- the next number was written
pub numbers_go_on : (w left less : ℕ) (rest number more old now new : List ℕ) → left ≡ less + 1 → number ≡ take w rest → more ≡ drop w rest
    → now ++ numbers_text w left rest ≡ old → new ≡ now ++ 32 ∷ number_text number
    → new ++ numbers_text w less more ≡ old
numbers_go_on w left less rest number more old now new next front back before added =
    let others = numbers_text w less (drop w rest) in
    let one = 32 ∷ number_text (take w rest) in
    let whole : numbers_text w left rest ≡ one ++ others = ap (λ n. numbers_text w n rest) (let e : left ≡ suc less = omega arith in e) in
    ap (λ (l : List ℕ). new ++ numbers_text w less l) back
    ∙ ap (λ (l : List ℕ). l ++ others) (added ∙ ap (λ (l : List ℕ). now ++ 32 ∷ number_text l) front)
    ∙ append_assoc now one others
    ∙ ap (λ (l : List ℕ). now ++ l) (sym whole)
    ∙ before

-- ---- what a number is

pub narrow_carried : (bytes : List ℕ) → AreBytes bytes → length bytes ≤ 8 → carried bytes < 2 ^ 64
narrow_carried bytes are narrow =
    let bound : 256 ^ length bytes ≤ 256 ^ 8 = pow-le-pow_right (let e : zero < 256 = omega arith in e) narrow in
    omega (arith, carried_below bytes are, bound)

carried_step : (bytes : List ℕ) (i : ℕ) → i < length bytes
    → carried (drop i bytes) ≡ get_or bytes i 0 + 256 * carried (drop (i + 1) bytes)
carried_step bytes i inside = ap carried (drop-cons bytes i 0 inside) ∙ ap (λ n. get_or bytes i 0 + 256 * carried (drop n bytes)) (sym (add-one i))

-- one more byte makes a number of at most eight
pub carried_fits : (bytes : List ℕ) (left less number : ℕ) → AreBytes bytes → length bytes ≤ 8 → less < length bytes → left ≡ less + 1
    → number ≡ carried (drop left bytes)
    → (number * 256 + get_or bytes less 0 ≡ carried (drop less bytes)) × (number * 256 + get_or bytes less 0 < 2 ^ 64)
carried_fits bytes left less number are narrow inside next is =
    let step = carried_step bytes less inside in
    let same : number ≡ carried (drop (less + 1) bytes) = is ∙ ap (λ n. carried (drop n bytes)) next in
    let small = narrow_carried (drop less bytes) (bytes_drop less bytes are) (omega (arith, length-drop less bytes)) in
    let whole : number * 256 + get_or bytes less 0 ≡ carried (drop less bytes) = omega (arith, step, same) in
    (whole, omega (arith, whole, small))
