-- The bytes that lines have.
use Rattle.std.proofs.Common.{◌≡◌, ℕ, zero, suc, ◌+◌, ◌*◌, ◌/◌, ◌%◌, ◌<◌, ◌==◌, false}
use Rattle.std.proofs.Common.{List, [], ◌∷◌, ◌++◌, length, take, drop, refl, sym, ap, ◌∙◌, append_assoc, arith}
use Rattle.std.proofs.lemmas.Bool.Decides.{nat_tests}
use Rattle.std.proofs.lemmas.List.{append-nil, length-drop, take-append-drop}
use Rattle.acpi_base.proofs.Bytes.{bytes_take, bytes_drop}
use Rattle.acpi_text.proofs.Numbers.{one_fits}
use Rattle.acpi_text.proofs.Printed.{Quiet, ends_no_line}
use Rattle.acpi_base.specs.Bytes.{AreBytes}
use Rattle.acpi_base.specs.Digit.{hex_digit, hex_byte}
use Rattle.acpi_text.specs.Hex.{number_text, numbers_text}
use Rattle.acpi_text.specs.Names.{OneLine}
use Rattle.acpi_text.specs.Reading.{in_name, in_comment, in_number, lower_digit, read}

-- ---- digits

pub record IsDigit (c n : ℕ) : Type 0 where
  pub space : (c == 32) ≡ false
  pub end : (c == 10) ≡ false
  pub slash : (c == 47) ≡ false
  pub value : lower_digit c ≡ n

pub digit_read : (n : ℕ) → n < 16 → IsDigit (hex_digit n) n
digit_read n small = record {
  space = grind (arith, nat_tests);
  end = grind (arith, nat_tests);
  slash = grind (arith, nat_tests);
  value = grind (arith, nat_tests);
}

byte_read : (b : ℕ) (number text : List ℕ) → b < 256
    → read (in_number number) (hex_byte b ++ text) ≡ read (in_number (b ∷ number)) text
byte_read b number text small =
    let high = digit_read (b / 16) (omega arith) in
    let low = digit_read (b % 16) (omega arith) in
    let whole : 16 * lower_digit (hex_digit (b / 16)) + lower_digit (hex_digit (b % 16)) ≡ b = ap (λ n. 16 * n + lower_digit (hex_digit (b % 16))) high.value ∙ ap (λ n. 16 * (b / 16) + n) low.value ∙ omega arith in
    rw (high.space, high.end, high.slash) (ap (λ n. read (in_number (n ∷ number)) text) whole)

-- ---- numbers

number_read : (field number text : List ℕ) → AreBytes field
    → read (in_number number) (number_text field ++ text) ≡ read (in_number (field ++ number)) text
number_read [] number text are = refl
number_read (b ∷ field) number text are =
    ap (read (in_number number)) (append_assoc (number_text field) (hex_byte b) text)
    ∙ number_read field number (hex_byte b ++ text) are.1
    ∙ byte_read b (field ++ number) text are.0

-- What follows a number ends it, and has these bytes itself.
abbrev pub Ends : List ℕ → List ℕ → Type 0
Ends text bytes = (number : List ℕ) → read (in_number number) text ≡ number ++ bytes

pub numbers_read : (w n : ℕ) (field text bytes : List ℕ) → AreBytes field → length field ≡ w * n → Ends text bytes
    → Ends (numbers_text w n field ++ text) (field ++ bytes)
numbers_read w zero [] text bytes are size ends = ends
numbers_read w zero (b ∷ field) text bytes are size ends = absurd (omega (arith, size))
numbers_read w (suc n) field text bytes are size ends = λ number.
    let one = take w field in
    let others = drop w field in
    let after = numbers_text w n others ++ text in
    let inner : length others ≡ w * n = length-drop w field ∙ (one_fits w (suc n) n (length field) (omega arith) size).1 in
    ap (λ (l : List ℕ). number ++ read (in_number []) l) (append_assoc (number_text one) (numbers_text w n others) text)
    ∙ ap (λ (l : List ℕ). number ++ l) (
    number_read one [] after (bytes_take w field are)
    ∙ ap (λ (l : List ℕ). read (in_number l) after) (append-nil one)
    ∙ numbers_read w n others text bytes (bytes_drop w field are) inner ends one
    ∙ sym (append_assoc one others bytes)
    ∙ ap (λ (l : List ℕ). l ++ bytes) (take-append-drop w field))

-- ---- what has no bytes

pub name_read : (name text : List ℕ) → Quiet name → read in_name (name ++ text) ≡ read in_name text
name_read [] text quiet = refl
name_read (c ∷ name) text quiet = rw (quiet.1, ends_no_line c quiet.0) (name_read name text quiet.2)

pub comment_read : (said text : List ℕ) → OneLine said → read in_comment (said ++ text) ≡ read in_comment text
comment_read [] text one = refl
comment_read (c ∷ said) text one = rw (one.0) (comment_read said text one.1)
