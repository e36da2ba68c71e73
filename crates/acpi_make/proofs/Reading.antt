-- What parts of lines mean.
use Rattle.std.proofs.Common.{◌≡◌, ℕ, zero, suc, ◌+◌, ◌*◌, ◌/◌, ◌%◌, ◌<◌}
use Rattle.std.proofs.Common.{List, [], ◌∷◌, ◌++◌, length, take, drop, refl, sym, ap, ◌∙◌, append_assoc, arith}
use Rattle.std.proofs.lemmas.List.{map-append, length-drop, take-append-drop}
use Rattle.acpi_base.proofs.Bytes.{bytes_take, bytes_drop}
use Rattle.acpi_base.specs.Bytes.{AreBytes}
use Rattle.acpi_text.proofs.Numbers.{one_fits}
use Rattle.acpi_base.specs.Digit.{hex_digit, hex_byte}
use Rattle.acpi_text.specs.Hex.{number_text, numbers_text}
use Rattle.acpi_make.proofs.Outcomes.{front_none, front_both}
use Rattle.acpi_make.proofs.Digits.{IsDigit, digit_is}
use Rattle.acpi_make.specs.Gives.{with_front}
use Rattle.acpi_make.specs.Item.{byte_items}
use Rattle.acpi_make.specs.Meaning.{Outcome, read}
use Rattle.acpi_make.specs.declared.item.Cell.TheVariants.{Byte}
use Rattle.acpi_make.specs.declared.item.Item.TheVariants as items
use Rattle.acpi_make.specs.declared.state.State.TheVariants.{Start, Ended, Spaced, Number, Half}

-- ---- numbers

second_read : (n high from : ℕ) (c : ℕ) (number text : List ℕ) → IsDigit c n
    → read (Half high from) number (c ∷ text) ≡ read Number ((16 * high + n) ∷ number) text
second_read n high from c number text is = rw (is.prints.line, is.prints.control, is.prefix, is.value) refl

first_read : (n c : ℕ) (number text : List ℕ) → IsDigit c n → read Number number (c ∷ text) ≡ read (Half n 0) number text
first_read n c number text is = rw (is.prints.line, is.prints.control, is.slash, is.white, is.value) refl

begin_read : (n c : ℕ) (text : List ℕ) → IsDigit c n → read Spaced [] (c ∷ text) ≡ read (Half n (length (c ∷ text))) [] text
begin_read n c text is =
    rw (is.prints.line, is.prints.control, is.slash, is.quotation, is.question, is.brace, is.word, is.white, is.value) refl

whole_byte : (b from : ℕ) (number text : List ℕ) → b < 256
    → read (Half (b / 16) from) number (hex_digit (b % 16) ∷ text) ≡ read Number (b ∷ number) text
whole_byte b from number text small =
    second_read (b % 16) (b / 16) from (hex_digit (b % 16)) number text (digit_is (b % 16) (omega arith))
    ∙ ap (λ n. read Number (n ∷ number) text) (let e : 16 * (b / 16) + b % 16 ≡ b = omega arith in e)

byte_read : (b : ℕ) (number text : List ℕ) → b < 256 → read Number number (hex_byte b ++ text) ≡ read Number (b ∷ number) text
byte_read b number text small =
    first_read (b / 16) (hex_digit (b / 16)) number (hex_digit (b % 16) ∷ text) (digit_is (b / 16) (omega arith))
    ∙ whole_byte b 0 number text small

front_read : (b : ℕ) (text : List ℕ) → b < 256 → read Spaced [] (hex_byte b ++ text) ≡ read Number (b ∷ []) text
front_read b text small =
    begin_read (b / 16) (hex_digit (b / 16)) (hex_digit (b % 16) ∷ text) (digit_is (b / 16) (omega arith))
    ∙ whole_byte b _ [] text small

number_read : (b : ℕ) (field text : List ℕ) → AreBytes (b ∷ field)
    → read Spaced [] (number_text (b ∷ field) ++ text) ≡ read Number (b ∷ field) text
number_read b [] text are = front_read b text are.0
number_read b (c ∷ field) text are =
    ap (read Spaced []) (append_assoc (number_text (c ∷ field)) (hex_byte b) text)
    ∙ number_read c field (hex_byte b ++ text) are.1
    ∙ byte_read b (c ∷ field) text are.0

-- ---- what follows a value

-- What follows a colon, white space or a number has this outcome, after the number's own bytes.
pub record Follows (text : List ℕ) (outcome : Outcome) : Type 0 where
  pub ended : read Ended [] text ≡ outcome
  pub spaced : read Spaced [] text ≡ outcome
  pub number : (number : List ℕ) → read Number number text ≡ with_front (byte_items number) outcome

pub space_follows : (text : List ℕ) (outcome : Outcome) → read Spaced [] text ≡ outcome → Follows (32 ∷ text) outcome
space_follows text outcome is = record {
  ended = is;
  spaced = is;
  number = λ number. ap (with_front (byte_items number)) is;
}

pub end_follows : (more : List ℕ) → Follows (10 ∷ more) (read Start [] more)
end_follows more = record { ended = refl; spaced = refl; number = λ number. refl }

number_follows : (one text : List ℕ) (outcome : Outcome) → AreBytes one → Follows text outcome
    → read Spaced [] (number_text one ++ text) ≡ with_front (byte_items one) outcome
number_follows [] text outcome are follows = follows.spaced ∙ sym (front_none outcome)
number_follows (b ∷ one) text outcome are follows = number_read b one text are ∙ follows.number (b ∷ one)

parts_of_items : (k : ℕ) (field : List ℕ) → byte_items (take k field) ++ byte_items (drop k field) ≡ byte_items field
parts_of_items k field = sym (map-append (λ b. items.Cell (Byte b)) (take k field) (drop k field)) ∙ ap byte_items (take-append-drop k field)

follows_by : (text : List ℕ) (a b : Outcome) → a ≡ b → Follows text a → Follows text b
follows_by text a b same follows = record {
  ended = follows.ended ∙ same;
  spaced = follows.spaced ∙ same;
  number = λ number. follows.number number ∙ ap (with_front (byte_items number)) same;
}

pub numbers_follow : (w n : ℕ) (field text : List ℕ) (outcome : Outcome) → AreBytes field → length field ≡ w * n
    → Follows text outcome → Follows (numbers_text w n field ++ text) (with_front (byte_items field) outcome)
numbers_follow w zero [] text outcome are size follows = follows_by text outcome _ (sym (front_none outcome)) follows
numbers_follow w zero (b ∷ field) text outcome are size follows = absurd (omega (arith, size))
numbers_follow w (suc n) field text outcome are size follows =
    let one = take w field in
    let others = drop w field in
    let after = numbers_text w n others ++ text in
    let inner : length others ≡ w * n = length-drop w field ∙ (one_fits w (suc n) n (length field) (omega arith) size).1 in
    space_follows ((number_text one ++ numbers_text w n others) ++ text) _
    (ap (read Spaced []) (append_assoc (number_text one) (numbers_text w n others) text)
    ∙ number_follows one after (with_front (byte_items others) outcome) (bytes_take w field are)
    (numbers_follow w n others text outcome (bytes_drop w field are) inner follows)
    ∙ front_both (byte_items one) (byte_items others) outcome
    ∙ ap (λ parts. with_front parts outcome) (parts_of_items w field))
