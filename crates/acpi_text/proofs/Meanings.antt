-- What a line says after its numbers: nothing, or a comment.
use Rattle.std.proofs.Common.{◌≡◌, ℕ, ◌*◌, ◌/◌, ◌%◌, ◌^◌, ◌<◌, ◌≤◌, ◌==◌, ◌&&◌, nat_le, nat_lt, not, true, false, Bool, cond}
use Rattle.std.proofs.Common.{List, [], ◌∷◌, ◌++◌, length, codes, refl, ap, ◌∙◌, arith, Option, Some, None}
use Rattle.std.specs.Prelude.{bit_and}
use Rattle.std.specs.Fmt.{decimal}
use Rattle.std.proofs.Math.Nat.{div-le_self}
use Rattle.std.proofs.lemmas.Nat.{and_le_l}
use Rattle.std.proofs.lemmas.Bool.{and_parts, eqb-true, leb-true}
use Rattle.std.proofs.lemmas.Bool.Decides.{nat_tests}
use Rattle.acpi_base.specs.Bytes.{AreBytes, le, carried}
use Rattle.acpi_base.specs.Digit.{hex_digit, hex_byte}
use Rattle.acpi_base.specs.Look.{Look, Part, one_flag, one_choice, one_number}
use Rattle.acpi_base.specs.Look as looks
use Rattle.acpi_base.proofs.Bytes.{bytes_le}
use Rattle.acpi_text.specs.Hex.{number_text}
use Rattle.acpi_text.specs.Label.{prints, all_print, label}
use Rattle.acpi_text.specs.Note.{decimal_text, trimmed, find_word, word_text, said, without, choice_text, bits_text}
use Rattle.acpi_text.specs.Note.{number_meaning, quoted, meaning}
use Rattle.acpi_text.proofs.Numbers.{narrow_carried}
use Rattle.acpi_text.proofs.Printed.{Plain, plain_append, quiet_is_plain, plain_text, quiet_label, quiet_decimal}
use Rattle.acpi_text.proofs.Trims.{bytes_trimmed}

-- a number of at most eight bytes
small_number : (w n : ℕ) (field : List ℕ) → AreBytes field → length field ≡ w * n → n ≡ 1 → w ≤ 8 → carried field < 2 ^ 64
small_number w n field are size one narrow =
    narrow_carried field are (let e : length field ≡ w * 1 = size ∙ ap (λ k. w * k) one in omega (arith, e))

-- ---- names and numbers print

plain_label : (name : List ℕ) → Plain (label name)
plain_label name = quiet_is_plain (label name) (quiet_label name)

digit_prints : (n : ℕ) → n < 16 → prints (hex_digit n) ≡ true
digit_prints n small = grind (arith, nat_tests)

plain_byte : (b : ℕ) → b < 256 → Plain (hex_byte b)
plain_byte b small = (digit_prints (b / 16) (omega arith), (digit_prints (b % 16) (omega arith), tt))

plain_number : (bytes : List ℕ) → AreBytes bytes → Plain (number_text bytes)
plain_number [] are = tt
plain_number (b ∷ bytes) are = plain_append (number_text bytes) (hex_byte b) (plain_number bytes are.1) (plain_byte b are.0)

plain_hex : (n : ℕ) → Plain (codes "0x" ++ number_text (trimmed (le 8 n)))
plain_hex n =
    plain_append (codes "0x") (number_text (trimmed (le 8 n))) (plain_text (codes "0x") refl)
    (plain_number (trimmed (le 8 n)) (bytes_trimmed (le 8 n) (bytes_le 8 n)))

plain_named : (name : List ℕ) (n mask lowest : ℕ) → n < 2 ^ 64 → Plain (label name ++ (32 ∷ decimal (bit_and n mask / lowest)))
plain_named name n mask lowest small =
    let value = bit_and n mask / lowest in
    let less : value < 2 ^ 64 = omega (arith, div-le_self (bit_and n mask) lowest, and_le_l n mask) in
    plain_append (label name) (32 ∷ decimal value) (plain_label name) (refl, quiet_is_plain (decimal value) (quiet_decimal value less))

smaller : (mask n : ℕ) → n < 2 ^ 64 → without mask n < 2 ^ 64
smaller mask n small = omega (arith, small)

-- ---- after the first thing that a comment says

plain_later : (what others : List ℕ) → Plain what → Plain others → Plain (said false what ++ others)
plain_later what others one two =
    plain_append (codes " | " ++ what) others (plain_append (codes " | ") what (plain_text (codes " | ") refl) one) two

later_chosen : (b : Bool) (others what after : List ℕ) → Plain others → Plain what → Plain after
    → Plain (cond b others (said false what ++ after))
later_chosen true others what after one two three = one
later_chosen false others what after one two three = plain_later what after two three

later_rest : (b : Bool) (what : List ℕ) → Plain what → Plain (cond b [] (said false what))
later_rest true what one = tt
later_rest false what one = plain_append (codes " | ") what (plain_text (codes " | ") refl) one

later_choice : (others : Bool → ℕ → List ℕ) (mask : ℕ) (name : Option (List ℕ)) (n : ℕ) → Plain (others false n)
    → Plain (others false (without mask n)) → Plain (choice_text others false mask name n)
later_choice others mask (Some name) n one two = plain_later (label name) (others false (without mask n)) (plain_label name) two
later_choice others mask None n one two = one

later_bits : (parts : List Part) (n : ℕ) → n < 2 ^ 64 → Plain (bits_text parts false n)
later_bits [] n small = later_rest (n == 0) (codes "0x" ++ number_text (trimmed (le 8 n))) (plain_hex n)
later_bits (one_flag mask name ∷ parts) n small =
    later_chosen (bit_and n mask == 0) (bits_text parts false n) (label name) (bits_text parts false (without mask n))
    (later_bits parts n small) (plain_label name) (later_bits parts (without mask n) (smaller mask n small))
later_bits (one_choice mask words ∷ parts) n small =
    later_choice (λ one m. bits_text parts one m) mask (find_word words (bit_and n mask)) n
    (later_bits parts n small) (later_bits parts (without mask n) (smaller mask n small))
later_bits (one_number mask lowest name ∷ parts) n small =
    plain_later (label name ++ (32 ∷ decimal (bit_and n mask / lowest))) (bits_text parts false (without mask n))
    (plain_named name n mask lowest small) (later_bits parts (without mask n) (smaller mask n small))

-- What holds of nothing and of each comment holds of the meaning of each field.
module _ (P : List ℕ → Type 0) (none : P []) (comment : (text : List ℕ) → Plain text → P (codes "  // " ++ text)) where
  comment_chosen : (b : Bool) (other text : List ℕ) → P other → Plain text → P (cond b other (codes "  // " ++ text))
  comment_chosen true other text one two = one
  comment_chosen false other text one two = comment text two

  decimal_by : (n : ℕ) → n < 2 ^ 64 → P (decimal_text n)
  decimal_by n small = comment_chosen (nat_lt n 10) [] (decimal n) none (quiet_is_plain (decimal n) (quiet_decimal n small))

  word_by : (name : Option (List ℕ)) (n : ℕ) → n < 2 ^ 64 → P (word_text name n)
  word_by (Some name) n small = comment (label name) (plain_label name)
  word_by None n small = decimal_by n small

  choice_by : (others : Bool → ℕ → List ℕ) (mask : ℕ) (name : Option (List ℕ)) (n : ℕ) → P (others true n)
      → Plain (others false (without mask n)) → P (choice_text others true mask name n)
  choice_by others mask (Some name) n one two =
      comment (label name ++ others false (without mask n))
      (plain_append (label name) (others false (without mask n)) (plain_label name) two)
  choice_by others mask None n one two = one

  bits_by : (parts : List Part) (n : ℕ) → n < 2 ^ 64 → P (bits_text parts true n)
  bits_by [] n small = comment_chosen (n == 0) [] (codes "0x" ++ number_text (trimmed (le 8 n))) none (plain_hex n)
  bits_by (one_flag mask name ∷ parts) n small =
      comment_chosen (bit_and n mask == 0) (bits_text parts true n) (label name ++ bits_text parts false (without mask n))
      (bits_by parts n small)
      (plain_append (label name) (bits_text parts false (without mask n)) (plain_label name)
      (later_bits parts (without mask n) (smaller mask n small)))
  bits_by (one_choice mask words ∷ parts) n small =
      choice_by (λ one m. bits_text parts one m) mask (find_word words (bit_and n mask)) n
      (bits_by parts n small) (later_bits parts (without mask n) (smaller mask n small))
  bits_by (one_number mask lowest name ∷ parts) n small =
      let named = label name ++ (32 ∷ decimal (bit_and n mask / lowest)) in
      comment (named ++ bits_text parts false (without mask n))
      (plain_append named (bits_text parts false (without mask n)) (plain_named name n mask lowest small)
      (later_bits parts (without mask n) (smaller mask n small)))

  number_by : (look : Look) (n : ℕ) → n < 2 ^ 64 → P (number_meaning look n)
  number_by looks.number n small = decimal_by n small
  number_by (looks.preset value) n small = decimal_by n small
  number_by looks.reference n small = decimal_by n small
  number_by (looks.flags parts) n small = bits_by parts n small
  number_by (looks.one_of words) n small = word_by (find_word words n) n small
  number_by look n small = none

  -- one number, as the test says
  chosen_by : (a : Bool) (number : List ℕ) → (a ≡ true → P number) → P (cond a number [])
  chosen_by true number one = one refl
  chosen_by false number one = none

  one_number_by : (look : Look) (w n : ℕ) (field : List ℕ) → AreBytes field → length field ≡ w * n
      → P (cond (n == 1 && nat_le w 8) (number_meaning look (carried field)) [])
  one_number_by look w n field are size =
      chosen_by (n == 1 && nat_le w 8) (number_meaning look (carried field))
      (λ is. let parts = and_parts (n == 1) (nat_le w 8) is in
      number_by look (carried field) (small_number w n field are size (eqb-true n 1 parts.0) (leb-true w 8 parts.1)))

  -- a text, as the test says
  text_by : (a : Bool) (text : List ℕ) → (a ≡ true → Plain text) → P (cond a (codes "  // \"" ++ (text ++ codes "\"")) [])
  text_by true text one = comment (34 ∷ (text ++ 34 ∷ [])) (refl, plain_append text (34 ∷ []) (one refl) (refl, tt))
  text_by false text one = none

  quoted_by : (text : List ℕ) → P (quoted text)
  quoted_by text =
      text_by (not (length text == 0) && all_print text) text
      (λ is. plain_text text (and_parts (not (length text == 0)) (all_print text) is).1)

  pub meaning_by : (look : Look) (w n : ℕ) (field : List ℕ) → AreBytes field → length field ≡ w * n → P (meaning look w n field)
  meaning_by looks.text w n field are size = quoted_by (trimmed field)
  meaning_by look w n field are size = one_number_by look w n field are size
