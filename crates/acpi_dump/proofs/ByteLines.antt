-- The lines of a table's bytes.
use Rattle.std.proofs.Common.{◌≡◌, ℕ, zero, suc, ◌+◌, ◌-◌, ◌*◌, ◌/◌, ◌%◌, ◌<◌, ◌≤◌, ◌^◌, ◌==◌, ◌&&◌, ◌||◌, cond, nat_le, nat_lt, Bool, true, false, if◌then◌else◌, List, [], ◌∷◌, ◌++◌, length, drop, get_or, slice_index, replicate, map, All, refl, sym, ap, ◌∙◌, arith, append_assoc, length-append}
use Rattle.std.specs.Char.{digit_value, is_ascii_hexdigit}
use Rattle.std.specs.Fmt.{digit_glyph}
use Rattle.std.specs.List.{take_while}
use Rattle.std.specs.Str.Parse.{digits_value}
use Rattle.std.proofs.lemmas.Bool.{and_left, and_right, and_from, eq-eqb, lt-ltb, le-leb}
use Rattle.std.proofs.lemmas.Bool.Decides.{nat_tests}
use Rattle.std.proofs.lemmas.List.{drop_at}
use Rattle.std.proofs.lemmas.List.Elements.{All-head, All-tail}
use Rattle.std.proofs.lemmas.List.Sums.{take_while-cons}
use Rattle.acpi_dump.specs.Line.{is_blank, is_title, is_byte, bytes_in, unindented, digits_of, rest_of, is_data}
use Rattle.acpi_dump.specs.Dump.{blank, title, bytes, other, line_of}
use Rattle.acpi_dump.specs.Written.{offset_digits, bytes_text, character, bytes_line}
use Rattle.acpi_dump.proofs.Bytes.{next, no_byte}
use Rattle.acpi_dump.proofs.Glyphs.{glyph_is, AreHex, hex_plain, offset_hex, offset_value, offset_some}
use Rattle.acpi_dump.proofs.Plain.{IsPlain, ArePlain, plain_both, plain_copies}
use Rattle.acpi_dump.proofs.Titles.{not_all, or_true}

abbrev pub AreSmall : List ℕ → Type 0
AreSmall [] = Unit {0}
AreSmall (b ∷ bs) = (b < 256) × AreSmall bs

pub are_small : (bs : List ℕ) → All (λ b. b < 256) bs → AreSmall bs
are_small [] are = tt
are_small (b ∷ bs) are =
    (All-head (λ (n : ℕ). n < 256) b bs are, are_small bs (All-tail (λ (n : ℕ). n < 256) b bs are))

-- ---- bytes

byte_here : (high low : ℕ) (more : List ℕ) → is_ascii_hexdigit high ≡ true → is_ascii_hexdigit low ≡ true
    → is_byte (32 ∷ high ∷ low ∷ 32 ∷ more) ≡ true
byte_here high low more a b =
    let size : ℕ = length (32 ∷ high ∷ low ∷ 32 ∷ more) in
    let one : (nat_le 3 size && true) ≡ true = and_from (nat_le 3 size) true (le-leb 3 size (omega arith)) refl in
    let two : (nat_le 3 size && true && is_ascii_hexdigit high) ≡ true = and_from (nat_le 3 size && true) (is_ascii_hexdigit high) one a in
    let three : (nat_le 3 size && true && is_ascii_hexdigit high && is_ascii_hexdigit low) ≡ true
    = and_from (nat_le 3 size && true && is_ascii_hexdigit high) (is_ascii_hexdigit low) two b in
    and_from (nat_le 3 size && true && is_ascii_hexdigit high && is_ascii_hexdigit low) (size == 3 || true) three (or_true (size == 3))

not_byte : (more : List ℕ) → is_byte (32 ∷ 32 ∷ more) ≡ false
not_byte more =
    let text : List ℕ = 32 ∷ 32 ∷ more in
    let size : ℕ = length text in
    let low : Bool = is_ascii_hexdigit (slice_index text 2) in
    let one : (nat_le 3 size && true && false) ≡ false = and_right (nat_le 3 size && true) false refl in
    let two : (nat_le 3 size && true && false && low) ≡ false = and_left (nat_le 3 size && true && false) low one in
    and_left (nat_le 3 size && true && false && low) (size == 3 || slice_index text 3 == 32) two

high_hex : (b : ℕ) → b < 256 → is_ascii_hexdigit (digit_glyph true (b / 16)) ≡ true
high_hex b small = (glyph_is (b / 16) (omega arith)).hex.hexadecimal

low_hex : (b : ℕ) → is_ascii_hexdigit (digit_glyph true (b % 16)) ≡ true
low_hex b = (glyph_is (b % 16) (omega arith)).hex.hexadecimal

-- a byte is first, and a space is after it
byte_first : (b : ℕ) (bs more : List ℕ) → b < 256 → is_byte (bytes_text (b ∷ bs) ++ (32 ∷ 32 ∷ more)) ≡ true
byte_first b [] more small =
    byte_here (digit_glyph true (b / 16)) (digit_glyph true (b % 16)) (32 ∷ more) (high_hex b small) (low_hex b)
byte_first b (d ∷ bs) more small =
    byte_here (digit_glyph true (b / 16)) (digit_glyph true (b % 16)) (digit_glyph true (d / 16) ∷ digit_glyph true (d % 16) ∷ (bytes_text bs ++ (32 ∷ 32 ∷ more)))
    (high_hex b small) (low_hex b)

byte_value : (b : ℕ) → b < 256 → 16 * digit_value (digit_glyph true (b / 16)) + digit_value (digit_glyph true (b % 16)) ≡ b
byte_value b small =
    ap (λ (n : ℕ). 16 * n + digit_value (digit_glyph true (b % 16))) (glyph_is (b / 16) (omega arith)).value
    ∙ ap (λ (n : ℕ). 16 * (b / 16) + n) (glyph_is (b % 16) (omega arith)).value
    ∙ omega arith

bytes_read : (most : ℕ) (bs more : List ℕ) → AreSmall bs → length bs ≤ most
    → bytes_in most (bytes_text bs ++ (32 ∷ 32 ∷ more)) ≡ bs
bytes_read most [] more are few = no_byte most (32 ∷ 32 ∷ more) (not_byte more)
bytes_read zero (b ∷ bs) more are few = absurd (omega (arith, few))
bytes_read (suc most) (b ∷ bs) more are few =
    let text = bytes_text bs ++ (32 ∷ 32 ∷ more) in
    next most (32 ∷ digit_glyph true (b / 16) ∷ digit_glyph true (b % 16) ∷ text) (byte_first b bs more are.0)
    ∙ ap (λ (n : ℕ). n ∷ bytes_in most text) (byte_value b are.0)
    ∙ ap (λ (l : List ℕ). b ∷ l) (bytes_read most bs more are.1 (omega (arith, few)))

-- ---- the parts of a line

spaces_passed : (n : ℕ) (text : List ℕ) → take_while (λ c. c == 32) text ≡ []
    → drop (length (take_while (λ c. c == 32) (replicate n 32 ++ text))) (replicate n 32 ++ text) ≡ text
spaces_passed zero text none = ap (λ (l : List ℕ). drop (length l) text) none
spaces_passed (suc n) text none =
    let more = replicate n 32 ++ text in
    ap (λ (l : List ℕ). drop (length l) (32 ∷ more)) (take_while-cons (λ (c : ℕ). c == 32) 32 more) ∙ spaces_passed n text none

no_space : (ds rest : List ℕ) → AreHex ds → 0 < length ds → take_while (λ c. c == 32) (ds ++ rest) ≡ []
no_space [] rest are some = absurd (omega (arith, some))
no_space (d ∷ ds) rest are some =
    take_while-cons (λ (c : ℕ). c == 32) d (ds ++ rest)
    ∙ ap (λ (b : Bool). cond b (d ∷ take_while (λ c. c == 32) (ds ++ rest)) []) are.0.space

digits_taken : (ds rest : List ℕ) → AreHex ds → take_while is_ascii_hexdigit (ds ++ (58 ∷ rest)) ≡ ds
digits_taken [] rest are = take_while-cons is_ascii_hexdigit 58 rest
digits_taken (d ∷ ds) rest are =
    let more = ds ++ (58 ∷ rest) in
    take_while-cons is_ascii_hexdigit d more
    ∙ ap (λ (b : Bool). cond b (d ∷ take_while is_ascii_hexdigit more) []) are.0.hexadecimal
    ∙ ap (λ (l : List ℕ). d ∷ l) (digits_taken ds rest are.1)

colon_at : (ds rest : List ℕ) → get_or (ds ++ (58 ∷ rest)) (length ds) 0 ≡ 58
colon_at [] rest = refl
colon_at (d ∷ ds) rest = colon_at ds rest

after_colon : (ds rest : List ℕ) → drop (length ds + 1) (ds ++ (58 ∷ rest)) ≡ rest
after_colon ds rest =
    ap (drop (length ds + 1)) (sym (append_assoc ds (58 ∷ []) rest))
    ∙ drop_at (ds ++ (58 ∷ [])) rest (length ds + 1) (length-append ds (58 ∷ []))

module _ (n : ℕ) (ds rest : List ℕ) (are : AreHex ds) (some : 0 < length ds) where
  abbrev pub whole : List ℕ
  whole = 32 ∷ (replicate n 32 ++ (ds ++ (58 ∷ rest)))

  passed : unindented whole ≡ ds ++ (58 ∷ rest)
  passed = spaces_passed (suc n) (ds ++ (58 ∷ rest)) (no_space ds (58 ∷ rest) are some)

  pub its_digits : digits_of whole ≡ ds
  its_digits = ap (take_while is_ascii_hexdigit) passed ∙ digits_taken ds rest are

  pub its_rest : rest_of whole ≡ rest
  its_rest =
      ap (λ (l : List ℕ). drop (length l + 1) (unindented whole)) its_digits
      ∙ ap (drop (length ds + 1)) passed
      ∙ after_colon ds rest

  colon : get_or (unindented whole) (length (digits_of whole)) 0 ≡ 58
  colon =
      ap (λ (l : List ℕ). get_or (unindented whole) (length l) 0) its_digits
      ∙ ap (λ (l : List ℕ). get_or l (length ds) 0) passed
      ∙ colon_at ds rest

  pub has_bytes : is_byte rest ≡ true → is_data whole ≡ true
  has_bytes byte =
      let size : ℕ = length (digits_of whole) in
      let at : ℕ = get_or (unindented whole) size 0 in
      let long : 0 < size = omega (arith, ap length its_digits, some) in
      let two : (nat_lt 0 size && at == 58) ≡ true = and_from (nat_lt 0 size) (at == 58) (lt-ltb 0 size long) (eq-eqb at 58 colon) in
      and_from (nat_lt 0 size && at == 58) (is_byte (rest_of whole)) two (ap is_byte its_rest ∙ byte)

  pub not_blank : is_blank whole ≡ false
  not_blank =
      ap (λ (l : List ℕ). is_blank (32 ∷ l)) (sym (append_assoc (replicate n 32) ds (58 ∷ rest)))
      ∙ not_all (λ c. c == 32 || c == 9) (32 ∷ (replicate n 32 ++ ds)) 58 rest refl

  pub line_is : is_byte rest ≡ true → line_of whole ≡ bytes (digits_value 16 ds) (bytes_in 16 rest)
  line_is byte =
      ap (λ (b : Bool). if b then blank else (if is_title whole then title whole else (if is_data whole then bytes (digits_value 16 (digits_of whole)) (bytes_in 16 (rest_of whole)) else other))) not_blank
      ∙ ap (λ (b : Bool). if b then bytes (digits_value 16 (digits_of whole)) (bytes_in 16 (rest_of whole)) else other) (has_bytes byte)
      ∙ ap (λ (l : List ℕ). bytes (digits_value 16 l) (bytes_in 16 (rest_of whole))) its_digits
      ∙ ap (λ (l : List ℕ). bytes (digits_value 16 ds) (bytes_in 16 l)) its_rest

-- ---- whole lines

pub line_read : (offset b : ℕ) (bs : List ℕ) → AreSmall (b ∷ bs) → length (b ∷ bs) ≤ 16 → offset < 2 ^ 64
    → line_of (bytes_line offset (b ∷ bs)) ≡ bytes offset (b ∷ bs)
line_read offset b bs are few small =
    let tail = replicate (3 * (16 - length (b ∷ bs))) 32 ++ map character (b ∷ bs) in
    line_is (7 - length (offset_digits offset)) (offset_digits offset) (bytes_text (b ∷ bs) ++ (32 ∷ 32 ∷ tail)) (offset_hex offset) (offset_some offset small)
    (byte_first b bs tail are.0)
    ∙ ap (λ (n : ℕ). bytes n (bytes_in 16 (bytes_text (b ∷ bs) ++ (32 ∷ 32 ∷ tail)))) (offset_value offset small)
    ∙ ap (bytes offset) (bytes_read 16 (b ∷ bs) tail are few)

plain_bytes : (bs : List ℕ) → AreSmall bs → ArePlain (bytes_text bs)
plain_bytes [] are = tt
plain_bytes (b ∷ bs) are =
    ((refl, refl), ((glyph_is (b / 16) (omega (arith, are.0))).hex.plain, ((glyph_is (b % 16) (omega arith)).hex.plain, plain_bytes bs are.1)))

plain_character : (b : ℕ) → IsPlain (character b)
plain_character b = (grind (arith, nat_tests), grind (arith, nat_tests))

plain_characters : (bs : List ℕ) → ArePlain (map character bs)
plain_characters [] = tt
plain_characters (b ∷ bs) = (plain_character b, plain_characters bs)

pub plain_line : (offset : ℕ) (bs : List ℕ) → AreSmall bs → ArePlain (bytes_line offset bs)
plain_line offset bs are =
    let ds = offset_digits offset in
    let characters : List ℕ = replicate (3 * (16 - length bs)) 32 ++ map character bs in
    let after : List ℕ = bytes_text bs ++ (32 ∷ 32 ∷ characters) in
    let three : ArePlain characters
    = plain_both (replicate (3 * (16 - length bs)) 32) (map character bs) (plain_copies (3 * (16 - length bs)) 32 (refl, refl)) (plain_characters bs) in
    let two : ArePlain after = plain_both (bytes_text bs) (32 ∷ 32 ∷ characters) (plain_bytes bs are) ((refl, refl), ((refl, refl), three)) in
    let one : ArePlain (ds ++ (58 ∷ after)) = plain_both ds (58 ∷ after) (hex_plain ds (offset_hex offset)) ((refl, refl), two) in
    ((refl, refl), plain_both (replicate (7 - length ds) 32) (ds ++ (58 ∷ after)) (plain_copies (7 - length ds) 32 (refl, refl)) one)
