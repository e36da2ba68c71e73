-- Bytes read one by one.
use Rattle.std.proofs.Common.{◌≡◌, ℕ, zero, suc, ◌-◌, true, false, if◌then◌else◌, Bool, List, [], ◌∷◌, ◌++◌, take, drop, length, refl, ap, ◌∙◌, append_assoc, sym}
use Rattle.std.proofs.lemmas.List.{take_rest, append-nil}
use Rattle.acpi_dump.specs.Line.{is_byte, byte_of, bytes_in}

pub next : (most : ℕ) (text : List ℕ) → is_byte text ≡ true → bytes_in (suc most) text ≡ byte_of text ∷ bytes_in most (drop 3 text)
unfolding bytes_in
next most text is = ap (λ (b : Bool). if b then byte_of text ∷ bytes_in most (drop 3 text) else []) is

pub none_left : (text : List ℕ) → bytes_in 0 text ≡ []
unfolding bytes_in
none_left text = refl

pub no_byte : (most : ℕ) (text : List ℕ) → is_byte text ≡ false → bytes_in most text ≡ []
unfolding bytes_in
no_byte zero text is = refl
no_byte (suc most) text is = ap (λ (b : Bool). if b then byte_of text ∷ bytes_in most (drop 3 text) else []) is

-- a byte moves from the text to the table
pub one_more : (left less : ℕ) (text before table all : List ℕ) → left ≡ suc less → is_byte text ≡ true
    → table ≡ before ++ byte_of text ∷ [] → before ++ bytes_in left text ≡ all
    → table ++ bytes_in less (take (length text - 3) (drop 3 text)) ≡ all
one_more left less text before table all size is now so_far =
    ap (λ (l : List ℕ). l ++ bytes_in less (take (length text - 3) (drop 3 text))) now
    ∙ ap (λ (l : List ℕ). (before ++ byte_of text ∷ []) ++ bytes_in less l) (take_rest text 3)
    ∙ append_assoc before (byte_of text ∷ []) (bytes_in less (drop 3 text))
    ∙ ap (λ (l : List ℕ). before ++ l) (sym (next less text is))
    ∙ ap (λ (n : ℕ). before ++ bytes_in n text) (sym size)
    ∙ so_far

-- where no further byte is read, the table has all
pub stops : (table more all : List ℕ) → more ≡ [] → table ++ more ≡ all → table ≡ all
stops table more all none so_far = sym (append-nil table) ∙ ap (λ (l : List ℕ). table ++ l) (sym none) ∙ so_far
