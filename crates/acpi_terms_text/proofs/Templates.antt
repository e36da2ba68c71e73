-- Items of a template, one after the other.
use Rattle.std.proofs.Common.{◌≡◌, ℕ, zero, suc, ◌-◌, ◌==◌, true, false, List, [], ◌∷◌, ◌++◌, length, drop, refl, ap, sym, ◌∙◌, append_assoc, arith}
use Rattle.std.specs.Prelude.{codes, nat_lt}
use Rattle.std.proofs.lemmas.Bool.{ne_eqb}
use Rattle.acpi_terms_text.specs.Descriptor.{item_size, item_type, names, item_name, is_template, template_text}
use Rattle.acpi_terms_text.specs.Word.{word_in}

skip_test : (k : ℕ) (bytes : List ℕ) → is_template k bytes ≡ is_template 0 (drop k bytes)
skip_test zero bytes = refl
skip_test (suc k) [] = refl
skip_test (suc k) (b ∷ bytes) = skip_test k bytes

skip_text : (k : ℕ) (bytes : List ℕ) → template_text k bytes ≡ template_text 0 (drop k bytes)
skip_text zero bytes = refl
skip_text (suc k) [] = refl
skip_text (suc k) (b ∷ bytes) = skip_text k bytes

-- an item has at least one byte
pub some_size : (tag : ℕ) (more : List ℕ) → item_size (tag ∷ more) ≡ suc (item_size (tag ∷ more) - 1)
some_size tag more =
    elim (nat_lt tag 128) as (λ v. nat_lt tag 128 ≡ v → item_size (tag ∷ more) ≡ suc (item_size (tag ∷ more) - 1)) [
      | true ↦ λ is. rw is (omega arith)
      | false ↦ λ is. rw is (omega arith)
    ] refl

pub test_goes_on : (bytes rest after more : List ℕ) (tag : ℕ) → rest ≡ tag ∷ more → (tag ≡ 0x79 → ⊥)
    → (length (word_in names (item_type tag)) == 0) ≡ false → after ≡ drop (item_size (tag ∷ more)) rest
    → is_template 0 bytes ≡ is_template 0 rest → is_template 0 bytes ≡ is_template 0 after
test_goes_on bytes rest after more tag is other named next before =
    before ∙ ap (is_template 0) is
    ∙ rw (ne_eqb tag 0x79 other, named) (skip_test (item_size (tag ∷ more) - 1) more)
    ∙ ap (is_template 0) (sym (next ∙ ap (drop (item_size (tag ∷ more))) is ∙ ap (λ k. drop k (tag ∷ more)) (some_size tag more)))

pub test_ends : (bytes rest more : List ℕ) (tag : ℕ) → rest ≡ tag ∷ more → tag ≡ 0x79 → is_template 0 bytes ≡ is_template 0 rest
    → (length more == 1) ≡ is_template 0 bytes
test_ends bytes rest more tag is end before = sym (before ∙ ap (is_template 0) is ∙ rw end refl)

pub test_fails : (bytes rest more : List ℕ) (tag : ℕ) → rest ≡ tag ∷ more → (tag ≡ 0x79 → ⊥)
    → (length (word_in names (item_type tag)) == 0) ≡ true → is_template 0 bytes ≡ is_template 0 rest → false ≡ is_template 0 bytes
test_fails bytes rest more tag is other named before = sym (before ∙ ap (is_template 0) is ∙ rw (ne_eqb tag 0x79 other, named) refl)

pub text_goes_on : (whole old rest after more new : List ℕ) (tag : ℕ) → rest ≡ tag ∷ more → (tag ≡ 0x79 → ⊥)
    → after ≡ drop (item_size (tag ∷ more)) rest → new ≡ old ++ (item_name tag more ++ codes ", ")
    → old ++ template_text 0 rest ≡ whole → new ++ template_text 0 after ≡ whole
text_goes_on whole old rest after more new tag is other next added before =
    let later : template_text 0 after ≡ template_text (item_size (tag ∷ more) - 1) more =
    ap (template_text 0) (next ∙ ap (drop (item_size (tag ∷ more))) is ∙ ap (λ k. drop k (tag ∷ more)) (some_size tag more))
    ∙ sym (skip_text (item_size (tag ∷ more) - 1) more)
    in
    let here : template_text 0 rest ≡ item_name tag more ++ (codes ", " ++ template_text (item_size (tag ∷ more) - 1) more) =
    ap (template_text 0) is ∙ rw (ne_eqb tag 0x79 other) refl
    in
    ap (λ (l : List ℕ). l ++ template_text 0 after) added
    ∙ ap (λ (l : List ℕ). (old ++ (item_name tag more ++ codes ", ")) ++ l) later
    ∙ append_assoc old (item_name tag more ++ codes ", ") _
    ∙ ap (λ (l : List ℕ). old ++ l) (append_assoc (item_name tag more) (codes ", ") _ ∙ sym here)
    ∙ before

-- the parts of an item's name and the comma after it, one after the other
pub name_added : (old a b c one two new : List ℕ) → one ≡ old ++ a → two ≡ one ++ b → new ≡ two ++ c → new ≡ old ++ ((a ++ b) ++ c)
name_added old a b c one two new p q r =
    r ∙ ap (λ (l : List ℕ). l ++ c) (q ∙ ap (λ (l : List ℕ). l ++ b) p) ∙ simp append_assoc
