-- Items of a template, one after the other.
use Rattle.std.proofs.Common.{◌≡◌, ℕ, zero, suc, ◌+◌, ◌-◌, ◌<◌, ◌≤◌, Bool, true, false, List, [], ◌∷◌, ◌++◌, length, get_or, take, drop, refl, ap, sym, ◌∙◌, append_assoc, arith}
use Rattle.std.specs.Prelude.{codes, nat_lt, ◌==◌, ◌%◌, ◌&&◌, not, if◌then◌else◌, Option}
use Rattle.std.proofs.lemmas.Bool.{ne_eqb, eq-eqb}
use Rattle.std.proofs.lemmas.List.{append-nil, take_rest}
use Rattle.acpi_read.proofs.Texts.{after_two}
use Rattle.acpi_asl.specs.Number.{upper_byte}
use Rattle.acpi_asl.specs.declared.macros.Descriptor.{Descriptor}
use Rattle.acpi_asl.specs.Content.{digits_at}
use Rattle.acpi_asl.specs.Descriptor.{descriptors}
use Rattle.acpi_terms_text.specs.Descriptor.{item_size}
use Rattle.acpi_asl.specs.Template.{comma, channels, dwords, pairs, found_in, found, is_found, is_zero_alone, is_inside, may_follow, is_template, item_text, items_text}

-- the descriptor of an item of the size that it states
pub found_is : (item : List ℕ) (size : ℕ) (ds : List Descriptor) (r : Option Descriptor) → length item ≡ size → size ≡ item_size item
    → ds ≡ descriptors → r ≡ found_in ds item → r ≡ found item
unfolding found
found_is item size ds r same sized all is =
    is ∙ ap (λ (l : List Descriptor). found_in l item) all ∙ rw (eq-eqb (length item) (item_size item) (same ∙ sized)) refl

skip_test : (inside : Bool) (k : ℕ) (bytes : List ℕ) → is_template inside k bytes ≡ is_template inside 0 (drop k bytes)
skip_test inside zero bytes = refl
skip_test inside (suc k) [] = refl
skip_test inside (suc k) (b ∷ bytes) = skip_test inside k bytes

skip_text : (tags d : ℕ) (inside : Bool) (k : ℕ) (bytes : List ℕ) → items_text tags d inside k bytes ≡ items_text tags d inside 0 (drop k bytes)
skip_text tags d inside zero bytes = refl
skip_text tags d inside (suc k) [] = refl
skip_text tags d inside (suc k) (b ∷ bytes) = skip_text tags d inside k bytes

-- an item has at least one byte
some_size : (tag : ℕ) (more : List ℕ) → item_size (tag ∷ more) ≡ suc (item_size (tag ∷ more) - 1)
some_size tag more =
    elim (nat_lt tag 128) as (λ v. nat_lt tag 128 ≡ v → item_size (tag ∷ more) ≡ suc (item_size (tag ∷ more) - 1)) [
      | true ↦ λ is. rw is (omega arith)
      | false ↦ λ is. rw is (omega arith)
    ] refl

-- what is after the item at the front
after_front : (rest after more : List ℕ) (tag size : ℕ) → rest ≡ tag ∷ more → size ≡ item_size (tag ∷ more) → after ≡ drop size rest
    → after ≡ drop (item_size (tag ∷ more) - 1) more
after_front rest after more tag size is sized next =
    next ∙ ap (λ (k : ℕ). drop k rest) sized ∙ ap (drop (item_size (tag ∷ more))) is ∙ ap (λ (k : ℕ). drop k (tag ∷ more)) (some_size tag more)

and_is : (second more : Bool) → (second && more) ≡ (if second then more else false)
and_is true more = refl
and_is false more = refl

-- two tests, one after the other, are one
and_if : (first second more known : Bool) → known ≡ (first && second) → (first && second && more) ≡ (if known then more else false)
and_if true second more known is = rw is (and_is second more)
and_if false second more known is = rw is refl

test_step : (inside : Bool) (tag : ℕ) (more : List ℕ) → (tag ≡ 0x79 → ⊥) → (known : Bool)
    → known ≡ (may_follow inside tag && is_found (found (take (item_size (tag ∷ more)) (tag ∷ more))))
    → is_template inside 0 (tag ∷ more) ≡ (if known then is_template (is_inside inside tag) (item_size (tag ∷ more) - 1) more else false)
test_step inside tag more other known is =
    rw (ne_eqb tag 0x79 other)
    (and_if (may_follow inside tag) (is_found (found (take (item_size (tag ∷ more)) (tag ∷ more)))) (is_template (is_inside inside tag) (item_size (tag ∷ more) - 1) more) known is)

here : (rest more : List ℕ) (tag size : ℕ) → rest ≡ tag ∷ more → size ≡ item_size (tag ∷ more) → take size rest ≡ take (item_size (tag ∷ more)) (tag ∷ more)
here rest more tag size is sized = ap (λ (k : ℕ). take k rest) sized ∙ ap (take (item_size (tag ∷ more))) is

pub test_goes_on : (bytes rest after more : List ℕ) (was inside next_inside : Bool) (tag size : ℕ) (known : Bool) → rest ≡ tag ∷ more → (tag ≡ 0x79 → ⊥)
    → size ≡ item_size (tag ∷ more) → known ≡ (may_follow inside tag && is_found (found (take size rest))) → known ≡ true → after ≡ drop size rest
    → next_inside ≡ is_inside inside tag → is_template was 0 bytes ≡ is_template inside 0 rest → is_template was 0 bytes ≡ is_template next_inside 0 after
test_goes_on bytes rest after more was inside next_inside tag size known is other sized known_is holds next turned before =
    before ∙ ap (is_template inside 0) is
    ∙ test_step inside tag more other true (sym holds ∙ known_is ∙ ap (λ (l : List ℕ). may_follow inside tag && is_found (found l)) (here rest more tag size is sized))
    ∙ skip_test (is_inside inside tag) (item_size (tag ∷ more) - 1) more
    ∙ ap (is_template (is_inside inside tag) 0) (sym (after_front rest after more tag size is sized next))
    ∙ ap (λ (v : Bool). is_template v 0 after) (sym turned)

pub test_fails : (bytes rest more : List ℕ) (was inside : Bool) (tag size : ℕ) (known : Bool) → rest ≡ tag ∷ more → (tag ≡ 0x79 → ⊥) → size ≡ item_size (tag ∷ more)
    → known ≡ (may_follow inside tag && is_found (found (take size rest))) → known ≡ false → is_template was 0 bytes ≡ is_template inside 0 rest → false ≡ is_template was 0 bytes
test_fails bytes rest more was inside tag size known is other sized known_is fails before =
    sym (before ∙ ap (is_template inside 0) is ∙ test_step inside tag more other false (sym fails ∙ known_is ∙ ap (λ (l : List ℕ). may_follow inside tag && is_found (found l)) (here rest more tag size is sized)))

pub test_ends : (bytes rest more : List ℕ) (was inside : Bool) (tag : ℕ) (last : Bool) → rest ≡ tag ∷ more → tag ≡ 0x79 → last ≡ (not inside && is_zero_alone more)
    → is_template was 0 bytes ≡ is_template inside 0 rest → last ≡ is_template was 0 bytes
test_ends bytes rest more was inside tag last is end last_is before = last_is ∙ sym (before ∙ ap (is_template inside 0) is ∙ rw end refl)

text_step : (tags d : ℕ) (inside : Bool) (tag : ℕ) (more : List ℕ) → (tag ≡ 0x79 → ⊥)
    → items_text tags d inside 0 (tag ∷ more) ≡ item_text tags d inside tag (take (item_size (tag ∷ more)) (tag ∷ more)) (tag ∷ more) ++ items_text tags d (is_inside inside tag) (item_size (tag ∷ more) - 1) more
text_step tags d inside tag more other = rw (ne_eqb tag 0x79 other) refl

pub text_goes_on : (tags d : ℕ) (inside next_inside : Bool) (whole old rest after more new : List ℕ) (tag size : ℕ) → rest ≡ tag ∷ more → (tag ≡ 0x79 → ⊥) → size ≡ item_size (tag ∷ more)
    → after ≡ drop size rest → next_inside ≡ is_inside inside tag → new ≡ old ++ item_text tags d inside tag (take size rest) rest
    → old ++ items_text tags d inside 0 rest ≡ whole → new ++ items_text tags d next_inside 0 after ≡ whole
text_goes_on tags d inside next_inside whole old rest after more new tag size is other sized next turned added before =
    let line : List ℕ = item_text tags d inside tag (take size rest) rest in
    let later : items_text tags d next_inside 0 after ≡ items_text tags d (is_inside inside tag) (item_size (tag ∷ more) - 1) more =
    ap (λ (v : Bool). items_text tags d v 0 after) turned
    ∙ ap (items_text tags d (is_inside inside tag) 0) (after_front rest after more tag size is sized next)
    ∙ sym (skip_text tags d (is_inside inside tag) (item_size (tag ∷ more) - 1) more)
    in
    let step : items_text tags d inside 0 rest ≡ line ++ items_text tags d next_inside 0 after =
    ap (items_text tags d inside 0) is ∙ text_step tags d inside tag more other
    ∙ ap (λ (l : List ℕ). item_text tags d inside tag l (tag ∷ more) ++ items_text tags d (is_inside inside tag) (item_size (tag ∷ more) - 1) more) (sym (here rest more tag size is sized))
    ∙ ap (λ (l : List ℕ). item_text tags d inside tag (take size rest) l ++ items_text tags d (is_inside inside tag) (item_size (tag ∷ more) - 1) more) (sym is)
    ∙ ap (λ (l : List ℕ). line ++ l) (sym later)
    in
    ap (λ (l : List ℕ). l ++ items_text tags d next_inside 0 after) added ∙ append_assoc old line (items_text tags d next_inside 0 after) ∙ ap (λ (l : List ℕ). old ++ l) (sym step) ∙ before

pub text_ends : (tags d : ℕ) (inside : Bool) (whole now rest more : List ℕ) (tag : ℕ) → rest ≡ tag ∷ more → tag ≡ 0x79 → now ++ items_text tags d inside 0 rest ≡ whole → now ++ [] ≡ whole
text_ends tags d inside whole now rest more tag is end before =
    let none : items_text tags d inside 0 rest ≡ [] = ap (items_text tags d inside 0) is ∙ rw end refl in
    ap (λ (l : List ℕ). now ++ l) (sym none) ∙ before

-- ---- numbers of four bytes

parts_step : (first : Bool) (s : List ℕ) → 4 ≤ length s → dwords first s ≡ (comma first ++ (codes "0x" ++ digits_at 4 0 s)) ++ dwords false (drop 4 s)
parts_step first [] some = absurd (omega (arith, some))
parts_step first (a ∷ []) some = absurd (omega (arith, some))
parts_step first (a ∷ b ∷ []) some = absurd (omega (arith, some))
parts_step first (a ∷ b ∷ c ∷ []) some = absurd (omega (arith, some))
parts_step first (a ∷ b ∷ c ∷ d ∷ rest) some = refl

pub dwords_step : (first : Bool) (s : List ℕ) → 4 ≤ length s → dwords first s ≡ (comma first ++ (codes "0x" ++ digits_at 4 0 s)) ++ dwords false (take (length s - 4) (drop 4 s))
dwords_step first s some =
    parts_step first s some ∙ ap (λ (l : List ℕ). (comma first ++ (codes "0x" ++ digits_at 4 0 s)) ++ dwords false l) (sym (take_rest s 4))

pairs_cut : (first : Bool) (s : List ℕ) → 2 ≤ length s → pairs first s ≡ (comma first ++ (codes "0x" ++ digits_at 2 0 s)) ++ pairs false (drop 2 s)
pairs_cut first [] some = absurd (omega (arith, some))
pairs_cut first (a ∷ []) some = absurd (omega (arith, some))
pairs_cut first (a ∷ b ∷ rest) some = refl

pub pairs_step : (first : Bool) (s : List ℕ) → 2 ≤ length s → pairs first s ≡ (comma first ++ (codes "0x" ++ digits_at 2 0 s)) ++ pairs false (take (length s - 2) (drop 2 s))
pairs_step first s some =
    pairs_cut first s some ∙ ap (λ (l : List ℕ). (comma first ++ (codes "0x" ++ digits_at 2 0 s)) ++ pairs false l) (sym (take_rest s 2))

-- ---- digits

pub digits_written : (n o : ℕ) (item : List ℕ) (b : ℕ) (old one new : List ℕ) → 0 < n → b ≡ get_or item (o + (n - 1)) 0 → one ≡ old ++ upper_byte b
    → new ≡ one ++ digits_at (n - 1) o item → new ≡ old ++ digits_at n o item
unfolding digits_at
digits_written n o item b old one new some is p q =
    let more : suc (n - 1) ≡ n = omega arith in
    after_two old (upper_byte b) (digits_at (n - 1) o item) one new p q
    ∙ ap (λ (k : ℕ). old ++ (upper_byte k ++ digits_at (n - 1) o item)) is ∙ ap (λ (k : ℕ). old ++ digits_at k o item) more

-- ---- the numbers of bits

channels_zero : (first : Bool) (i left : ℕ) → channels first i left 0 ≡ []
channels_zero first i zero = refl
channels_zero first i (suc k) = channels_zero (first && not (0 % 2 == 1)) (i + 1) k

-- no bit of zero is set
pub no_channels : (first : Bool) (i left mask : ℕ) (text : List ℕ) → mask ≡ 0 → text ≡ text ++ channels first i left mask
no_channels first i left mask text is =
    sym (append-nil text) ∙ ap (λ (l : List ℕ). text ++ l) (sym (channels_zero first i left))
    ∙ ap (λ (m : ℕ). text ++ channels first i left m) (sym is)
