-- Structures, one after another.
use Rattle.std.proofs.Common.{◌≡◌, ℕ, zero, suc, ◌+◌, ◌-◌, ◌*◌, ◌≤◌, ◌&&◌, nat_le, Bool, true, false, cond, List, ◌++◌, length, take, drop}
use Rattle.std.proofs.Common.{Option, Some, None, refl, sym, ap, ◌∙◌, append_assoc, arith}
use Rattle.std.proofs.lemmas.List.{length-drop}
use Rattle.std.proofs.lemmas.Bool.{and_parts, leb-true}
use Rattle.acpi_base.specs.Walk.{end_of, rows_of, type_size}
use Rattle.acpi_base.specs.declared.walk.Sizes.{Sizes}
use Rattle.acpi_base.specs.declared.walk.Sizes.TheVariants.{EachOf, ToldAt, ByType}
use Rattle.acpi_text.specs.Form.{number_at}
use Rattle.acpi_text.specs.declared.form.InnerSize.{InnerSize}
use Rattle.acpi_text.specs.declared.form.InnerSize.TheVariants.{Walked, Counted, Rest}
use Rattle.acpi_text.specs.declared.form.InnerForm.{InnerForm}
use Rattle.acpi_text.specs.declared.form.InnerList.{InnerList}
use Rattle.acpi_text.specs.Piece.{SizeOf, OfBytes, TextOf, piece_and, pieces_then, pieces_text}
use Rattle.acpi_text.specs.Size.{size_from, size_told, front_size, inner_size_of, inner_form, size_by_form, inner_size, next_size}
use Rattle.acpi_text.specs.Slot.{nameless}

-- ---- sizes

-- a size of which there are as many bytes, and shown at least
pub record IsWithin (n : ℕ) (bytes : List ℕ) : Type 0 where
  pub some : 1 ≤ n
  pub fits : n ≤ length bytes

-- what a test that holds chose
some_chosen : (b : Bool) (n size : ℕ) → cond b (Some n) None ≡ Some size → (b ≡ true) × (n ≡ size)
some_chosen true n size is = (refl, cc)
some_chosen false n size is = absurd cc

size_within : (least n size : ℕ) (bytes : List ℕ) → size_from least n bytes ≡ Some size → IsWithin size bytes
size_within least n size bytes is =
    let chosen = some_chosen (nat_le 1 n && nat_le least n && nat_le n (length bytes)) n size is in
    let parts = and_parts (nat_le 1 n && nat_le least n) (nat_le n (length bytes)) chosen.0 in
    let lower = and_parts (nat_le 1 n) (nat_le least n) parts.0 in
    record {
      some = omega (arith, leb-true 1 n lower.0, chosen.1);
      fits = omega (arith, leb-true n (length bytes) parts.1, chosen.1);
    }

told_within : (told : Option ℕ) (size : ℕ) (bytes : List ℕ) → size_told told bytes ≡ Some size → IsWithin size bytes
told_within (Some n) size bytes is = size_within 0 n size bytes is
told_within None size bytes is = absurd cc

pub front_within : (sizes : Sizes) (size : ℕ) (bytes : List ℕ) → front_size sizes bytes ≡ Some size → IsWithin size bytes
front_within (EachOf n) size bytes is = size_within 0 n size bytes is
front_within (ToldAt place) size bytes is = size_within (end_of place) (number_at place bytes) size bytes is
front_within (ByType kind types) size bytes is = told_within (type_size kind (rows_of types) bytes) size bytes is

inner_size_within : (told : InnerSize) (size : ℕ) (bytes : List ℕ) → inner_size_of told bytes ≡ Some size → IsWithin size bytes
inner_size_within (Walked sizes) size bytes is = front_within sizes size bytes is
inner_size_within (Counted n count each) size bytes is = size_within n (n + each * number_at count bytes) size bytes is
inner_size_within Rest size bytes is = size_within 0 (length bytes) size bytes is

form_within : (form : Option InnerForm) (size : ℕ) (bytes : List ℕ) → size_by_form form bytes ≡ Some size → IsWithin size bytes
form_within (Some form) size bytes is = inner_size_within form.size size bytes is
form_within None size bytes is = absurd cc

pub inner_within : (list : InnerList) (size : ℕ) (bytes : List ℕ) → inner_size list bytes ≡ Some size → IsWithin size bytes
inner_within list size bytes is = form_within (inner_form list bytes) size bytes is

-- no size has a structure that isn't within the bytes
abbrev pub AreWithin : SizeOf → Type 0
AreWithin size = (n : ℕ) (bytes : List ℕ) → size bytes ≡ Some n → IsWithin n bytes

-- ---- one structure more, or none

pub has_next : (left : ℕ) (size : SizeOf) (bytes : List ℕ) (n : ℕ) → next_size left size bytes ≡ Some n → (1 ≤ left) × (size bytes ≡ Some n)
has_next zero size bytes n is = absurd cc
has_next (suc left) size bytes n is = (omega arith, is)

module _ {X : Type 0} (size : SizeOf) (one none after : OfBytes X) where
  pub one_more : (left n at : ℕ) (bytes : List ℕ) → next_size left size bytes ≡ Some n
      → pieces_then left size one none after at bytes ≡ one at (take n bytes) ++ pieces_then (left - 1) size one none after (at + n) (drop n bytes)
  one_more zero n at bytes is = absurd cc
  one_more (suc left) n at bytes is =
      ap (λ front. piece_and front one (λ k rest. pieces_then left size one none after k rest) none at bytes) is
      ∙ ap (λ k. one at (take n bytes) ++ pieces_then k size one none after (at + n) (drop n bytes)) (let e : left ≡ suc left - 1 = omega arith in e)

  pub no_more : (left at : ℕ) (bytes : List ℕ) → 1 ≤ left → next_size left size bytes ≡ None → pieces_then left size one none after at bytes ≡ none at bytes
  no_more zero at bytes some is = absurd (omega (arith, some))
  no_more (suc left) at bytes some is = ap (λ front. piece_and front one (λ k rest. pieces_then left size one none after k rest) none at bytes) is

-- ---- more structures than there are bytes

module _ (size : SizeOf) (within : AreWithin size) (shown : TextOf) where
  -- n structures at most, and what is left without names
  abbrev Up : ℕ → TextOf
  Up n at bytes = pieces_then n size shown nameless nameless at bytes

  after_front : (front : Option ℕ) (m n at : ℕ) (bytes : List ℕ) → size bytes ≡ front
      → ((k at : ℕ) → IsWithin k bytes → Up m at (drop k bytes) ≡ Up n at (drop k bytes))
      → piece_and front shown (λ k rest. Up m k rest) nameless at bytes ≡ piece_and front shown (λ k rest. Up n k rest) nameless at bytes
  after_front (Some k) m n at bytes is same =
      ap (λ (l : List ℕ). shown at (take k bytes) ++ l) (same k (at + k) (within k bytes is))
  after_front None m n at bytes is same = refl

  none_fits : (front : Option ℕ) (m at : ℕ) (bytes : List ℕ) → size bytes ≡ front → length bytes ≤ 0
      → piece_and front shown (λ k rest. Up m k rest) nameless at bytes ≡ nameless at bytes
  none_fits (Some k) m at bytes is none = let fits = within k bytes is in absurd (omega (arith, none, fits.some, fits.fits))
  none_fits None m at bytes is none = refl

  -- any number from that of the bytes on gives the same text
  enough : (m n at : ℕ) (bytes : List ℕ) → length bytes ≤ m → length bytes ≤ n → Up m at bytes ≡ Up n at bytes
  enough zero zero at bytes one two = refl
  enough zero (suc n) at bytes one two = sym (none_fits (size bytes) n at bytes refl one)
  enough (suc m) zero at bytes one two = none_fits (size bytes) m at bytes refl two
  enough (suc m) (suc n) at bytes one two =
      after_front (size bytes) m n at bytes refl
      (λ k next fits. enough m n next (drop k bytes)
      (omega (arith, one, fits.some, fits.fits, length-drop k bytes)) (omega (arith, two, fits.some, fits.fits, length-drop k bytes)))

  pub pieces_some : (at n : ℕ) (bytes : List ℕ) → size bytes ≡ Some n
      → pieces_text size shown at bytes ≡ shown at (take n bytes) ++ pieces_text size shown (at + n) (drop n bytes)
  pieces_some at n bytes is =
      let fits = within n bytes is in
      let others = length bytes - 1 in
      let rest = drop n bytes in
      ap (λ k. Up k at bytes) (let e : length bytes ≡ suc others = omega (arith, fits.some, fits.fits) in e)
      ∙ one_more size shown nameless nameless (suc others) n at bytes is
      ∙ ap (λ (l : List ℕ). shown at (take n bytes) ++ l)
      (enough (suc others - 1) (length rest) (at + n) rest (omega (arith, fits.some, fits.fits, length-drop n bytes)) (omega arith))

  -- the next structure was written
  pub piece_goes_on : (at n : ℕ) (front : Option ℕ) (rest piece more old now new : List ℕ) → front ≡ size rest → front ≡ Some n
      → piece ≡ take n rest → more ≡ drop n rest → now ++ pieces_text size shown at rest ≡ old
      → new ≡ now ++ shown at piece → new ++ pieces_text size shown (at + n) more ≡ old
  piece_goes_on at n front rest piece more old now new found is one two before added =
      let others = pieces_text size shown (at + n) (drop n rest) in
      let said = shown at (take n rest) in
      ap (λ (l : List ℕ). new ++ pieces_text size shown (at + n) l) two
      ∙ ap (λ (l : List ℕ). l ++ others) (added ∙ ap (λ (l : List ℕ). now ++ shown at l) one)
      ∙ append_assoc now said others
      ∙ ap (λ (l : List ℕ). now ++ l) (sym (pieces_some at n rest (sym found ∙ is)))
      ∙ before

-- ---- the structures of a list

module _ {X : Type 0} (size : SizeOf) (one none : OfBytes X) where
  -- what was shown of a list so far: `left` structures follow
  abbrev pub Goes : ℕ → ℕ → List ℕ → List X → ℕ → ℕ → List ℕ → List X → Type 0
  Goes count start bytes old left at rest now =
      (after : OfBytes X) → old ++ pieces_then count size one none after start bytes ≡ now ++ pieces_then left size one none after (start + at) rest

  pub goes_on : (count start : ℕ) (bytes : List ℕ) (old : List X) (left at n : ℕ) (rest piece more : List ℕ) (now new : List X)
      → Goes count start bytes old left at rest now
      → next_size left size rest ≡ Some n → piece ≡ take n rest → more ≡ drop n rest → new ≡ now ++ one (start + at) piece
      → Goes count start bytes old (left - 1) (at + n) more new
  goes_on count start bytes old left at n rest piece more now new goes is first second added after =
      let others = pieces_then (left - 1) size one none after (start + at + n) (drop n rest) in
      goes after
      ∙ ap (λ (l : List X). now ++ l) (one_more size one none after left n (start + at) rest is)
      ∙ sym (append_assoc now (one (start + at) (take n rest)) others)
      ∙ ap (λ (l : List X). l ++ others) (sym (added ∙ ap (λ (l : List ℕ). now ++ one (start + at) l) first))
      ∙ ap (λ (k : ℕ). new ++ pieces_then (left - 1) size one none after k (drop n rest)) (let e : start + at + n ≡ start + (at + n) = omega arith in e)
      ∙ ap (λ (l : List ℕ). new ++ pieces_then (left - 1) size one none after (start + (at + n)) l) (sym second)

  -- all were shown
  pub goes_through : (count start : ℕ) (bytes : List ℕ) (old : List X) (left at : ℕ) (rest : List ℕ) (now : List X)
      → Goes count start bytes old left at rest now → left ≡ 0 → rest ≡ drop at bytes
      → (after : OfBytes X) → old ++ pieces_then count size one none after start bytes ≡ now ++ after (start + at) (drop at bytes)
  goes_through count start bytes old left at rest now goes done back after =
      goes after
      ∙ ap (λ (k : ℕ). now ++ pieces_then k size one none after (start + at) rest) done
      ∙ ap (λ (l : List ℕ). now ++ after (start + at) l) back

  -- none begins the bytes that are left
  pub goes_short : (count start : ℕ) (bytes : List ℕ) (old : List X) (left at : ℕ) (rest : List ℕ) (now new : List X)
      → Goes count start bytes old left at rest now → 1 ≤ left → next_size left size rest ≡ None → new ≡ now ++ none (start + at) rest
      → (after : OfBytes X) → old ++ pieces_then count size one none after start bytes ≡ new
  goes_short count start bytes old left at rest now new goes some is added after =
      goes after ∙ ap (λ (l : List X). now ++ l) (no_more size one none after left (start + at) rest some is) ∙ sym added
