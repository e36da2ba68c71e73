-- The lines of two lists of fields.
use Rattle.std.proofs.Common.{◌≡◌, ℕ, zero, suc, ◌+◌, ◌-◌, ◌<◌, ◌≤◌, List, [], ◌∷◌, ◌++◌, length, map, take, get_or, Bool, true, false, Bor, refl, sym, ap, ◌∙◌, arith, append_assoc, inl, inr}
use Rattle.std.specs.Prelude.{Option, Some, None, ◌⊎◌, IfSome, nat_lt}
use Rattle.std.specs.List.{slice_get}
use Rattle.std.specs.Option.{is_some, option_copied, option_map}
use Rattle.std.proofs.lemmas.List.{append-nil, length-map, take-map}
use Rattle.std.proofs.lemmas.Option.{slice_get-map, slice_get-get_or, slice_get_read, slice_get_past}
use Rattle.std.proofs.lemmas.Bool.Decides.{nat_tests}
use Rattle.acpi_rules.specs.Difference.{is_same, only_first, only_second, both, either, lines, same_or, same_before}
use Rattle.acpi_rules.specs.Field.{Field}

-- ---- one field more

take_none : (n : ℕ) → take {A = Field} n [] ≡ []
take_none zero = refl
take_none (suc n) = refl

lines_suc : (i : ℕ) (xs ys : List Field) → lines (take (suc i) xs) (take (suc i) ys) ≡ lines (take i xs) (take i ys) ++ either (slice_get xs i) (slice_get ys i)
lines_suc zero [] [] = refl
lines_suc zero [] (y ∷ ys) = append-nil (only_second y)
lines_suc zero (x ∷ xs) [] = append-nil (only_first x)
lines_suc zero (x ∷ xs) (y ∷ ys) = append-nil (both x y)
lines_suc (suc i) [] [] = refl
lines_suc (suc i) [] (y ∷ ys) =
    let more : lines [] (take (suc i) ys) ≡ lines [] (take i ys) ++ either None (slice_get ys i)
    = lines_suc i [] ys ∙ ap (λ (t : List Field). lines t (take i ys) ++ either None (slice_get ys i)) (take_none i) in
    ap (λ t. only_second y ++ t) more ∙ sym (append_assoc (only_second y) (lines [] (take i ys)) (either None (slice_get ys i)))
lines_suc (suc i) (x ∷ xs) [] =
    let more : lines (take (suc i) xs) [] ≡ lines (take i xs) [] ++ either (slice_get xs i) None
    = lines_suc i xs [] ∙ ap (λ (t : List Field). lines (take i xs) t ++ either (slice_get xs i) None) (take_none i) in
    ap (λ t. only_first x ++ t) more ∙ sym (append_assoc (only_first x) (lines (take i xs) []) (either (slice_get xs i) None))
lines_suc (suc i) (x ∷ xs) (y ∷ ys) =
    ap (λ t. both x y ++ t) (lines_suc i xs ys)
    ∙ sym (append_assoc (both x y) (lines (take i xs) (take i ys)) (either (slice_get xs i) (slice_get ys i)))

pub lines_more : (i : ℕ) (xs ys : List Field) (front old new : List ℕ) → old ≡ front ++ lines (take i xs) (take i ys)
    → new ≡ old ++ either (slice_get xs i) (slice_get ys i) → new ≡ front ++ lines (take (i + 1) xs) (take (i + 1) ys)
lines_more i xs ys front old new before one =
    let next : i + 1 ≡ suc i = omega arith in
    let more : lines (take (i + 1) xs) (take (i + 1) ys) ≡ lines (take i xs) (take i ys) ++ either (slice_get xs i) (slice_get ys i)
    = ap (λ n. lines (take n xs) (take n ys)) next ∙ lines_suc i xs ys in
    one ∙ ap (λ t. t ++ either (slice_get xs i) (slice_get ys i)) before
    ∙ append_assoc front (lines (take i xs) (take i ys)) (either (slice_get xs i) (slice_get ys i)) ∙ ap (λ t. front ++ t) (sym more)

less : (i n : ℕ) → nat_lt i n ≡ true → i < n
less i n is = grind (arith, nat_tests, is)

not_less : (i n : ℕ) → nat_lt i n ≡ false → n ≤ i
not_less i n is = grind (arith, nat_tests, is)

-- what a slice has at an index
pub got_is : {X : Type 0} (xs : List X) (i : ℕ) (r : Option (Bor X)) → is_some r ≡ nat_lt i (length xs) → IfSome r (λ x. x.now ≡ get_or xs i x.now)
    → option_copied r ≡ slice_get xs i
got_is xs i None is at = sym (slice_get_past xs i (not_less i (length xs) (sym is)))
got_is xs i (Some x) is at = sym (slice_get_read xs (length xs) i x.now refl (less i (length xs) (sym is)) at)

-- the same by what both slices have at an index
pub lines_with : {X : Type 0} (f : X → Field) (us vs : List X) (i : ℕ) (x y : Option X) (front old new : List ℕ) → x ≡ slice_get us i → y ≡ slice_get vs i
    → old ≡ front ++ lines (take i (map f us)) (take i (map f vs)) → new ≡ old ++ either (option_map f x) (option_map f y)
    → new ≡ front ++ lines (take (i + 1) (map f us)) (take (i + 1) (map f vs))
lines_with f us vs i x y front old new x_is y_is before one =
    lines_more i (map f us) (map f vs) front old new before
    (one ∙ ap (λ o. old ++ either o (option_map f y)) (ap (option_map f) x_is ∙ sym (slice_get-map f us i))
    ∙ ap (λ o. old ++ either (slice_get (map f us) i) o) (ap (option_map f) y_is ∙ sym (slice_get-map f vs i)))

-- ---- the same fields at the ends

module _ {X : Type 0} (f : X → Field) where
  before_end : (us : List X) (n : ℕ) (d : X) → n < length us
      → slice_get (map f us) (length (map f us) - (n + 1)) ≡ Some (f (get_or us (length us - 1 - n) d))
  before_end us n d inside =
      let i = length us - 1 - n in
      let at : length (map f us) - (n + 1) ≡ i = omega (arith, length-map us f) in
      ap (λ k. slice_get (map f us) k) at ∙ slice_get-map f us i ∙ ap (option_map f) (slice_get-get_or us i d (omega (arith, inside)))

  pub same_is : (us vs : List X) (n : ℕ) (x y : X) (v : Bool) → n < length us → n < length vs
      → v ≡ is_same (f (get_or us (length us - 1 - n) x)) (f (get_or vs (length vs - 1 - n) y)) → same_before (map f us) (map f vs) n ≡ v
  same_is us vs n x y v in_x in_y test =
      ap (λ o. same_or o (slice_get (map f vs) (length (map f vs) - (n + 1)))) (before_end us n x in_x)
      ∙ ap (λ o. same_or (Some (f (get_or us (length us - 1 - n) x))) o) (before_end vs n y in_y) ∙ sym test

  pub lines_cut : (us vs : List X) (n : ℕ) (front text : List ℕ) → front ≡ []
      → text ≡ front ++ lines (map f (take (length us - n) us)) (map f (take (length vs - n) vs))
      → text ≡ lines (take (length (map f us) - n) (map f us)) (take (length (map f vs) - n) (map f vs))
  lines_cut us vs n front text none is =
      let cut : (l : List X) → map f (take (length l - n) l) ≡ take (length (map f l) - n) (map f l)
      = λ l. sym (take-map f (length l - n) l) ∙ ap (λ k. take (k - n) (map f l)) (sym (length-map l f)) in
      is ∙ ap (λ t. t ++ lines (map f (take (length us - n) us)) (map f (take (length vs - n) vs))) none
      ∙ ap (λ t. lines t (map f (take (length vs - n) vs))) (cut us) ∙ ap (λ t. lines (take (length (map f us) - n) (map f us)) t) (cut vs)

last_or : (k n : ℕ) → k < n + 1 → (k < n) ⊎ (k ≡ n)
last_or k n within = grind (arith, within)

pub same_more : (xs ys : List Field) (n : ℕ) → ((k : ℕ) → k < n → same_before xs ys k ≡ true) → same_before xs ys n ≡ true
    → (k : ℕ) → k < n + 1 → same_before xs ys k ≡ true
same_more xs ys n before here k within = elim (last_or k n within) [
  | inl less ↦ before k less
  | inr is ↦ ap (λ m. same_before xs ys m) is ∙ here
]
