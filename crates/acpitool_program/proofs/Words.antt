-- The first word, and those after it.
use Rattle.std.proofs.Common.{◌≡◌, ◌≤◌, ◌<◌, ◌-◌, List, [], ◌∷◌, length, map, take, drop, sym, ap, ◌∙◌, arith, get_or}
use Rattle.std.proofs.lemmas.List.{take_all}

-- where the first word has a text
pub front_word : {A B : Type 0} (f : A → B) (xs : List A) (x : A) (t : B) → f x ≡ t → x ≡ get_or xs 0 x → 1 ≤ length xs
    → map f xs ≡ t ∷ map f (drop 1 xs)
front_word f [] x t has is some = absurd (omega (arith, some))
front_word f (y ∷ ys) x t has is some = ap (λ z. z ∷ map f ys) (ap f (sym is) ∙ has)

pub front_of_all : {A B : Type 0} (f : A → B) (xs : List A) (x : A) (t : B) → f x ≡ t → x ≡ get_or xs 0 x → 1 ≤ length xs
    → map f xs ≡ t ∷ map f (take (length xs - 1) (drop 1 xs))
front_of_all f [] x t has is some = absurd (omega (arith, some))
front_of_all f (y ∷ ys) x t has is some = ap (λ z. z ∷ map f ys) (ap f (sym is) ∙ has) ∙ ap (λ zs. t ∷ map f zs) (sym (take_all (length (y ∷ ys) - 1) ys (omega arith)))

-- the third word, which has a text
pub third_word : {A B : Type 0} (f : A → B) (xs : List A) (x : A) (t : B) → t ≡ f x → x ≡ get_or xs 2 x → 3 ≤ length xs
    → (first : B) × (second : B) × (others : List B) × (map f xs ≡ first ∷ second ∷ t ∷ others)
third_word f [] x t has is some = absurd (omega (arith, some))
third_word f (a ∷ []) x t has is some = absurd (omega (arith, some))
third_word f (a ∷ b ∷ []) x t has is some = absurd (omega (arith, some))
third_word f (a ∷ b ∷ y ∷ ys) x t has is some =
    (f a, f b, map f ys, ap (λ z. f a ∷ f b ∷ z ∷ map f ys) (ap f (sym is) ∙ sym has))

-- two words, of which the last has a text
pub two_are : {A B : Type 0} (f : A → B) (xs : List A) (x : A) (t : B) → t ≡ f x → x ≡ get_or xs 1 x → 2 ≤ length xs → length xs < 3
    → (first : B) × (map f xs ≡ first ∷ t ∷ [])
two_are f [] x t has is some few = absurd (omega (arith, some))
two_are f (a ∷ []) x t has is some few = absurd (omega (arith, some))
two_are f (a ∷ y ∷ []) x t has is some few = (f a, ap (λ z. f a ∷ z ∷ []) (ap f (sym is) ∙ sym has))
two_are f (a ∷ y ∷ z ∷ ys) x t has is some few = absurd (omega (arith, few))

-- three words, of which the last has a text
pub three_are : {A B : Type 0} (f : A → B) (xs : List A) (x : A) (t : B) → t ≡ f x → x ≡ get_or xs 2 x → 3 ≤ length xs → length xs < 4
    → (first : B) × (second : B) × (map f xs ≡ first ∷ second ∷ t ∷ [])
three_are f [] x t has is some few = absurd (omega (arith, some))
three_are f (a ∷ []) x t has is some few = absurd (omega (arith, some))
three_are f (a ∷ b ∷ []) x t has is some few = absurd (omega (arith, some))
three_are f (a ∷ b ∷ y ∷ []) x t has is some few = (f a, f b, ap (λ z. f a ∷ f b ∷ z ∷ []) (ap f (sym is) ∙ sym has))
three_are f (a ∷ b ∷ y ∷ z ∷ ys) x t has is some few = absurd (omega (arith, few))

-- the fourth word, which has a text
pub fourth_word : {A B : Type 0} (f : A → B) (xs : List A) (x : A) (t : B) → t ≡ f x → x ≡ get_or xs 3 x → 4 ≤ length xs
    → (first : B) × (second : B) × (third : B) × (others : List B) × (map f xs ≡ first ∷ second ∷ third ∷ t ∷ others)
fourth_word f [] x t has is some = absurd (omega (arith, some))
fourth_word f (a ∷ []) x t has is some = absurd (omega (arith, some))
fourth_word f (a ∷ b ∷ []) x t has is some = absurd (omega (arith, some))
fourth_word f (a ∷ b ∷ d ∷ []) x t has is some = absurd (omega (arith, some))
fourth_word f (a ∷ b ∷ d ∷ y ∷ ys) x t has is some =
    (f a, f b, f d, map f ys, ap (λ z. f a ∷ f b ∷ f d ∷ z ∷ map f ys) (ap f (sym is) ∙ sym has))

-- the second word
pub second_word : {A B : Type 0} (f : A → B) (xs : List A) (x : A) (t : B) → t ≡ f x → x ≡ get_or xs 1 x → 2 ≤ length xs
    → (a : B) × (others : List B) × (map f xs ≡ a ∷ t ∷ others)
second_word f [] x t has is some = absurd (omega (arith, some))
second_word f (a ∷ []) x t has is some = absurd (omega (arith, some))
second_word f (a ∷ y ∷ ys) x t has is some = (f a, map f ys, ap (λ z. f a ∷ z ∷ map f ys) (ap f (sym is) ∙ sym has))

-- the second word, and the words after it
pub two_front : {A B : Type 0} (f : A → B) (xs : List A) (x : A) (t : B) → t ≡ f x → x ≡ get_or xs 1 x → 2 ≤ length xs
    → (a : B) × (map f xs ≡ a ∷ t ∷ map f (take (length xs - 2) (drop 2 xs)))
two_front f [] x t has is some = absurd (omega (arith, some))
two_front f (a ∷ []) x t has is some = absurd (omega (arith, some))
two_front f (a ∷ y ∷ ys) x t has is some = (
  f a,
  ap (λ z. f a ∷ z ∷ map f ys) (ap f (sym is) ∙ sym has)
      ∙ ap (λ zs. f a ∷ t ∷ map f zs) (sym (take_all (length (a ∷ y ∷ ys) - 2) ys (omega arith))),
)
