use Rattle.std.proofs.Common.{◌≡◌, ℕ, zero, suc, ◌+◌, ◌<◌, Option, Some, None, List, [], ◌∷◌, ◌++◌, length, get_or, take, map, arith, refl, ap, sym, ◌∙◌, add-one}
use Rattle.acpi_input.specs.Stated.{stated_by, joined, all_stated, fitting, stated}
use Rattle.acpi_input.specs.declared.stated.Unstated.{Unstated}
use Rattle.acpi_input.specs.declared.stated.Unstated.TheVariants.{Word, Memory}
use Rattle.acpi_input.specs.Stated.{IsUnstatedWhere}

joined_one : (a : Option (List ℕ × ℕ)) (all : List (List ℕ × ℕ)) (e : List ℕ × ℕ) → a ≡ Some e → Some [] ≡ Some all → joined a (Some []) ≡ Some (all ++ e ∷ [])
joined_one None all e is none = cc
joined_one (Some p) all e is none =
    let same : p ≡ e = cc in
    let empty : [] ≡ all = cc in
    rw (same, ← empty) refl

joined_more : (a : Option (List ℕ × ℕ)) (b b' : Option (List (List ℕ × ℕ))) (all : List (List ℕ × ℕ)) (e : List ℕ × ℕ) → joined a b ≡ Some all → ((rest : List (List ℕ × ℕ)) → b ≡ Some rest → b' ≡ Some (rest ++ e ∷ [])) → joined a b' ≡ Some (all ++ e ∷ [])
joined_more None b b' all e is next = cc
joined_more (Some p) None b' all e is next = cc
joined_more (Some p) (Some rest) b' all e is next =
    let tail : p ∷ rest ≡ all = cc in
    rw (next rest refl, ← tail) refl

none_joined : (a : Option (List ℕ × ℕ)) (b : Option (List (List ℕ × ℕ))) → a ≡ None → joined a b ≡ None
none_joined None b is = refl
none_joined (Some p) b is = cc

joined_none : (a : Option (List ℕ × ℕ)) (b : Option (List (List ℕ × ℕ))) → b ≡ None → joined a b ≡ None
joined_none None b is = refl
joined_none (Some p) b is = rw is refl

next : {A : Type 0} (f : A → List ℕ) (xs : List A) (i : ℕ) (x : A) (all : List (List ℕ × ℕ)) (e : List ℕ × ℕ) → i < length xs → x ≡ get_or xs i x → all_stated (map f (take i xs)) ≡ Some all → stated_by (f x) ≡ Some e → all_stated (map f (take (suc i) xs)) ≡ Some (all ++ e ∷ [])
next f [] i x all e below at is states = absurd (omega arith)
next f (y ∷ ys) zero x all e below at is states =
    joined_one (stated_by (f y)) all e (ap (λ z. stated_by (f z)) (sym at) ∙ states) is
next f (y ∷ ys) (suc i) x all e below at is states =
    let step : (rest : List (List ℕ × ℕ)) → all_stated (map f (take i ys)) ≡ Some rest → all_stated (map f (take (suc i) ys)) ≡ Some (rest ++ e ∷ []) = λ rest was. next f ys i x rest e (omega arith) at was states in
    joined_more (stated_by (f y)) (all_stated (map f (take i ys))) (all_stated (map f (take (suc i) ys))) all e is step

-- one more word that states something
pub more : {A : Type 0} (f : A → List ℕ) (xs : List A) (i : ℕ) (x : A) (all : List (List ℕ × ℕ)) (e : List ℕ × ℕ) → i < length xs → x ≡ get_or xs i x → all_stated (map f (take i xs)) ≡ Some all → stated_by (f x) ≡ Some e → all_stated (map f (take (i + 1) xs)) ≡ Some (all ++ e ∷ [])
more f xs i x all e below at is states = rw add-one (next f xs i x all e below at is states)

-- a word that states nothing
nothing : {A : Type 0} (f : A → List ℕ) (xs : List A) (i : ℕ) (x : A) → i < length xs → x ≡ get_or xs i x → stated_by (f x) ≡ None → all_stated (map f xs) ≡ None
nothing f [] i x below at states = absurd (omega arith)
nothing f (y ∷ ys) zero x below at states =
    none_joined (stated_by (f y)) (all_stated (map f ys)) (ap (λ z. stated_by (f z)) (sym at) ∙ states)
nothing f (y ∷ ys) (suc i) x below at states = joined_none (stated_by (f y)) (all_stated (map f ys)) (nothing f ys i x (omega arith) at states)

-- nothing is stated together where a word states nothing
pub not_stated : {A : Type 0} (f : A → List ℕ) (xs : List A) (i : ℕ) (x : A) (w : List ℕ) → i < length xs → x ≡ get_or xs i x → w ≡ f x → (unstated : Unstated) → IsUnstatedWhere (stated_by w ≡ None) unstated → IsUnstatedWhere (stated (map f xs) ≡ None) unstated
not_stated f xs i x w below at is Word h = ap fitting (nothing f xs i x below at (sym (ap stated_by is) ∙ h))
not_stated f xs i x w below at is Memory h = h
