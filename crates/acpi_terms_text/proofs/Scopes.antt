-- The numbers of arguments in scopes.
use Rattle.std.proofs.Common.{◌≡◌, ℕ, zero, suc, ◌+◌, ◌-◌, ◌<◌, ◌≤◌, ◌||◌, Bool, true, false, List, [], ◌∷◌, ◌++◌, length, map, get_or, drop, subst, refl, sym, ap, ◌∙◌, arith}
use Rattle.std.proofs.Math.ListN.{set}
use Rattle.acpi_read.proofs.Texts.{dropped}
use Rattle.acpi_term.proofs.Depths.{others_shallow, element_shallow}
use Rattle.acpi_term.specs.Tree.{Head, Terms, end, term, depth}
use Rattle.acpi_term.specs.View.{view, views, single, IsApart}
use Rattle.acpi_term.specs.declared.term.Term.{Term}
use Rattle.acpi_term.specs.Arity.{with_all}
use Rattle.acpi_terms_text.specs.declared.objects.Object.{Object}
use Rattle.acpi_terms_text.specs.Objects.{inside, Callee, callee_by}
use Rattle.acpi_terms_text.specs.Scoped.{here, made_in, near, may_name, any, have_name, Body, space, code, other, body, OfBody, AreScoped}
use Rattle.acpi_terms_text.specs.Path.{parent}
use Rattle.acpi_terms_text.proofs.Walks.{both_added}

abbrev Counts : Type 0
Counts = List (List ℕ × ℕ)

or_false : (a : Bool) → (a || false) ≡ a
or_false true = refl
or_false false = refl

or_joined : (a b c : Bool) → (a || (b || c)) ≡ ((a || b) || c)
or_joined true b c = refl
or_joined false b c = refl

-- terms have a name of one of two lists
pub name_of_both : (terms : Terms) (a b : Counts) → have_name terms (a ++ b) ≡ (have_name terms a || have_name terms b)
name_of_both terms [] b = refl
name_of_both terms (x ∷ a) b =
    let one = any (may_name x.0) terms in
    ap (λ (t : Bool). one || t) (name_of_both terms a b) ∙ or_joined one (have_name terms a) (have_name terms b)

-- ---- terms that have a head

pub any_first : (p : Head → Bool) (t : Term) (ts : List Term) → any p (views (t ∷ ts)) ≡ (any p (single (view t)) || any p (views ts))
any_first p t ts =
    let one = p (view t).0 in
    let inner = any p (view t).2 in
    ap (λ (b : Bool). one || b) (ap (λ (b : Bool). b || any p (views ts)) (sym (or_false inner))) ∙ or_joined one (inner || false) (any p (views ts))

any_both : (p : Head → Bool) (a b : List Term) → any p (views (a ++ b)) ≡ (any p (views a) || any p (views b))
any_both p [] b = refl
any_both p (t ∷ a) b =
    let one = any p (single (view t)) in
    any_first p t (a ++ b) ∙ ap (λ (l : Bool). one || l) (any_both p a b) ∙ or_joined one (any p (views a)) (any p (views b))
    ∙ ap (λ (l : Bool). l || any p (views b)) (sym (any_first p t a))

-- of the terms from i on: of the term i, and of those after it
pub any_split : (p : Head → Bool) (ts : List Term) (i : ℕ) (t : Term) → i < length ts → t ≡ get_or ts i t
    → any p (views (drop i ts)) ≡ (any p (single (view t)) || any p (views (drop (i + 1) ts)))
any_split p ts i t inside is =
    ap (λ (l : List Term). any p (views l)) (dropped ts i t inside is) ∙ any_first p t (drop (i + 1) ts)

-- of a term, and of its children in two lists
module _ (p : Head → Bool) (t : Term) (h : Head) (w : ℕ) (a b : List Term) (apart : IsApart t h w a b) where
  any_over : (p h || (any p (views a) || any p (views b))) ≡ any p (single (view t))
  any_over =
      ap (λ (l : Bool). p h || l) (sym (any_both p a b) ∙ ap (any p) apart.children ∙ sym (or_false (any p (view t).2)))
      ∙ ap (λ (k : Head). p k || (any p (view t).2 || false)) apart.head

  any_after : (r : Bool) → p h ≡ false → r ≡ (any p (views a) || any p (views b)) → r ≡ any p (single (view t))
  any_after r none is = is ∙ ap (λ (l : Bool). l || (any p (views a) || any p (views b))) (sym none) ∙ any_over

  pub any_in_first : p h ≡ false → any p (views a) ≡ true → true ≡ any p (single (view t))
  any_in_first none holds = any_after true none (ap (λ (l : Bool). l || any p (views b)) (sym holds))

  pub any_in_others : (r : Bool) → p h ≡ false → any p (views a) ≡ false → r ≡ any p (views b) → r ≡ any p (single (view t))
  any_in_others r none first is = any_after r none (is ∙ ap (λ (l : Bool). l || any p (views b)) (sym first))

-- ---- loops over objects

-- what is said of the objects from i on is what is said of the object i and of those after it
pub named_split : (terms : Terms) (scope : List ℕ) (ms : List Object) (i : ℕ) (m : Object) → i < length ms → m ≡ get_or ms i m
    → have_name terms (made_in scope (map callee_by (drop i ms)))
    ≡ (have_name terms (here scope (callee_by m)) || have_name terms (made_in scope (map callee_by (drop (i + 1) ms))))
named_split terms scope ms i m inside is =
    ap (λ (l : List Object). have_name terms (made_in scope (map callee_by l))) (dropped ms i m inside is)
    ∙ name_of_both terms (here scope (callee_by m)) (made_in scope (map callee_by (drop (i + 1) ms)))

-- ---- scopes around a scope

module _ (all : List Callee) where
  near_more : (n : ℕ) (scope : List ℕ) → 0 < n → near n scope all ≡ made_in scope all ++ near (n - 1) (parent scope) all
  near_more zero scope some = absurd (omega (arith, some))
  near_more (suc n) scope some = let same : n ≡ suc n - 1 = omega arith in ap (λ (k : ℕ). made_in scope all ++ near k (parent scope) all) same

  pub near_added : (n : ℕ) (scope inner : List ℕ) (old one new : Counts) → 0 < n → inner ≡ parent scope → one ≡ with_all old (made_in scope all)
      → new ≡ with_all one (near (n - 1) inner all) → new ≡ with_all old (near n scope all)
  near_added n scope inner old one new some into p q =
      let rest = near (n - 1) (parent scope) all in
      q ∙ ap (λ (s : List ℕ). with_all one (near (n - 1) s all)) into ∙ ap (λ (l : Counts). with_all l rest) p
      ∙ sym (both_added old (made_in scope all) rest) ∙ ap (with_all old) (sym (near_more n scope some))

  pub named_first : (terms : Terms) (n : ℕ) (scope : List ℕ) (found : Bool) → found ≡ have_name terms (made_in scope all) → found ≡ true
      → found ≡ have_name terms (near n scope all)
  named_first terms zero scope found is holds = is
  named_first terms (suc n) scope found is holds =
      holds ∙ ap (λ (t : Bool). t || have_name terms (near n (parent scope) all)) (sym holds ∙ is) ∙ sym (name_of_both terms (made_in scope all) (near n (parent scope) all))

  pub named_after : (terms : Terms) (n : ℕ) (scope inner : List ℕ) (first found : Bool) → 0 < n → inner ≡ parent scope
      → first ≡ have_name terms (made_in scope all) → first ≡ false → found ≡ have_name terms (near (n - 1) inner all)
      → found ≡ have_name terms (near n scope all)
  named_after terms n scope inner first found some into is fails p =
      let rest = near (n - 1) (parent scope) all in
      p ∙ ap (λ (s : List ℕ). have_name terms (near (n - 1) s all)) into ∙ ap (λ (t : Bool). t || have_name terms rest) (sym fails ∙ is)
      ∙ sym (name_of_both terms (made_in scope all) rest) ∙ ap (have_name terms) (sym (near_more n scope some))

-- ---- terms in scopes

module _ (stated : Counts) (all differing : List Callee) (own : Counts) (scope : List ℕ) where
  -- some terms are in a scope, and those after them are as they were
  abbrev pub AreDone : ℕ → List Term → List Term → Type 0
  AreDone zero old now = now ≡ old
  AreDone (suc i) [] [] = Unit {0}
  AreDone (suc i) [] (y ∷ now) = ⊥
  AreDone (suc i) (x ∷ old) [] = ⊥
  AreDone (suc i) (x ∷ old) (y ∷ now) = AreScoped stated all differing own scope (single (view x)) (single (view y)) × AreDone i old now

  done_next : (i : ℕ) (old now : List Term) (x y : Term) → i < length now → x ≡ get_or now i x → AreDone i old now
      → AreScoped stated all differing own scope (single (view x)) (single (view y)) → AreDone (suc i) old (set now i y)
  done_next i old [] x y inside is done one = absurd (omega (arith, inside))
  done_next zero old (z ∷ now) x y inside is done one =
      let this : AreScoped stated all differing own scope (single (view z)) (single (view y)) =
      subst (λ (t : Term). AreScoped stated all differing own scope (single (view t)) (single (view y))) is one
      in
      subst (λ (l : List Term). AreDone 1 l (y ∷ now)) done (this, refl)
  done_next (suc i) [] (z ∷ now) x y inside is done one = absurd done
  done_next (suc i) (a ∷ old) (z ∷ now) x y inside is done one = (done.0, done_next i old now x y (omega (arith, inside)) is done.1 one)

  -- one more
  pub done_on : (i : ℕ) (old now : List Term) (x y : Term) → i < length now → x ≡ get_or now i x → AreDone i old now
      → AreScoped stated all differing own scope (single (view x)) (single (view y)) → AreDone (i + 1) old (set now i y)
  done_on i old now x y inside is done one = let after : suc i ≡ i + 1 = omega arith in subst (λ (k : ℕ). AreDone k old (set now i y)) after (done_next i old now x y inside is done one)

  -- all of them
  pub done_all : (i : ℕ) (old now : List Term) → length now ≤ i → AreDone i old now → AreScoped stated all differing own scope (views old) (views now)
  done_all zero old [] past done = subst (λ (l : List Term). AreScoped stated all differing own scope (views l) end) done tt
  done_all zero old (z ∷ now) past done = absurd (omega (arith, past))
  done_all (suc i) [] [] past done = tt
  done_all (suc i) [] (z ∷ now) past done = absurd done
  done_all (suc i) (a ∷ old) [] past done = absurd done
  done_all (suc i) (a ∷ old) (z ∷ now) past done = (done.0.0, done.0.1, done.0.2, done_all i old now (omega (arith, past)) done.1)

  -- the next term is one of those that there were
  pub done_shallow : (i : ℕ) (old now : List Term) (x : Term) → i < length now → x ≡ get_or now i x → AreDone i old now
      → depth (single (view x)) ≤ depth (views old)
  done_shallow zero old now x inside is done =
      subst (λ (l : List Term). depth (single (view x)) ≤ depth (views l)) done (element_shallow now 0 x inside is)
  done_shallow (suc i) old [] x inside is done = absurd (omega (arith, inside))
  done_shallow (suc i) [] (z ∷ now) x inside is done = absurd done
  done_shallow (suc i) (a ∷ old) (z ∷ now) x inside is done =
      let deeper = done_shallow i old now x (omega (arith, inside)) is done.1 in
      let others = others_shallow (a ∷ []) old in
      omega (arith, deeper, others)

-- ---- terms that stay

of_body : {A B C : Type 0} (b : Body) → A → B → C → OfBody b A B C
of_body space a b c = a
of_body code a b c = b
of_body other a b c = c

module _ (stated own : Counts) where
  same_scoped : (differing : List Callee) (scope : List ℕ) (ts : Terms) → AreScoped stated [] differing own scope ts ts
  same_scoped differing scope end = tt
  same_scoped differing scope (term h w c others) =
      (refl, refl, of_body (body h) (same_scoped differing (inside scope h) c) refl refl, same_scoped differing scope others)

  -- without objects that calls may name
  pub scoped_kept : (scope : List ℕ) (all : List Object) (found differing : List Callee) (ts : Terms) → length all ≡ 0 → map callee_by all ≡ found
      → AreScoped stated found differing own scope ts ts
  scoped_kept scope [] found differing ts none is = rw (sym is) (same_scoped differing scope ts)
  scoped_kept scope (m ∷ all) found differing ts none is = absurd (omega (arith, none))
