-- The texts of terms one after another.
use Rattle.std.proofs.Common.{◌≡◌, ℕ, ◌+◌, ◌<◌, ◌≤◌, Bool, true, false, List, [], ◌∷◌, ◌++◌, length, get_or, drop, refl, sym, ap, ◌∙◌, append_assoc}
use Rattle.std.proofs.lemmas.List.{append-nil}
use Rattle.std.specs.Prelude.{if◌then◌else◌}
use Rattle.acpi_read.proofs.Texts.{dropped, past, after_two}
use Rattle.acpi_term.specs.declared.term.Term.{Term}
use Rattle.acpi_term.specs.Tree.{Head, Terms, end, term}
use Rattle.acpi_term.specs.View.{view, views, single, IsApart}
use Rattle.acpi_asl.specs.Namespace.{lines_of, has_inside, deeper, names}
use Rattle.acpi_asl.specs.Objects.{objects_of, scope_in, objects}

-- A text of terms: that of each head with its children at a place, and then that of the children, if they make names. `inner` is
-- their place.
pub record IsText {D : Type 0} (text : D → Terms → List ℕ) (own : D → Head → Terms → List ℕ) (inner : D → Head → D) : Type 0 where
  pub none : (d : D) → text d end ≡ []
  pub step : (d : D) (h : Head) (w : ℕ) (children others : Terms) → text d (term h w children others)
      ≡ (own d h children ++ (if has_inside h then text (inner d h) children else [])) ++ text d others

pub lines_are_text : IsText names lines_of (λ d h. d + deeper h)
lines_are_text = record { none = λ d. refl; step = λ d h w children others. refl }

pub objects_are_text : IsText objects objects_of scope_in
objects_are_text = record { none = λ d. refl; step = λ d h w children others. refl }

module _ {D : Type 0} (text : D → Terms → List ℕ) (own : D → Head → Terms → List ℕ) (inner : D → Head → D) (is : IsText text own inner) where
  abbrev one : D → Term → List ℕ
  one d t = own d (view t).0 (view t).2 ++ (if has_inside (view t).0 then text (inner d (view t).0) (view t).2 else [])

  one_is : (d : D) (t : Term) → text d (single (view t)) ≡ one d t
  one_is d t = is.step d (view t).0 (view t).1 (view t).2 end ∙ ap (λ (l : List ℕ). one d t ++ l) (is.none d) ∙ append-nil (one d t)

  step_here : (d : D) (t : Term) (ts : List Term) → text d (views (t ∷ ts)) ≡ text d (single (view t)) ++ text d (views ts)
  step_here d t ts =
      is.step d (view t).0 (view t).1 (view t).2 (views ts) ∙ ap (λ (l : List ℕ). l ++ text d (views ts)) (sym (one_is d t))

  text_both : (d : D) (a b : List Term) → text d (views (a ++ b)) ≡ text d (views a) ++ text d (views b)
  text_both d [] b = ap (λ (l : List ℕ). l ++ text d (views b)) (sym (is.none d))
  text_both d (t ∷ a) b =
      let here = text d (single (view t)) in
      step_here d t (a ++ b) ∙ ap (λ (l : List ℕ). here ++ l) (text_both d a b) ∙ sym (append_assoc here (text d (views a)) (text d (views b)))
      ∙ ap (λ (l : List ℕ). l ++ text d (views b)) (sym (step_here d t a))

  -- a loop over terms goes on by one
  pub text_on : (d : D) (ts : List Term) (i : ℕ) (t : Term) (old now new : List ℕ) → now ++ text d (views (drop i ts)) ≡ old ++ text d (views ts)
      → i < length ts → t ≡ get_or ts i t → new ≡ now ++ text d (single (view t)) → new ++ text d (views (drop (i + 1) ts)) ≡ old ++ text d (views ts)
  text_on d ts i t old now new so_far inside at added =
      let o = drop (i + 1) ts in
      ap (λ (l : List ℕ). l ++ text d (views o)) added ∙ append_assoc now (text d (single (view t))) (text d (views o))
      ∙ ap (λ (l : List ℕ). now ++ l) (sym (step_here d t o)) ∙ ap (λ (l : List Term). now ++ text d (views l)) (sym (dropped ts i t inside at)) ∙ so_far

  -- and ends
  pub text_done : (d : D) (ts : List Term) (i : ℕ) (old now : List ℕ) → now ++ text d (views (drop i ts)) ≡ old ++ text d (views ts) → length ts ≤ i
      → now ≡ old ++ text d (views ts)
  text_done d ts i old now so_far all =
      sym (append-nil now) ∙ ap (λ (l : List ℕ). now ++ l) (sym (is.none d)) ∙ ap (λ (l : List Term). now ++ text d (views l)) (sym (past ts i all)) ∙ so_far

  module _ (d : D) (t : Term) (h : Head) (w : ℕ) (a b : List Term) (apart : IsApart t h w a b) (inside : Bool) (inside_is : inside ≡ has_inside h) where
    own_here : (old more : List ℕ) → more ≡ old ++ own d h (views (a ++ b)) → more ≡ old ++ own d (view t).0 (view t).2
    own_here old more added =
        added ∙ ap (λ (c : Terms). old ++ own d h c) apart.children ∙ ap (λ (k : Head). old ++ own d k (view t).2) apart.head

    inside_here : inside ≡ has_inside (view t).0
    inside_here = inside_is ∙ ap has_inside apart.head

    -- a term with nothing inside
    pub alone_written : (old more : List ℕ) → inside ≡ false → more ≡ old ++ own d h (views (a ++ b)) → more ≡ old ++ text d (single (view t))
    alone_written old more alone added =
        let v = view t in
        own_here old more added
        ∙ ap (λ (l : List ℕ). old ++ l) (sym (append-nil _))
        ∙ ap (λ (k : Bool). old ++ (own d v.0 v.2 ++ (if k then text (inner d v.0) v.2 else []))) (sym alone ∙ inside_here)
        ∙ ap (λ (l : List ℕ). old ++ l) (sym (one_is d t))

    -- and one with names inside
    pub around_written : (e : D) → e ≡ inner d h → (old more two new : List ℕ) → inside ≡ true → more ≡ old ++ own d h (views (a ++ b))
        → two ≡ more ++ text e (views a) → new ≡ two ++ text e (views b) → new ≡ old ++ text d (single (view t))
    around_written e e_is old more two new some added first others =
        let v = view t in
        let both : new ≡ more ++ text e v.2 =
        after_two more (text e (views a)) (text e (views b)) two new first others
        ∙ ap (λ (l : List ℕ). more ++ l) (sym (text_both e a b)) ∙ ap (λ (c : Terms). more ++ text e c) apart.children
        in
        let place : e ≡ inner d v.0 = e_is ∙ ap (λ (k : Head). inner d k) apart.head in
        after_two old (own d v.0 v.2) (text e v.2) more new (own_here old more added) both
        ∙ ap (λ (k : D). old ++ (own d v.0 v.2 ++ text k v.2)) place
        ∙ ap (λ (k : Bool). old ++ (own d v.0 v.2 ++ (if k then text (inner d v.0) v.2 else []))) (sym some ∙ inside_here)
        ∙ ap (λ (l : List ℕ). old ++ l) (sym (one_is d t))
