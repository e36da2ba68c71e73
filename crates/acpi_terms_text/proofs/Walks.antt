-- Walks over terms and their children.
use Rattle.std.proofs.Common.{◌≡◌, ℕ, suc, ◌+◌, ◌-◌, ◌<◌, ◌≤◌, Bool, List, [], ◌∷◌, ◌++◌, false, length, get_or, take, drop, refl, sym, ap, ◌∙◌, append_assoc, arith}
use Rattle.std.proofs.lemmas.List.{append-nil, take_all}
use Rattle.acpi_term.specs.declared.term.Term.{Term}
use Rattle.acpi_term.specs.Arity.{with_new, with_all}
use Rattle.acpi_term.specs.Tree.{Head, Terms}
use Rattle.acpi_term.specs.View.{view, views, single, IsApart}
use Rattle.acpi_read.proofs.Texts.{dropped}
use Rattle.acpi_term.specs.PathText.{name_of_segments}
use Rattle.acpi_terms_text.specs.Objects.{counted, from_each, inside, made, Callee, numbers_of, numbers_from}
use Rattle.acpi_terms_text.specs.Comment.{has_ids, has_size, note}
use Rattle.acpi_terms_text.specs.Woven.{entry_notes, notes}

-- ---- numbers of arguments

abbrev Counts : Type 0
Counts = List (List ℕ × ℕ)

pub both_added : (all a b : Counts) → with_all all (a ++ b) ≡ with_all (with_all all a) b
both_added all [] b = refl
both_added all (x ∷ a) b = both_added (with_new all x) a b

-- of each of a list
pub counts_on : {X : Type 0} (each : List X → Counts) (os : List X) (i : ℕ) (o : X) (one now new whole : Counts) → i < length os
    → o ≡ get_or os i o → each (o ∷ drop (i + 1) os) ≡ one ++ each (drop (i + 1) os) → new ≡ with_all now one
    → with_all now (each (drop i os)) ≡ whole → with_all new (each (drop (i + 1) os)) ≡ whole
counts_on {X} each os i o one now new whole inside is step added before =
    let rest = each (drop (i + 1) os) in
    ap (λ (l : Counts). with_all l rest) added ∙ sym (both_added now one rest) ∙ ap (with_all now) (sym step)
    ∙ ap (λ (l : List X). with_all now (each l)) (sym (dropped os i o inside is)) ∙ before

-- of the segments of a path from each on
each_on : (n : ℕ) (path : List ℕ) → 4 ≤ length path
    → from_each n path ≡ counted n (name_of_segments false path) ++ from_each n (take (length path - 4) (drop 4 path))
each_on n [] some = absurd (omega (arith, some))
each_on n (a ∷ []) some = absurd (omega (arith, some))
each_on n (a ∷ b ∷ []) some = absurd (omega (arith, some))
each_on n (a ∷ b ∷ c ∷ []) some = absurd (omega (arith, some))
each_on n (a ∷ b ∷ c ∷ d ∷ path) some =
    ap (λ (l : List ℕ). counted n (name_of_segments false (a ∷ b ∷ c ∷ d ∷ path)) ++ from_each n l)
    (sym (take_all (length (a ∷ b ∷ c ∷ d ∷ path) - 4) path (omega arith)))

pub each_added : (n : ℕ) (path : List ℕ) (now new whole : Counts) → 4 ≤ length path → new ≡ with_all now (counted n (name_of_segments false path))
    → with_all now (from_each n path) ≡ whole → with_all new (from_each n (take (length path - 4) (drop 4 path))) ≡ whole
each_added n path now new whole some added before =
    let rest = from_each n (take (length path - 4) (drop 4 path)) in
    ap (λ (l : Counts). with_all l rest) added ∙ sym (both_added now (counted n (name_of_segments false path)) rest)
    ∙ ap (with_all now) (sym (each_on n path some)) ∙ before

-- of the numbers from k to 7
numbers_more : (n k : ℕ) (all : List Callee) → k < n → numbers_from (n - k) k all ≡ numbers_of k all ++ numbers_from (n - (k + 1)) (k + 1) all
numbers_more n k all more =
    let left : n - k ≡ suc (n - (k + 1)) = omega (arith, more) in
    let after : suc k ≡ k + 1 = omega arith in
    ap (λ (l : ℕ). numbers_from l k all) left ∙ ap (λ (l : ℕ). numbers_of k all ++ numbers_from (n - (k + 1)) l all) after

pub called_on : (n k : ℕ) (all : List Callee) (now new whole : Counts) → k < n → new ≡ with_all now (numbers_of k all)
    → with_all now (numbers_from (n - k) k all) ≡ whole → with_all new (numbers_from (n - (k + 1)) (k + 1) all) ≡ whole
called_on n k all now new whole more added before =
    let rest = numbers_from (n - (k + 1)) (k + 1) all in
    ap (λ (l : Counts). with_all l rest) added ∙ sym (both_added now (numbers_of k all) rest) ∙ ap (with_all now) (sym (numbers_more n k all more)) ∙ before

pub called_done : (n k : ℕ) (all : List Callee) (now whole : Counts) → n ≤ k → with_all now (numbers_from (n - k) k all) ≡ whole → now ≡ whole
called_done n k all now whole least before =
    let none : 0 ≡ n - k = omega (arith, least) in
    ap (λ (l : ℕ). with_all now (numbers_from l k all)) none ∙ before

-- ---- what terms make

-- if this is what a head with its children makes in a scope
module _ {A : Type 0} (own : List ℕ → Head → Terms → List A) where
  pub made_step : (scope : List ℕ) (t : Term) (ts : List Term) → made own scope (views (t ∷ ts)) ≡ made own scope (single (view t)) ++ made own scope (views ts)
  made_step scope t ts =
      let front = own scope (view t).0 (view t).2 in
      let inner = made own (inside scope (view t).0) (view t).2 in
      ap (λ (l : List A). front ++ (l ++ made own scope (views ts))) (sym (append-nil inner)) ∙ sym (append_assoc front (inner ++ []) (made own scope (views ts)))

  made_both : (scope : List ℕ) (a b : List Term) → made own scope (views (a ++ b)) ≡ made own scope (views a) ++ made own scope (views b)
  made_both scope [] b = refl
  made_both scope (t ∷ a) b =
      let one = made own scope (single (view t)) in
      made_step scope t (a ++ b) ∙ ap (λ (l : List A). one ++ l) (made_both scope a b) ∙ sym (append_assoc one (made own scope (views a)) (made own scope (views b)))
      ∙ ap (λ (l : List A). l ++ made own scope (views b)) (sym (made_step scope t a))

  -- a term, and then its children in two lists
  pub made_over : (scope inner : List ℕ) (t : Term) (h : Head) (w : ℕ) (a b : List Term) → IsApart t h w a b → inner ≡ inside scope h
      → (old one two new : List A) → one ≡ old ++ own scope h (views (a ++ b)) → two ≡ one ++ made own inner (views a)
      → new ≡ two ++ made own inner (views b) → new ≡ old ++ made own scope (single (view t))
  made_over scope inner t h w a b apart into old one two new p q r =
      let front = own scope (view t).0 (view t).2 in
      let after = made own (inside scope (view t).0) (view t).2 in
      let children : made own inner (views a) ++ made own inner (views b) ≡ after =
      sym (made_both inner a b) ∙ ap (made own inner) apart.children ∙ ap (λ (s : List ℕ). made own s (view t).2) (into ∙ ap (inside scope) apart.head)
      in
      let owned : own scope h (views (a ++ b)) ≡ front =
      ap (own scope h) apart.children ∙ ap (λ (k : Head). own scope k (view t).2) apart.head
      in
      r ∙ ap (λ (l : List A). l ++ made own inner (views b)) q ∙ append_assoc one (made own inner (views a)) (made own inner (views b))
      ∙ ap (λ (l : List A). one ++ l) children
      ∙ ap (λ (l : List A). l ++ after) (p ∙ ap (λ (l : List A). old ++ l) owned)
      ∙ append_assoc old front after
      ∙ ap (λ (l : List A). old ++ (front ++ l)) (sym (append-nil after))

-- ---- comments

abbrev Texts : Type 0
Texts = List (List ℕ)

pub notes_step : (ids : Bool) (t : Term) (ts : List Term) → notes ids (views (t ∷ ts)) ≡ notes ids (single (view t)) ++ notes ids (views ts)
notes_step ids t ts =
    let h = (view t).0 in
    let own = entry_notes h in
    let inner = notes (has_ids ids h) (view t).2 in
    ap (λ (l : Texts). note ids h (view t).1 (view t).2 ∷ l)
    (ap (λ (l : Texts). own ++ (l ++ notes ids (views ts))) (sym (append-nil inner)) ∙ sym (append_assoc own (inner ++ []) (notes ids (views ts))))

notes_both : (ids : Bool) (a b : List Term) → notes ids (views (a ++ b)) ≡ notes ids (views a) ++ notes ids (views b)
notes_both ids [] b = refl
notes_both ids (t ∷ a) b =
    let one = notes ids (single (view t)) in
    notes_step ids t (a ++ b) ∙ ap (λ (l : Texts). one ++ l) (notes_both ids a b) ∙ sym (append_assoc one (notes ids (views a)) (notes ids (views b)))
    ∙ ap (λ (l : Texts). l ++ notes ids (views b)) (sym (notes_step ids t a))

-- a term, and then its children in two lists
pub noted_over : (ids inner : Bool) (t : Term) (h : Head) (w : ℕ) (a b : List Term) → IsApart t h w a b → inner ≡ has_ids ids h
    → (said : List ℕ) → said ≡ note ids h w (view t).2
    → (old one two three new : Texts) → one ≡ old ++ (said ∷ []) → two ≡ one ++ entry_notes h → three ≡ two ++ notes inner (views a)
    → new ≡ three ++ notes inner (views b) → new ≡ old ++ notes ids (single (view t))
noted_over ids inner t h w a b apart into said is old one two three new p q r s =
    let c = (view t).2 in
    let children : notes inner (views a) ++ notes inner (views b) ≡ notes (has_ids ids (view t).0) c =
    sym (notes_both inner a b) ∙ ap (notes inner) apart.children ∙ ap (λ (i : Bool). notes i c) (into ∙ ap (has_ids ids) apart.head)
    in
    let said_is : said ≡ note ids (view t).0 (view t).1 c =
    is ∙ ap (λ (k : Head). note ids k w c) apart.head ∙ ap (λ (v : ℕ). note ids (view t).0 v c) apart.width
    in
    let after : Texts = notes (has_ids ids (view t).0) c in
    s ∙ ap (λ (l : Texts). l ++ notes inner (views b)) r ∙ append_assoc two (notes inner (views a)) (notes inner (views b))
    ∙ ap (λ (l : Texts). two ++ l) children
    ∙ ap (λ (l : Texts). l ++ after) (q ∙ ap (λ (k : Head). one ++ entry_notes k) apart.head ∙ ap (λ (l : Texts). l ++ entry_notes (view t).0) (p ∙ ap (λ (l : List ℕ). old ++ (l ∷ [])) said_is))
    ∙ append_assoc (old ++ (note ids (view t).0 (view t).1 c ∷ [])) (entry_notes (view t).0) after
    ∙ append_assoc old (note ids (view t).0 (view t).1 c ∷ []) (entry_notes (view t).0 ++ after)
    ∙ ap (λ (l : Texts). old ++ (note ids (view t).0 (view t).1 c ∷ (entry_notes (view t).0 ++ l))) (sym (append-nil after))

-- a buffer's size is the first child in the first list that has one
pub size_in_front : (n : ℕ) (first others : List Term) → 0 < length first → has_size n (views first) ≡ has_size n (views (first ++ others))
size_in_front n [] others some = absurd (omega (arith, some))
size_in_front n (t ∷ first) others some = refl
