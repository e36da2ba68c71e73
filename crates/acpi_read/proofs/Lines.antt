-- Lines of terms.
use Rattle.std.proofs.Common.{◌≡◌, ℕ, suc, ◌+◌, ◌-◌, ◌<◌, ◌≤◌, List, [], ◌∷◌, ◌++◌, length, get_or, take, drop, Result, Ok, Err, refl, sym, ap, ◌∙◌, append_assoc, add-one, arith}
use Rattle.std.specs.Prelude.{IfOk}
use Rattle.std.proofs.lemmas.List.{take_rest, append-nil, append_cancel_left, length-append}
use Rattle.acpi_term.specs.declared.term.Term.{Term}
use Rattle.acpi_term.specs.Tree.{Head, count}
use Rattle.acpi_term.specs.View.{view, views, single, IsApart}
use Rattle.acpi_read.specs.Lines.{line, lines, head_text, own_lines, term_suffix, AreReported}
use Rattle.acpi_read.specs.Size.{capped, content_size, content_sizes, HasSizes}
use Rattle.acpi_read.proofs.Sizes.{sizes_step, sizes_both}
use Rattle.acpi_read.proofs.Texts.{dropped, past, after_two, after_three, Goes, goes_start, goes_on, goes_done}

pub count_views : (ts : List Term) → count (views ts) ≡ length ts
count_views [] = refl
count_views (t ∷ ts) = ap suc (count_views ts)

lines_step : (d : ℕ) (t : Term) (ts : List Term) → lines d (views (t ∷ ts)) ≡ lines d (single (view t)) ++ lines d (views ts)
lines_step d t ts = ap (λ (l : List ℕ). l ++ lines d (views ts)) (sym (append-nil _))

lines_both : (d : ℕ) (a b : List Term) → lines d (views (a ++ b)) ≡ lines d (views a) ++ lines d (views b)
lines_both d [] b = refl
lines_both d (t ∷ a) b =
    let here = lines d (single (view t)) in
    lines_step d t (a ++ b) ∙ ap (λ (l : List ℕ). here ++ l) (lines_both d a b) ∙ sym (append_assoc here (lines d (views a)) (lines d (views b)))
    ∙ ap (λ (l : List ℕ). l ++ lines d (views b)) (sym (lines_step d t a))

-- ---- terms one after another

-- as far as i
pub record Going (d : ℕ) (ts : List Term) (i : ℕ) (sizes left old now : List ℕ) : Type 0 where
  pub text : Goes (λ (terms : List Term). lines d (views terms)) ts i old now
  pub after : List ℕ
  pub here : left ≡ content_sizes (views (drop i ts)) ++ after
  pub whole : sizes ≡ content_sizes (views ts) ++ after

pub going_start : (d : ℕ) (ts : List Term) (sizes old : List ℕ) → HasSizes (views ts) sizes → Going d ts 0 sizes sizes old old
going_start d ts sizes old has = record { text = goes_start _ ts old; after = has.0; here = has.1; whole = has.1 }

module _ (d : ℕ) (ts : List Term) (i : ℕ) (sizes left old now : List ℕ) (g : Going d ts i sizes left old now) where
  module _ (t : Term) (inside : i < length ts) (is : t ≡ get_or ts i t) where
    next_is : left ≡ content_sizes (single (view t)) ++ (content_sizes (views (drop (i + 1) ts)) ++ g.after)
    next_is =
        let o = drop (i + 1) ts in
        g.here ∙ ap (λ (l : List Term). content_sizes (views l) ++ g.after) (dropped ts i t inside is) ∙ ap (λ (l : List ℕ). l ++ g.after) (sizes_step t o)
        ∙ append_assoc (content_sizes (single (view t))) (content_sizes (views o)) g.after

    pub going_has : HasSizes (single (view t)) left
    going_has = (content_sizes (views (drop (i + 1) ts)) ++ g.after, next_is)

    pub going_on : (rest new : List ℕ) → AreReported d (single (view t)) left rest now new → Going d ts (i + 1) sizes rest old new
    going_on rest new told = record {
      text = goes_on (λ (terms : List Term). lines d (views terms)) ts i old now g.text t (lines d (single (view t))) new inside is (lines_step d t (drop (i + 1) ts)) told.added;
      after = g.after;
      here = append_cancel_left (content_sizes (single (view t))) rest (content_sizes (views (drop (i + 1) ts)) ++ g.after) (sym told.taken ∙ next_is);
      whole = g.whole;
    }

  pub going_done : length ts ≤ i → AreReported d (views ts) sizes left old now
  going_done all =
      let left_is : left ≡ g.after = g.here ∙ ap (λ (l : List Term). content_sizes (views l) ++ g.after) (past ts i all) in
      record {
        added = goes_done (λ (terms : List Term). lines d (views terms)) ts i old now g.text refl all;
        taken = g.whole ∙ ap (λ (l : List ℕ). content_sizes (views ts) ++ l) (sym left_is);
      }

-- ---- a term over its children

module _ (t : Term) (h : Head) (w : ℕ) (a b : List Term) (apart : IsApart t h w a b) (sizes : List ℕ) (has : HasSizes (single (view t)) sizes) where
  own_is : sizes ≡ capped (content_size (view t).0 (view t).1 (view t).2) ∷ (content_sizes (views a) ++ (content_sizes (views b) ++ has.0))
  own_is =
      let here = capped (content_size (view t).0 (view t).1 (view t).2) in
      has.1 ∙ ap (λ (l : List ℕ). here ∷ (l ++ has.0)) (append-nil (content_sizes (view t).2) ∙ ap content_sizes (sym apart.children) ∙ sizes_both a b)
      ∙ ap (λ (l : List ℕ). here ∷ l) (append_assoc (content_sizes (views a)) (content_sizes (views b)) has.0)

  pub has_some : 0 < length sizes
  has_some = omega (arith, ap length own_is)

  pub own_size_is : get_or sizes 0 0 ≡ capped (content_size h w (view t).2)
  own_size_is =
      ap (λ (l : List ℕ). get_or l 0 0) own_is
      ∙ ap (λ (k : Head). capped (content_size k (view t).1 (view t).2)) (sym apart.head) ∙ ap (λ (v : ℕ). capped (content_size h v (view t).2)) (sym apart.width)

  first_is : drop 1 sizes ≡ content_sizes (views a) ++ (content_sizes (views b) ++ has.0)
  first_is = ap (λ (l : List ℕ). drop 1 l) own_is

  pub has_first : HasSizes (views a) (take (length sizes - 1) (drop 1 sizes))
  has_first = (content_sizes (views b) ++ has.0, take_rest sizes 1 ∙ first_is)

  module _ (d e : ℕ) (old one two three four left : List ℕ) (deeper : e ≡ d + 1) (first : AreReported e (views a) (take (length sizes - 1) (drop 1 sizes)) left two three) where
    others_are : left ≡ content_sizes (views b) ++ has.0
    others_are = append_cancel_left (content_sizes (views a)) left (content_sizes (views b) ++ has.0) (sym first.taken ∙ take_rest sizes 1 ∙ first_is)

    pub has_others : HasSizes (views b) left
    has_others = (has.0, others_are)

    module _ (n : ℕ) (told : List ℕ) (counted : n ≡ length a + length b) (chosen : told ≡ term_suffix h w (view t).2)
        (lined : one ≡ old ++ line d (head_text h n) told) (owned : two ≡ one ++ own_lines e h) where
      told_over : (rest : List ℕ) → AreReported e (views b) left rest three four → AreReported d (single (view t)) sizes rest old four
      told_over rest others =
          let c = (view t).2 in
          let deep : e ≡ suc d = deeper ∙ add-one d in
          let n_is : n ≡ count c = counted ∙ sym (length-append a b) ∙ sym (count_views (a ++ b)) ∙ ap count apart.children in
          let one_is : one ≡ old ++ line d (head_text (view t).0 (count c)) (term_suffix (view t).0 (view t).1 c) =
          lined ∙ ap (λ (s : List ℕ). old ++ line d (head_text h n) s) chosen
          ∙ ap (λ (k : ℕ). old ++ line d (head_text h k) (term_suffix h w c)) n_is
          ∙ ap (λ (k : Head). old ++ line d (head_text k (count c)) (term_suffix k w c)) apart.head
          ∙ ap (λ (v : ℕ). old ++ line d (head_text (view t).0 (count c)) (term_suffix (view t).0 v c)) apart.width
          in
          let two_is : two ≡ one ++ own_lines (suc d) (view t).0 = owned ∙ ap (λ (k : ℕ). one ++ own_lines k h) deep ∙ ap (λ (k : Head). one ++ own_lines (suc d) k) apart.head in
          let both : four ≡ two ++ (lines e (views a) ++ lines e (views b)) = after_two two (lines e (views a)) (lines e (views b)) three four first.added others.added in
          let inside : lines e (views a) ++ lines e (views b) ≡ lines (suc d) c = sym (lines_both e a b) ∙ ap (lines e) apart.children ∙ ap (λ (k : ℕ). lines k c) deep in
          let four_is : four ≡ two ++ lines (suc d) c = both ∙ ap (λ (l : List ℕ). two ++ l) inside in
          let rest_is : rest ≡ has.0 = append_cancel_left (content_sizes (views b)) rest has.0 (sym others.taken ∙ others_are) in
          record {
            added = after_three old _ _ _ one two four one_is two_is four_is ∙ ap (λ (l : List ℕ). old ++ l) (sym (append-nil _));
            taken = has.1 ∙ ap (λ (l : List ℕ). content_sizes (single (view t)) ++ l) (sym rest_is);
          }

      pub told_all : {X E : Type 0} (rest : X → List ℕ) (r : Result X E) → IfOk r (λ x. AreReported e (views b) left (rest x) three four) → IfOk r (λ x. AreReported d (single (view t)) sizes (rest x) old four)
      told_all rest (Ok x) others = told_over (rest x) others
      told_all rest (Err error) others = tt
