-- Terms, read one after the other as a loop does.
use Rattle.std.proofs.Common.{◌≡◌, ℕ, suc, ◌+◌, ◌-◌, ◌<◌, ◌≤◌, Bool, true, false, cond, List, [], ◌∷◌, ◌++◌, length, Option, Some, None, Result, Ok, Err, refl, ap, ◌∙◌, arith}
use Rattle.acpi_base.specs.Bytes.{AreBytes}
use Rattle.acpi_term.specs.declared.mode.Mode.{Mode}
use Rattle.acpi_term.specs.declared.term.Term.{Term}
use Rattle.acpi_term.specs.declared.language.Language.TheVariants.{Standard}
use Rattle.acpi_term.specs.Language.{Grammar, has}
use Rattle.acpi_term.specs.Tree.{Head, Terms, end, term}
use Rattle.acpi_term.specs.Spelling.{next, is_test, is_timeout}
use Rattle.acpi_term.specs.View.{view, views}
use Rattle.acpi_term.specs.Reading.{Fault, Bad, ◌>>=◌, Opened, high_at, head_at, open_at, Reader, counted, all_of, term_at}
use Rattle.acpi_term.proofs.Again.{all_more}
use Rattle.acpi_term.proofs.Taken.{term_shrinks}
use Rattle.acpi_read.specs.Cause.{FailsBy}

-- ---- no bytes

either_bad : (b : Bool) → ◌≡◌ {A = Result Opened Fault} (cond b (Err Bad) (Err Bad)) (Err Bad)
either_bad true = refl
either_bad false = refl

no_timeout : (timed standard : Bool) → ◌≡◌ {A = Result Opened Fault} (cond timed (cond standard (Err Bad) (Err Bad)) (Err Bad)) (Err Bad)
no_timeout true standard = either_bad standard
no_timeout false standard = refl

nothing_opens : (g : Grammar) (m : Mode) → open_at g m [] ≡ Err Bad
unfolding open_at head_at high_at
nothing_opens g m =
    ap (λ (r : Result Opened Fault). cond (is_test g.language m) (Err Bad) r) (no_timeout (is_timeout g.language m) (has g.language Standard))
    ∙ either_bad (is_test g.language m)

-- ---- lists of terms

-- terms, and then others
abbrev pub joins : Terms → Terms → Terms
joins end others = others
joins (term h w c o) others = term h w c (joins o others)

-- a term after others
abbrev pub and_one : Terms → Head → ℕ → Terms → Terms
and_one front h w c = joins front (term h w c end)

pub joins_more : (front : Terms) (h : Head) (w : ℕ) (c o : Terms) → joins front (term h w c o) ≡ joins (and_one front h w c) o
joins_more end h w c o = refl
joins_more (term g v d front) h w c o = ap (term g v d) (joins_more front h w c o)

pub joins_end : (front : Terms) → joins front end ≡ front
joins_end end = refl
joins_end (term h w c o) = ap (term h w c) (joins_end o)

pub views_push : (ts : List Term) (t : Term) → views (ts ++ t ∷ []) ≡ and_one (views ts) (view t).0 (view t).1 (view t).2
views_push [] t = refl
views_push (u ∷ ts) t = ap (term (view u).0 (view u).1 (view u).2) (views_push ts t)

-- what is read after a front that was read before
abbrev pub after_front : Terms → Result (Terms × List ℕ) Fault → Result (Terms × List ℕ) Fault
after_front front read = read >>= λ x. Ok (joins front x.0, x.1)

abbrev pub all_after_front : Terms → Result Terms Fault → Result Terms Fault
all_after_front front read = read >>= λ x. Ok (joins front x)

whole : (r : Result (Terms × List ℕ) Fault) → r ≡ after_front end r
whole (Ok x) = refl
whole (Err e) = refl

all_whole : (r : Result Terms Fault) → r ≡ all_after_front end r
all_whole (Ok x) = refl
all_whole (Err e) = refl

regrouped : (front : Terms) (h : Head) (w : ℕ) (c : Terms) (r : Result (Terms × List ℕ) Fault) → after_front front (after_front (term h w c end) r) ≡ after_front (and_one front h w c) r
regrouped front h w c (Ok x) = ap (λ (ts : Terms). Ok (ts, x.1)) (joins_more front h w c x.0)
regrouped front h w c (Err e) = refl

all_regrouped : (front : Terms) (h : Head) (w : ℕ) (c : Terms) (r : Result Terms Fault) → all_after_front front (all_after_front (term h w c end) r) ≡ all_after_front (and_one front h w c) r
all_regrouped front h w c (Ok x) = ap (λ (ts : Terms). Ok ts) (joins_more front h w c x)
all_regrouped front h w c (Err e) = refl

-- ---- loops

-- the terms that were read, and what is still to be read in which mode
pub record SeveralRead (read : Reader) (m : Mode) (count i : ℕ) (bytes : List ℕ) (front : Terms) (at : Mode) (rest : List ℕ) : Type 0 where
  pub rest_fits : AreBytes rest
  pub within : length rest ≤ length bytes
  pub is : counted read count m bytes ≡ after_front front (counted read (count - i) at rest)

pub record AllRead (read : Reader) (m : Mode) (bytes : List ℕ) (front : Terms) (at : Mode) (rest : List ℕ) : Type 0 where
  pub rest_fits : AreBytes rest
  pub within : length rest ≤ length bytes
  pub bound : ℕ
  pub enough : length rest ≤ bound
  pub is : all_of read (length bytes) m bytes ≡ all_after_front front (all_of read bound at rest)

pub several_begin : (read : Reader) (m : Mode) (count : ℕ) (bytes : List ℕ) → AreBytes bytes → SeveralRead read m count 0 bytes end m bytes
several_begin read m count bytes fits =
    let n : count - 0 ≡ count = omega arith in
    record { rest_fits = fits; within = omega arith; is = rw n (whole (counted read count m bytes)) }

pub all_begin : (read : Reader) (m : Mode) (bytes : List ℕ) → AreBytes bytes → AllRead read m bytes end m bytes
all_begin read m bytes fits = record { rest_fits = fits; within = omega arith; bound = length bytes; enough = omega arith; is = all_whole (all_of read (length bytes) m bytes) }

module _ (g : Grammar) (d : ℕ) (m : Mode) where
  abbrev reader : Reader
  reader = term_at g d

  -- this many terms

  module _ (count i : ℕ) (bytes : List ℕ) (front : Terms) (at : Mode) (rest : List ℕ) (so_far : SeveralRead (term_at g d) m count i bytes front at rest) where
    pub several_go_on : i < count → (h : Head) (w : ℕ) (c : Terms) (after : List ℕ) → term_at g d at rest ≡ Ok (h, w, c, after) → SeveralRead (term_at g d) m count (i + 1) bytes (and_one front h w c) (next at) after
    unfolding counted
    several_go_on lt h w c after e =
        let k : count - i ≡ suc (count - (i + 1)) = omega arith in
        let s = term_shrinks g d at rest (h, w, c, after) so_far.rest_fits e in
        let shorter : length after < length rest = s.less in
        let one : counted (term_at g d) (count - i) at rest ≡ after_front (term h w c end) (counted (term_at g d) (count - (i + 1)) (next at) after) = rw (k, e) refl in
        record {
          rest_fits = s.fits;
          within = omega (arith, shorter, so_far.within);
          is = so_far.is ∙ ap (after_front front) one ∙ regrouped front h w c (counted (term_at g d) (count - (i + 1)) (next at) after);
        }

    pub several_fail : i < count → (k : Option Fault) → FailsBy k (term_at g d at rest) → FailsBy k (counted (term_at g d) count m bytes)
    unfolding counted
    several_fail lt None h = tt
    several_fail lt (Some f) h =
        let n : count - i ≡ suc (count - (i + 1)) = omega arith in
        let one : counted (term_at g d) (count - i) at rest ≡ Err f = rw (n, h) refl in
        so_far.is ∙ ap (after_front front) one

    pub several_miss : i < count → rest ≡ [] → 0 < d → counted (term_at g d) count m bytes ≡ Err Bad
    unfolding counted term_at
    several_miss lt none some =
        let n : count - i ≡ suc (count - (i + 1)) = omega arith in
        let deeper : d ≡ suc (d - 1) = omega arith in
        let failed : term_at g d at [] ≡ Err Bad = ap (λ k. term_at g k at []) deeper ∙ rw (nothing_opens g at) refl in
        let one : counted (term_at g d) (count - i) at rest ≡ Err Bad = rw (n, none, failed) refl in
        so_far.is ∙ ap (after_front front) one

    pub several_end : count ≤ i → counted (term_at g d) count m bytes ≡ Ok (front, rest)
    unfolding counted
    several_end le =
        let n : count - i ≡ 0 = omega arith in
        so_far.is ∙ rw n (ap (λ (ts : Terms). Ok (ts, rest)) (joins_end front))

  -- all terms

  module _ (bytes : List ℕ) (front : Terms) (at : Mode) (rest : List ℕ) (so_far : AllRead (term_at g d) m bytes front at rest) where
    next_is : 0 < length rest → all_of (term_at g d) (length bytes) m bytes ≡ all_after_front front (term_at g d at rest >>= λ t. all_of (term_at g d) (so_far.bound - 1) (next at) t.3 >>= λ others. Ok (term t.0 t.1 t.2 others))
    next_is some = so_far.is ∙ ap (all_after_front front) (all_more (term_at g d) so_far.bound at rest some so_far.enough)

    pub all_go_on : 0 < length rest → (h : Head) (w : ℕ) (c : Terms) (after : List ℕ) → term_at g d at rest ≡ Ok (h, w, c, after) → AllRead (term_at g d) m bytes (and_one front h w c) (next at) after
    all_go_on some h w c after e =
        let s = term_shrinks g d at rest (h, w, c, after) so_far.rest_fits e in
        let shorter : length after < length rest = s.less in
        record {
          rest_fits = s.fits;
          within = omega (arith, shorter, so_far.within);
          bound = so_far.bound - 1;
          enough = omega (arith, shorter, so_far.enough);
          is = next_is some ∙ rw e (all_regrouped front h w c (all_of (term_at g d) (so_far.bound - 1) (next at) after));
        }

    pub all_shrink : (h : Head) (w : ℕ) (c : Terms) (after : List ℕ) → term_at g d at rest ≡ Ok (h, w, c, after) → length after < length rest
    all_shrink h w c after e = (term_shrinks g d at rest (h, w, c, after) so_far.rest_fits e).less

    pub all_fail : 0 < length rest → (k : Option Fault) → FailsBy k (term_at g d at rest) → FailsBy k (all_of (term_at g d) (length bytes) m bytes)
    all_fail some None h = tt
    all_fail some (Some f) h = next_is some ∙ rw h refl

    pub all_end : rest ≡ [] → all_of (term_at g d) (length bytes) m bytes ≡ Ok front
    unfolding all_of
    all_end none = so_far.is ∙ rw none (ap (λ (ts : Terms). Ok ts) (joins_end front))
