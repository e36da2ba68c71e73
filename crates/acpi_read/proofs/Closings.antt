-- From a head that was opened to its term.
use Rattle.std.proofs.Common.{◌≡◌, ℕ, zero, suc, ◌-◌, ◌<◌, ◌≤◌, false, true, eqb, ltb, List, [], ◌∷◌, length, Option, Some, None, Result, Ok, Err, refl, sym, ap, ◌∙◌, arith}
use Rattle.std.specs.Prelude.{IfOk}
use Rattle.std.proofs.lemmas.Bool.{le-ltb, lt-ltb, ne_eqb}
use Rattle.std.proofs.lemmas.Bool.Decides.{nat_tests}
use Rattle.acpi_term.specs.declared.term.Term as code
use Rattle.acpi_term.specs.View.{views}
use Rattle.acpi_term.proofs.Spells.{count_views}
use Rattle.std.proofs.lemmas.List.{nil_from_length}
use Rattle.acpi_base.specs.Bytes.{AreBytes}
use Rattle.acpi_term.specs.declared.mode.Mode.{Mode}
use Rattle.acpi_term.specs.declared.read_error.ReadError.{ReadError}
use Rattle.acpi_term.specs.declared.mode.Mode.TheVariants.{Term}
use Rattle.acpi_term.specs.Language.{Grammar}
use Rattle.acpi_term.specs.declared.language.Language.{Language}
use Rattle.acpi_term.specs.Tree.{Head, def_package, def_roomy_package, Terms, term, count}
use Rattle.acpi_term.specs.Spelling.{inner, next}
use Rattle.acpi_term.specs.Reading.{Fault, Bad, ◌>>=◌, Opened, fills, open_at, Reader, least_of, all_of, assembled, roomed, close, term_at}
use Rattle.acpi_term.proofs.Again.{all_more}
use Rattle.acpi_term.proofs.Taken.{Found, term_shrinks}
use Rattle.acpi_read.specs.declared.terms.open.Block.{Block}
use Rattle.acpi_read.specs.declared.terms.open.Block.TheVariants as blocks
use Rattle.acpi_read.specs.declared.terms.open.FirstAndBlock.{FirstAndBlock}
use Rattle.acpi_read.specs.declared.terms.open.FirstAndBlock.TheVariants as firsts
use Rattle.acpi_read.specs.Cause.{FailsBy, Answers}
use Rattle.acpi_read.specs.TermStart.{block_head, block_width, first_head, first_width}

-- ---- one term

module _ (g : Grammar) (d : ℕ) (m : Mode) (bytes : List ℕ) (some : d ≡ 0 → ⊥) where
  pub opened_is : (o : Opened) → open_at g m bytes ≡ Ok o → term_at g d m bytes ≡ close (term_at g (d - 1)) g.language o
  unfolding term_at
  opened_is o opens =
      let n : d ≡ suc (d - 1) = omega arith in
      ap (λ k. term_at g k m bytes) n ∙ rw opens refl

  pub unopened : (k : Option Fault) → FailsBy k (open_at g m bytes) → FailsBy k (term_at g d m bytes)
  unfolding term_at
  unopened None h = tt
  unopened (Some f) h =
      let n : d ≡ suc (d - 1) = omega arith in
      ap (λ k. term_at g k m bytes) n ∙ rw h refl

pub read_shortens : {X : Type 0} (view : X → Found) (g : Grammar) (d : ℕ) (m : Mode) (bytes : List ℕ) (r : Result X ReadError) → AreBytes bytes → Answers view r (term_at g d m bytes) → IfOk r (λ x. length (view x).3 < length bytes)
read_shortens view g d m bytes (Ok x) fits given = (term_shrinks g d m bytes (view x) fits given).less
read_shortens view g d m bytes (Err e) fits given = tt

-- ---- frames

enough : (h : Head) (w : ℕ) (c : Terms) (after : List ℕ) → least_of h ≤ count c → ◌>>=◌ {B = Found} (assembled h w c) (λ t. Ok (t.0, t.1, t.2, after)) ≡ Ok (h, w, c, after)
unfolding assembled
enough h w c after le = let long : ltb (count c) (least_of h) ≡ false = le-ltb (count c) (least_of h) le in rw long refl

pub block_least : (f : Block) → least_of (block_head f) ≡ 0
block_least (blocks.Scope w name) = refl
block_least (blocks.Device w name) = refl
block_least (blocks.Method w name args serialized) = refl
block_least (blocks.PowerResource w name level order) = refl
block_least (blocks.Else w) = refl
block_least (blocks.LeveledMethod w name args serialized level) = refl
block_least (blocks.Processor w name id address size) = refl
block_least (blocks.ThermalZone w name) = refl

block_mode : (l : Language) (f : Block) → inner l (block_head f) ≡ Term
block_mode l (blocks.Scope w name) = refl
block_mode l (blocks.Device w name) = refl
block_mode l (blocks.Method w name args serialized) = refl
block_mode l (blocks.PowerResource w name level order) = refl
block_mode l (blocks.Else w) = refl
block_mode l (blocks.LeveledMethod w name args serialized level) = refl
block_mode l (blocks.Processor w name id address size) = refl
block_mode l (blocks.ThermalZone w name) = refl

pub first_least : (f : FirstAndBlock) → least_of (first_head f) ≡ 1
first_least (firsts.VarPackage w) = refl
first_least (firsts.If w) = refl
first_least (firsts.While w) = refl

module _ (p : Reader) (l : Language) (f : Block) (inside after : List ℕ) where
  pub block_is : (c : Terms) → all_of p (length inside) Term inside ≡ Ok c → close p l (fills (block_head f) (block_width f) inside after) ≡ Ok (block_head f, block_width f, c, after)
  unfolding close
  block_is c read = rw (block_mode l f, read) (enough (block_head f) (block_width f) c after (omega (arith, block_least f)))

  pub block_fails : (k : Option Fault) → FailsBy k (all_of p (length inside) Term inside) → FailsBy k (close p l (fills (block_head f) (block_width f) inside after))
  unfolding close
  block_fails None h = tt
  block_fails (Some e) h = rw (block_mode l f, h) refl

-- ---- packages with room

itself : (a b : ℕ) → a ≡ b → eqb a b ≡ true
itself a b e = grind (arith, nat_tests)

module _ (w n : ℕ) (items : List code.Term) (after : List ℕ) where
  pub roomed_full : length items ≡ n → roomed w n (views items) after ≡ Ok (def_package, w, views items, after)
  roomed_full is =
      let same : eqb (count (views items)) n ≡ true = itself (count (views items)) n (count_views items ∙ is) in
      rw same refl

  pub roomed_less : length items < n → roomed w n (views items) after ≡ Ok (def_roomy_package n, w, views items, after)
  roomed_less lt =
      let other : eqb (count (views items)) n ≡ false = ne_eqb (count (views items)) n (λ e. omega (arith, e, count_views items, lt)) in
      let less : ltb (count (views items)) n ≡ true = lt-ltb (count (views items)) n (omega (arith, count_views items, lt)) in
      rw (other, less) refl

  pub roomed_more : n < length items → roomed w n (views items) after ≡ Err Bad
  roomed_more gt =
      let other : eqb (count (views items)) n ≡ false = ne_eqb (count (views items)) n (λ e. omega (arith, e, count_views items, gt)) in
      let less : ltb (count (views items)) n ≡ false = le-ltb (count (views items)) n (omega (arith, count_views items, gt)) in
      rw (other, less) refl

-- ---- frames whose first child stands apart

-- How far a reading may go doesn't matter, if it may go to the end.
module _ (g : Grammar) (d : ℕ) where
  abbrev Same : ℕ → ℕ → Mode → List ℕ → Type 0
  Same n k m bytes = AreBytes bytes → length bytes ≤ n → length bytes ≤ k → all_of (term_at g d) n m bytes ≡ all_of (term_at g d) k m bytes

  abbrev others_of : ℕ → Mode → Found → Result Terms Fault
  others_of n m t = all_of (term_at g d) n (next m) t.3 >>= λ others. Ok (term t.0 t.1 t.2 others)

  same_after : (n k : ℕ) (m : Mode) (bytes : List ℕ) (r : Result Found Fault) → AreBytes bytes → length bytes ≤ suc n → length bytes ≤ suc k → term_at g d m bytes ≡ r → ((rest : List ℕ) → Same n k (next m) rest) → (r >>= others_of n m) ≡ (r >>= others_of k m)
  same_after n k m bytes (Err e) fits le le' read same = refl
  same_after n k m bytes (Ok t) fits le le' read same =
      let s = term_shrinks g d m bytes t fits read in
      let shorter : length t.3 < length bytes = s.less in
      ap (λ (o : Result Terms Fault). o >>= λ others. Ok (term t.0 t.1 t.2 others)) (same t.3 s.fits (omega (arith, shorter, le)) (omega (arith, shorter, le')))

  all_within : (n k : ℕ) (m : Mode) (bytes : List ℕ) → Same n k m bytes
  unfolding all_of
  all_within n k m [] fits le le' = refl
  all_within zero k m (b ∷ bytes) fits le le' = absurd (omega arith)
  all_within (suc n) zero m (b ∷ bytes) fits le le' = absurd (omega arith)
  all_within (suc n) (suc k) m (b ∷ bytes) fits le le' = same_after n k m (b ∷ bytes) (term_at g d m (b ∷ bytes)) fits le le' refl (λ rest. all_within n k (next m) rest)

  module _ (f : FirstAndBlock) (inside after : List ℕ) where
    pub first_is_missing : length inside ≡ 0 → close (term_at g d) g.language (fills (first_head f) (first_width f) inside after) ≡ Err Bad
    unfolding close all_of assembled
    first_is_missing none =
        let is : inside ≡ [] = nil_from_length inside none in
        rw (is, first_least f) refl

    module _ (mode : Mode) (is : mode ≡ inner g.language (first_head f)) (some : 0 < length inside) where
      pub first_fails : (k : Option Fault) → FailsBy k (term_at g d mode inside) → FailsBy k (close (term_at g d) g.language (fills (first_head f) (first_width f) inside after))
      unfolding close
      first_fails None h = tt
      first_fails (Some e) h = rw (sym is, all_more (term_at g d) (length inside) mode inside some (omega arith), h) refl

      module _ (h : Head) (w : ℕ) (c : Terms) (rest : List ℕ) (fits : AreBytes inside) (first : term_at g d mode inside ≡ Ok (h, w, c, rest)) where
        others_are : all_of (term_at g d) (length inside) (inner g.language (first_head f)) inside ≡ others_of (length rest) mode (h, w, c, rest)
        others_are =
            let s = term_shrinks g d mode inside (h, w, c, rest) fits first in
            let shorter : length rest < length inside = s.less in
            rw (sym is, all_more (term_at g d) (length inside) mode inside some (omega arith), first) (ap (λ (o : Result Terms Fault). o >>= λ others. Ok (term h w c others)) (all_within (length inside - 1) (length rest) (next mode) rest s.fits (omega (arith, shorter)) (omega arith)))

        pub others_fail : (k : Option Fault) → FailsBy k (all_of (term_at g d) (length rest) (next mode) rest) → FailsBy k (close (term_at g d) g.language (fills (first_head f) (first_width f) inside after))
        unfolding close
        others_fail None e = tt
        others_fail (Some e) failed = rw (others_are, failed) refl

        pub first_is : (others : Terms) → all_of (term_at g d) (length rest) (next mode) rest ≡ Ok others → close (term_at g d) g.language (fills (first_head f) (first_width f) inside after) ≡ Ok (first_head f, first_width f, term h w c others, after)
        unfolding close
        first_is others read = rw (others_are, read) (enough (first_head f) (first_width f) (term h w c others) after (omega (arith, first_least f)))
