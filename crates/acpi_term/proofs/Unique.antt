-- Bytes spell one list of terms or none, and the first term of a list ends at one place.
use Rattle.std.proofs.Common.{◌≡◌, ℕ, ◌≤◌, max, cond, leb, List, ◌++◌, length, Ok, Err, refl, sym, ap, subst, ◌∙◌, arith}
use Rattle.std.specs.Prelude.{◌↔◌}
use Rattle.std.proofs.lemmas.Bool.{le-leb}
use Rattle.acpi_term.specs.declared.mode.Mode.{Mode}
use Rattle.acpi_term.specs.Language.{Grammar}
use Rattle.acpi_term.specs.Tree.{Head, Terms, end, term, count, depth, one}
use Rattle.acpi_term.specs.Spelling.{spelled, spelling, inner, next, IsLegal, AreLegal, SpellsIn}
use Rattle.acpi_term.specs.Splits.{SplitsIn}
use Rattle.acpi_term.specs.Reading.{Deep, counted, all_of, term_at}
use Rattle.acpi_term.proofs.Steps.{ok_is}
use Rattle.acpi_term.proofs.Again.{within, guarded, again, within_is}

module _ (g : Grammar) (m : Mode) where
  -- what reading gives of bytes that spell these terms
  pub reads : (d : ℕ) (bytes : List ℕ) (ts : Terms) → SpellsIn g m bytes ts → all_of (term_at g d) (length bytes) m bytes ≡ cond (leb (depth ts) d) (Ok ts) (Err Deep)
  reads d bytes ts s =
      let law : all_of (term_at g d) (length (spelling ts)) m (spelling ts) ≡ guarded (within ts d) ts = (again g ts).whole d m (length (spelling ts)) (omega arith) s.0 in
      ap (λ (l : List ℕ). all_of (term_at g d) (length l) m l) s.1 ∙ law ∙ ap (λ b. guarded b ts) (within_is ts d)

  pub reads_shallow : (d : ℕ) (bytes : List ℕ) (ts : Terms) → SpellsIn g m bytes ts → depth ts ≤ d → all_of (term_at g d) (length bytes) m bytes ≡ Ok ts
  reads_shallow d bytes ts s shallow = reads d bytes ts s ∙ ap (λ b. guarded b ts) (le-leb (depth ts) d shallow)

  pub one_list : (bytes : List ℕ) (ts us : Terms) → SpellsIn g m bytes ts → SpellsIn g m bytes us → ts ≡ us
  one_list bytes ts us s t =
      let d = max (depth ts) (depth us) in
      ok_is ts us (sym (reads_shallow d bytes ts s (omega arith)) ∙ reads_shallow d bytes us t (omega arith))

  pub first_reads : (d : ℕ) (t : Terms) (rest : List ℕ) → AreLegal g m t → depth t ≤ d → counted (term_at g d) (count t) m (spelling t ++ rest) ≡ Ok (t, rest)
  first_reads d t rest f shallow = (again g t).several d m rest f ∙ ap (λ b. guarded b (t, rest)) (within_is t d ∙ le-leb (depth t) d shallow)

  -- this many terms at the front are these, and the bytes after them are those
  pub one_front : (ts us : Terms) (x y : List ℕ) → count ts ≡ count us → AreLegal g m ts → AreLegal g m us → spelling ts ++ x ≡ spelling us ++ y → (ts ≡ us) × (x ≡ y)
  one_front ts us x y n f k e =
      let d = max (depth ts) (depth us) in
      let a = first_reads d ts x f (omega arith) in
      let b = first_reads d us y k (omega arith) in
      let same = ok_is {A = Terms × List ℕ} (ts, x) (us, y) (sym a ∙ ap (λ (l : List ℕ). counted (term_at g d) (count ts) m l) e ∙ ap (λ (k : ℕ). counted (term_at g d) k m (spelling us ++ y)) n ∙ b) in
      (ap (λ (p : Terms × List ℕ). p.0) same, ap (λ (p : Terms × List ℕ). p.1) same)

  pub one_spelled_front : (b c x y : List ℕ) (ts us : Terms) → count ts ≡ count us → SpellsIn g m b ts → SpellsIn g m c us → b ++ x ≡ c ++ y → (b ≡ c) × (ts ≡ us) × (x ≡ y)
  one_spelled_front b c x y ts us n s t e =
      let f = one_front ts us x y n s.0 t.0 (ap (λ (l : List ℕ). l ++ x) (sym s.1) ∙ e ∙ ap (λ (l : List ℕ). l ++ y) t.1) in
      (s.1 ∙ ap spelling f.0 ∙ sym t.1, f.0, f.1)

-- ---- the relation

module _ (g : Grammar) where
  splits_spell : (m : Mode) (bytes : List ℕ) (ts : Terms) → SplitsIn g m bytes ts → SpellsIn g m bytes ts
  splits_spell m bytes end s = (tt, s)
  splits_spell m bytes (term h w c o) s =
      let inside = splits_spell (inner g.language h) s.2 c s.6 in
      let others = splits_spell (next m) s.1 o s.7 in
      let first : s.0 ≡ spelled h w (count c) (spelling c) = s.4 ∙ ap (spelled h w (count c)) inside.1 in
      ((subst (IsLegal g m h w (count c)) inside.1 s.5, inside.0, others.0), s.3 ∙ ap (λ (l : List ℕ). l ++ s.1) first ∙ ap (λ (l : List ℕ). spelled h w (count c) (spelling c) ++ l) others.1)

  terms_split : (m : Mode) (ts : Terms) → AreLegal g m ts → SplitsIn g m (spelling ts) ts
  terms_split m end f = refl
  terms_split m (term h w c o) f = (spelled h w (count c) (spelling c), spelling o, spelling c, refl, refl, f.0, terms_split (inner g.language h) c f.1, terms_split (next m) o f.2)

  pub splits_agree : (m : Mode) (bytes : List ℕ) (ts : Terms) → SpellsIn g m bytes ts ↔ SplitsIn g m bytes ts
  splits_agree m bytes ts = (λ s. subst (λ (l : List ℕ). SplitsIn g m l ts) (sym s.1) (terms_split m ts s.0), splits_spell m bytes ts)

-- ---- the laws

pub one_term_front : (g : Grammar) (m : Mode) (f h : Head) (v w : ℕ) (c d : Terms) (a b x y : List ℕ) → SpellsIn g m a (one f v c) → SpellsIn g m b (one h w d) → a ++ x ≡ b ++ y → (a ≡ b) × (one f v c ≡ one h w d) × (x ≡ y)
one_term_front g m f h v w c d a b x y s t e = one_spelled_front g m a b x y (one f v c) (one h w d) refl s t e

pub one_spelling : (g : Grammar) (m : Mode) (a b : List ℕ) (ts : Terms) → SpellsIn g m a ts → SpellsIn g m b ts → a ≡ b
one_spelling g m a b ts s t = s.1 ∙ sym t.1
