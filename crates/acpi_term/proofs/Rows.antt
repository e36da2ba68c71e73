-- What is spelled by a row round its children.
use Rattle.std.proofs.Common.{◌≡◌, ℕ, ◌+◌, ◌<◌, ◌^◌, List, [], ◌∷◌, ◌++◌, length, Some, None, refl, sym, ap, subst, ◌∙◌, arith, append_assoc, Bool, true, false, cond}
use Rattle.std.specs.Prelude.{Option, nat_lt}
use Rattle.std.proofs.lemmas.List.{append-nil}
use Rattle.std.proofs.lemmas.Bool.{ltb-true}
use Rattle.std.proofs.lemmas.Bool.Decides.{nat_tests}
use Rattle.acpi_base.specs.declared.error.Error.{Error}
use Rattle.acpi_base.specs.declared.error.Error.TheVariants.{Memory, PkgLength}
use Rattle.acpi_base.specs.Object.{Object, whole, ended, all_of}
use Rattle.acpi_base.proofs.Lists.{joined_whole, chain_whole}
use Rattle.acpi_term.specs.declared.mode.Mode.{Mode}
use Rattle.acpi_term.specs.declared.op.Op.{Op}
use Rattle.acpi_term.specs.declared.op.Op.TheVariants.{CreateField, Acquire, Release}
use Rattle.acpi_term.specs.declared.language.Language.{Language}
use Rattle.acpi_term.specs.declared.language.Language.TheVariants.{Written, Standard}
use Rattle.acpi_term.specs.Language.{Grammar, written_grammar, has}
use Rattle.acpi_term.specs.Tree.{Entry, named, reserved, access_as, extended_access_as, connection, connection_buffer, Head, number, def_field, def_index_field, def_bank_field, op, match_test, def_timeout, Terms, end, term, count, one}
use Rattle.acpi_term.specs.Length.{limit, least_width, with_length, FrameFits}
use Rattle.acpi_term.specs.Row.{entry_length, entries_end, Layout, bare, framed, layout, own, own_width, frame_end, frame, around, row, layout_width, writer_width}
use Rattle.acpi_term.specs.Spelling.{laid, spelled, spelling, inner, next, Stands, IsStandard, EntryFits, EntriesFit, HasLeastWidth, HaveLeastWidths, LayoutFits, HeadFits, IsWritten, takes_names, IsOver, TakesNames, Takes, IsLegal, Spells, SpellEach, SpellsIn, SpellEachIn}
use Rattle.acpi_term.specs.Operator.{place, language_of}
use Rattle.acpi_term.proofs.Operators.{any_inside}
use Rattle.acpi_term.proofs.Lengths.{width_carries, width_holds, number_carries}

pub ended_none : (e : Option Error) (o : Object) → (ended e o).end ≡ None → (e ≡ None) × (o.end ≡ None) × ((ended e o).front ≡ o.front)
ended_none None o h = (refl, h, refl)
ended_none (Some e) o h = absurd cc

small_enough : (n : ℕ) → frame_end n ≡ None → 4 + n < 2 ^ 28
small_enough n h = grind (arith, nat_tests)

pub frame_fits_it : (code content : List ℕ) → (frame code content).end ≡ None
    → FrameFits (least_width (length content)) content × ((frame code content).front ≡ code ++ with_length (least_width (length content)) content)
frame_fits_it code content h =
    let a = ended_none (frame_end (length content)) (whole (code ++ with_length (least_width (length content)) content)) h in
    (width_carries (length content) (small_enough (length content) a.0), a.2)

-- ---- the widths that are written

fits_in : (l : Layout) (inside : List ℕ) → (around l (whole inside)).end ≡ None → LayoutFits l (layout_width l 0 inside) inside
fits_in (bare before) inside h = refl
fits_in (framed code before after) inside h = (frame_fits_it code (before ++ (inside ++ after)) h).0

laid_around : (l : Layout) (w : ℕ) (inside : List ℕ) → (around l (whole inside)).end ≡ None → (around l (whole inside)).front ≡ laid l (layout_width l w inside) inside
laid_around (bare before) w inside h = refl
laid_around (framed code before after) w inside h = (frame_fits_it code (before ++ (inside ++ after)) h).1

-- a whole layout is round a whole object, and is that round its bytes
pub around_whole : (l : Layout) (o : Object) → (around l o).end ≡ None → (o.end ≡ None) × ((around l (whole o.front)).end ≡ None) × ((around l o).front ≡ (around l (whole o.front)).front)
around_whole (bare before) o h = ended_none o.end (whole (before ++ o.front)) h
around_whole (framed code before after) o h = ended_none o.end (frame code (before ++ (o.front ++ after))) h

entry_fits_it : (e : Entry) → HasLeastWidth e → entry_length e < 2 ^ 28 → EntryFits e
entry_fits_it (named name bits w) least small = subst (λ (w : ℕ). bits < limit w) (sym least) (width_holds bits small)
entry_fits_it (reserved bits w) least small = subst (λ (w : ℕ). bits < limit w) (sym least) (width_holds bits small)
entry_fits_it (access_as access attribute) least small = least
entry_fits_it (extended_access_as access attribute size) least small = least
entry_fits_it (connection name) least small = least
entry_fits_it (connection_buffer w size v bytes) least small = least

entry_fits : (t : Bool) (rest : Option Error) → cond t rest (Some PkgLength) ≡ None → (t ≡ true) × (rest ≡ None)
entry_fits true rest h = (refl, h)
entry_fits false rest h = absurd cc

pub entries_fit : (entries : List Entry) → HaveLeastWidths entries → entries_end entries ≡ None → EntriesFit entries
entries_fit [] least h = tt
entries_fit (e ∷ entries) least h =
    let t = entry_fits (nat_lt (entry_length e) (2 ^ 28)) (entries_end entries) h in
    (entry_fits_it e least.0 (ltb-true (entry_length e) (2 ^ 28) t.0), entries_fit entries least.1 t.1)

written_fits : (l : Language) (h : Head) (n : ℕ) (inside : List ℕ) → IsStandard l h → IsWritten h → own h n ≡ None → (around (layout h (own_width h) n) (whole inside)).end ≡ None → HeadFits h (writer_width h n inside) n inside
written_fits l (number v) n inside std written owns h = number_carries v std
written_fits l (def_field name access lock update entries) n inside std written owns h = (entries_fit entries written owns, fits_in (layout (def_field name access lock update entries) 0 n) inside h)
written_fits l (def_index_field index name access lock update entries) n inside std written owns h = (entries_fit entries written owns, fits_in (layout (def_index_field index name access lock update entries) 0 n) inside h)
written_fits l (def_bank_field name bank access lock update entries) n inside std written owns h = (entries_fit entries written owns, fits_in (layout (def_bank_field name bank access lock update entries) 0 n) inside h)
written_fits l head n inside std written owns h = fits_in (layout head (own_width head) n) inside h

same_layout : (h : Head) (n : ℕ) (inside : List ℕ) → layout h (own_width h) n ≡ layout h (writer_width h n inside) n
same_layout (number v) n inside = refl
same_layout head n inside = refl

stands_over : (h : Head) (inside : List ℕ) → TakesNames h → IsOver h inside
stands_over (op o) inside names = any_inside (place Standard o) inside names
stands_over h inside names = tt

-- ---- rows

module _ (g : Grammar) where
  pub each_in : (m : Mode) (objects : List Object) (ts : Terms) → SpellEachIn g m objects ts → (all_of objects).end ≡ None → SpellsIn g m (all_of objects).front ts × (count ts ≡ length objects)
  each_in m [] end s h = ((tt, refl), refl)
  each_in m [] (term k w c others) s h = absurd s
  each_in m (o ∷ os) end s h = absurd s
  each_in m (o ∷ os) (term k w c others) s h =
      let both = joined_whole o.front o.wants_memory (all_of os) o.end h in
      let rest = each_in (next m) os others s.1 both.1 in
      let first : o.front ≡ spelled k w (count c) (spelling c) = s.0.1 ∙ append-nil (spelled k w (count c) (spelling c)) in
      rw (chain_whole o (all_of os) both.0)
      (((s.0.0.0, s.0.0.1, rest.0.0), ap (λ (l : List ℕ). l ++ (all_of os).front) first ∙ ap (λ (l : List ℕ). spelled k w (count c) (spelling c) ++ l) rest.0.1), omega (arith, rest.1))

  over_means : (m : Mode) (h : Head) (n : ℕ) (bytes : List ℕ) (ts : Terms) → n ≡ count ts → Stands g.language m h → Takes g.arity m h n → IsStandard g.language h → IsWritten h → TakesNames h → own h n ≡ None → SpellsIn g (inner g.language h) bytes ts
      → (around (layout h (own_width h) n) (whole bytes)).end ≡ None → SpellsIn g m (around (layout h (own_width h) n) (whole bytes)).front (one h (writer_width h n bytes) ts)
  over_means m h n bytes ts same stands takes std written names owns spells h_whole =
      let w = writer_width h n bytes in
      let front : (around (layout h (own_width h) n) (whole bytes)).front ≡ spelled h w n bytes = laid_around (layout h (own_width h) n) (own_width h) bytes h_whole ∙ ap (λ (l : Layout). laid l w bytes) (same_layout h n bytes) in
      let head : IsLegal g m h w n bytes = record { stands = stands; takes = takes; is_standard = std; owns = owns; fits = written_fits g.language h n bytes std written owns h_whole; over = stands_over h bytes names } in
      let counted : IsLegal g m h w (count ts) bytes = subst (λ (k : ℕ). IsLegal g m h w k bytes) same head in (
        (subst (λ (l : List ℕ). IsLegal g m h w (count ts) l) spells.1 counted, spells.0, tt),
        front ∙ ap (λ (k : ℕ). spelled h w k bytes) same ∙ ap (spelled h w (count ts)) spells.1 ∙ sym (append-nil (spelled h w (count ts) (spelling ts))),
      )

pub rows_over_mean_in : (g : Grammar) (m : Mode) (h : Head) (bytes : List ℕ) (ts : Terms) → Stands g.language m h → Takes g.arity m h (count ts) → IsStandard g.language h → IsWritten h → TakesNames h → own h (count ts) ≡ None → SpellsIn g (inner g.language h) bytes ts
    → (around (layout h (own_width h) (count ts)) (whole bytes)).end ≡ None → SpellsIn g m (around (layout h (own_width h) (count ts)) (whole bytes)).front (one h (writer_width h (count ts) bytes) ts)
rows_over_mean_in g m h bytes ts = over_means g m h (count ts) bytes ts refl

pub rows_mean_in : (g : Grammar) (m : Mode) (h : Head) (objects : List Object) (ts : Terms) → Stands g.language m h → Takes g.arity m h (length objects) → IsStandard g.language h → IsWritten h → TakesNames h → SpellEachIn g (inner g.language h) objects ts
    → (row h objects).end ≡ None → SpellsIn g m (row h objects).front (one h (writer_width h (length objects) (all_of objects).front) ts)
rows_mean_in g m h objects ts stands takes std written names spells h_whole =
    let l = layout h (own_width h) (length objects) in
    let a = ended_none (own h (length objects)) (around l (all_of objects)) h_whole in
    let b = around_whole l (all_of objects) a.1 in
    let d = each_in g (inner g.language h) objects ts spells b.0 in
    let e = over_means g m h (length objects) (all_of objects).front ts (sym d.1) stands takes std written names a.0 d.0 b.1 in
    (e.0, a.2 ∙ b.2 ∙ e.1)

-- ---- the same of what this library writes

-- neither a test nor a timeout is written, so a head that is written stands in every place
stands_written : (m : Mode) (h : Head) → IsStandard Written h → Stands Written m h
stands_written m (match_test k) std = absurd cc
stands_written m (def_timeout t) std = absurd cc
stands_written m h std = (refl, refl)

-- each operator that is written takes names
op_names : (o : Op) → has Written (language_of o) ≡ true → takes_names (place Standard o) ≡ true
op_names CreateField std = refl
op_names Acquire std = absurd cc
op_names Release std = absurd cc
op_names o std = refl

written_names : (h : Head) → IsStandard Written h → TakesNames h
written_names (op o) std = op_names o std
written_names h std = tt

pub each : (arity : List ℕ → ℕ) (m : Mode) (objects : List Object) (ts : Terms) → SpellEach arity m objects ts → (all_of objects).end ≡ None → Spells arity m (all_of objects).front ts × (count ts ≡ length objects)
each arity = each_in (written_grammar arity)

pub rows_over_mean : (arity : List ℕ → ℕ) (m : Mode) (h : Head) (bytes : List ℕ) (ts : Terms) → Takes arity m h (count ts) → IsStandard Written h → IsWritten h → own h (count ts) ≡ None → Spells arity (inner Written h) bytes ts
    → (around (layout h (own_width h) (count ts)) (whole bytes)).end ≡ None → Spells arity m (around (layout h (own_width h) (count ts)) (whole bytes)).front (one h (writer_width h (count ts) bytes) ts)
rows_over_mean arity m h bytes ts takes std written = rows_over_mean_in (written_grammar arity) m h bytes ts (stands_written m h std) takes std written (written_names h std)

pub rows_mean : (arity : List ℕ → ℕ) (m : Mode) (h : Head) (objects : List Object) (ts : Terms) → Takes arity m h (length objects) → IsStandard Written h → IsWritten h → SpellEach arity (inner Written h) objects ts
    → (row h objects).end ≡ None → Spells arity m (row h objects).front (one h (writer_width h (length objects) (all_of objects).front) ts)
rows_mean arity m h objects ts takes std written = rows_mean_in (written_grammar arity) m h objects ts (stands_written m h std) takes std written (written_names h std)

-- ---- refusals

pub ended_some : (stop : Option Error) (o : Object) (e : Error) → stop ≡ Some e → ((ended stop o).front ≡ []) × ((ended stop o).end ≡ Some e)
ended_some stop o e is = rw is (refl, refl)

-- a row whose head is refused gives nothing
pub row_refused : (h : Head) (objects : List Object) (e : Error) → own h (length objects) ≡ Some e → ((row h objects).front ≡ []) × ((row h objects).end ≡ Some e)
row_refused h objects e is = ended_some (own h (length objects)) (around (layout h (own_width h) (length objects)) (all_of objects)) e is

nested_from : (a b f : List ℕ) (stop : Option Error) → ended stop (whole ((a ++ b) ++ f)) ≡ around (bare a) (all_of (ended stop (whole (b ++ f)) ∷ []))
nested_from a b f None = ap whole (append_assoc a b f ∙ ap (λ (l : List ℕ). a ++ l) (sym (append-nil (b ++ f))))
nested_from a b f (Some e) = refl

-- a row in a row, with nothing else
pub nested : (a b : List ℕ) (inside : Object) → around (bare (a ++ b)) inside ≡ around (bare a) (all_of (around (bare b) inside ∷ []))
nested a b inside = nested_from a b inside.front inside.end

by_test : (b : Bool) (e : Error) → cond b None (Some PkgLength) ≡ Some e → e ≡ Memory → ⊥
by_test true e h is = cc
by_test false e h is = cc

-- a frame isn't refused for Memory
pub frame_refused : (n : ℕ) (e : Error) → frame_end n ≡ Some e → e ≡ Memory → ⊥
frame_refused n e h is = by_test (nat_lt (4 + n) (2 ^ 28)) e h is
