-- Loops that spell.
use Rattle.std.proofs.Common.{◌≡◌, ℕ, suc, ◌+◌, ◌<◌, ◌≤◌, ◌^◌, List, [], ◌∷◌, ◌++◌, length, get_or, drop, None, Some, refl, sym, ap, subst, ◌∙◌, append_assoc, arith, add-one, drop-cons}
use Rattle.std.specs.Prelude.{map, ◌≢◌, ◌↔◌, Option}
use Rattle.std.proofs.lemmas.List.{append-nil, nil_from_length, length-append, length-drop}
use Rattle.acpi_base.specs.declared.error.Error.{Error}
use Rattle.acpi_base.specs.declared.error.Error.TheVariants.{Memory}
use Rattle.acpi_term.specs.declared.term.Term.{Term}
use Rattle.acpi_term.specs.declared.term.TermEntry.{TermEntry}
use Rattle.acpi_term.specs.Length.{with_length, FrameFits}
use Rattle.acpi_term.specs.Row.{entry_bytes, entries_bytes, Layout, bare, framed, code_of, before_of, after_of, field_flags, layout}
use Rattle.acpi_term.specs.Tree.{Entry, Head, number, def_field, def_index_field, def_bank_field, Terms, term, count}
use Rattle.acpi_term.specs.Spelling.{laid, spelled, spelling, EntryFits, EntriesFit, LayoutFits, HeadFits}
use Rattle.acpi_term.specs.View.{Parts, entry_view, view, views, single, IsApart}
use Rattle.acpi_term.proofs.Entries.{entries_owned}
use Rattle.acpi_term.specs.Carried.{IsUnfit, AreCarried, Added, IsUncarried, FlagsFit, ValuesFit, BareFits, Laid, Unlaid, OwnLaid, OwnUnlaid}

dropped : {X : Type 0} (xs : List X) (i : ℕ) (x : X) → i < length xs → x ≡ get_or xs i x → drop i xs ≡ x ∷ drop (i + 1) xs
dropped xs i x inside is = drop-cons xs i x inside ∙ rw (add-one, ← is) refl

past : {X : Type 0} (xs : List X) (i : ℕ) → length xs ≤ i → drop i xs ≡ []
past xs i all = nil_from_length (drop i xs) (omega (arith, length-drop i xs))

-- ---- entries

-- as far as the entry i
pub record EntriesGo (entries : List TermEntry) (i : ℕ) (old now : List ℕ) : Type 0 where
  pub parts : now ++ entries_bytes (map entry_view (drop i entries)) ≡ old ++ entries_bytes (map entry_view entries)
  pub back : EntriesFit (map entry_view (drop i entries)) → EntriesFit (map entry_view entries)
  pub on : EntriesFit (map entry_view entries) → EntriesFit (map entry_view (drop i entries))

pub entries_start : (entries : List TermEntry) (old : List ℕ) → EntriesGo entries 0 old old
entries_start entries old = record { parts = refl; back = λ f. f; on = λ f. f }

module _ (entries : List TermEntry) (i : ℕ) (old now : List ℕ) (g : EntriesGo entries i old now) where
  pub entries_go_on : (e : TermEntry) (new : List ℕ) → i < length entries → e ≡ get_or entries i e → new ≡ now ++ entry_bytes (entry_view e) → EntryFits (entry_view e) → EntriesGo entries (i + 1) old new
  entries_go_on e new inside is added fits =
      let d = dropped entries i e inside is in
      record {
        parts = ap (λ (l : List ℕ). l ++ entries_bytes (map entry_view (drop (i + 1) entries))) added ∙ append_assoc now (entry_bytes (entry_view e)) (entries_bytes (map entry_view (drop (i + 1) entries)))
            ∙ ap (λ (l : List TermEntry). now ++ entries_bytes (map entry_view l)) (sym d) ∙ g.parts;
        back = λ f. g.back (subst (λ (l : List TermEntry). EntriesFit (map entry_view l)) (sym d) (fits, f));
        on = λ f. (subst (λ (l : List TermEntry). EntriesFit (map entry_view l)) d (g.on f)).1;
      }

  pub entries_stop : (e : TermEntry) (error : Error) → IsUnfit error e → i < length entries → e ≡ get_or entries i e → (error ≡ Memory → ⊥) → EntriesFit (map entry_view entries) → ⊥
  entries_stop e error unfit inside is other f = unfit.cause other (subst (λ (l : List TermEntry). EntriesFit (map entry_view l)) (dropped entries i e inside is) (g.on f)).0

  pub entries_done : length entries ≤ i → (now ≡ old ++ entries_bytes (map entry_view entries)) × EntriesFit (map entry_view entries)
  entries_done all =
      let d = past entries i all in
      (sym (append-nil now) ∙ ap (λ (l : List TermEntry). now ++ entries_bytes (map entry_view l)) (sym d) ∙ g.parts, g.back (subst (λ (l : List TermEntry). EntriesFit (map entry_view l)) (sym d) tt))

-- ---- terms

-- as far as the term i
pub record TermsGo (terms : List Term) (i : ℕ) (old now : List ℕ) : Type 0 where
  pub parts : now ++ spelling (views (drop i terms)) ≡ old ++ spelling (views terms)
  pub back : AreCarried (views (drop i terms)) → AreCarried (views terms)
  pub on : AreCarried (views terms) → AreCarried (views (drop i terms))

pub terms_start : (terms : List Term) (old : List ℕ) → TermsGo terms 0 old old
terms_start terms old = record { parts = refl; back = λ f. f; on = λ f. f }

-- a term and others
first_carried : (p : Parts) (o : Terms) → AreCarried (single p) → AreCarried o → AreCarried (term p.0 p.1 p.2 o)
first_carried p o f g = (f.0, f.1, g)

module _ (terms : List Term) (i : ℕ) (old now : List ℕ) (g : TermsGo terms i old now) where
  pub terms_go_on : (t : Term) (new : List ℕ) → i < length terms → t ≡ get_or terms i t → Added (single (view t)) now new → TermsGo terms (i + 1) old new
  terms_go_on t new inside is added =
      let d = dropped terms i t inside is in
      let o = views (drop (i + 1) terms) in
      let here : spelling (single (view t)) ≡ spelled (view t).0 (view t).1 (count (view t).2) (spelling (view t).2) = append-nil _ in
      record {
        parts = ap (λ (l : List ℕ). l ++ spelling o) added.joined ∙ append_assoc now (spelling (single (view t))) (spelling o) ∙ ap (λ (l : List ℕ). now ++ (l ++ spelling o)) here
            ∙ ap (λ (l : List Term). now ++ spelling (views l)) (sym d) ∙ g.parts;
        back = λ f. g.back (subst (λ (l : List Term). AreCarried (views l)) (sym d) (first_carried (view t) o added.carried f));
        on = λ f. (subst (λ (l : List Term). AreCarried (views l)) d (g.on f)).2;
      }

  pub terms_stop : (t : Term) (e : Error) → IsUncarried e (single (view t)) → i < length terms → t ≡ get_or terms i t → IsUncarried e (views terms)
  terms_stop t e stop inside is = record { cause = λ other f. let h = subst (λ (l : List Term). AreCarried (views l)) (dropped terms i t inside is) (g.on f) in stop.cause other (h.0, h.1, tt) }

  pub terms_done : length terms ≤ i → Added (views terms) old now
  terms_done all =
      let d = past terms i all in
      record {
        joined = sym (append-nil now) ∙ ap (λ (l : List Term). now ++ spelling (views l)) (sym d) ∙ g.parts;
        carried = g.back (subst (λ (l : List Term). AreCarried (views l)) (sym d) tt);
      }

-- ---- lists in two parts

spelled_both : (a b : List Term) → spelling (views (a ++ b)) ≡ spelling (views a) ++ spelling (views b)
spelled_both [] b = refl
spelled_both (t ∷ a) b =
    let here = spelled (view t).0 (view t).1 (count (view t).2) (spelling (view t).2) in
    ap (λ (l : List ℕ). here ++ l) (spelled_both a b) ∙ sym (append_assoc here (spelling (views a)) (spelling (views b)))

carried_both : (a b : List Term) → AreCarried (views a) → AreCarried (views b) → AreCarried (views (a ++ b))
carried_both [] b f g = g
carried_both (t ∷ a) b f g = (f.0, f.1, carried_both a b f.2 g)

carried_first : (a b : List Term) → AreCarried (views (a ++ b)) → AreCarried (views a)
carried_first [] b f = tt
carried_first (t ∷ a) b f = (f.0, f.1, carried_first a b f.2)

carried_others : (a b : List Term) → AreCarried (views (a ++ b)) → AreCarried (views b)
carried_others [] b f = f
carried_others (t ∷ a) b f = carried_others a b f.2

pub count_views : (ts : List Term) → count (views ts) ≡ length ts
count_views [] = refl
count_views (t ∷ ts) = ap suc (count_views ts)

added_both : (a b : List Term) (old mid new : List ℕ) → Added (views a) old mid → Added (views b) mid new → Added (views (a ++ b)) old new
added_both a b old mid new first others = record {
  carried = carried_both a b first.carried others.carried;
  joined =
      others.joined ∙ ap (λ (l : List ℕ). l ++ spelling (views b)) first.joined ∙ append_assoc old (spelling (views a)) (spelling (views b))
      ∙ ap (λ (l : List ℕ). old ++ l) (sym (spelled_both a b));
}

-- ---- a term over its children

module _ (t : Term) (h : Head) (w : ℕ) (a b : List Term) (apart : IsApart t h w a b) where
  counted : (n : ℕ) → n ≡ length a + length b → n ≡ count (view t).2
  counted n is = is ∙ sym (length-append a b) ∙ sym (count_views (a ++ b)) ∙ ap count apart.children

  pub laid_on : (n : ℕ) (old mid inside own new : List ℕ) → n ≡ length a + length b → Added (views a) [] mid → Added (views b) mid inside → Laid h w n inside own → new ≡ old ++ own → Added (single (view t)) old new
  laid_on n old mid inside own new is first others head added =
      let p = view t in
      let all : Added p.2 [] inside = subst (λ (ts : Terms). Added ts [] inside) apart.children (added_both a b [] mid inside first others) in
      let same : Laid p.0 p.1 (count p.2) (spelling p.2) own = rw (← apart.head, ← apart.width, ← counted n is, ← all.joined) head in
      record {
        carried = (same.carried, all.carried, tt);
        joined = added ∙ ap (λ (l : List ℕ). old ++ l) (same.is ∙ sym (append-nil (spelled p.0 p.1 (count p.2) (spelling p.2))));
      }

  pub first_stop : (e : Error) → IsUncarried e (views a) → IsUncarried e (single (view t))
  first_stop e stop = record { cause = λ other f. stop.cause other (carried_first a b (subst AreCarried (sym apart.children) f.1)) }

  pub others_stop : (e : Error) → IsUncarried e (views b) → IsUncarried e (single (view t))
  others_stop e stop = record { cause = λ other f. stop.cause other (carried_others a b (subst AreCarried (sym apart.children) f.1)) }

  pub unlaid_on : (n : ℕ) (e : Error) (mid inside : List ℕ) → n ≡ length a + length b → Added (views a) [] mid → Added (views b) mid inside → Unlaid e h w n inside → IsUncarried e (single (view t))
  unlaid_on n e mid inside is first others stop =
      let p = view t in
      let all : Added p.2 [] inside = subst (λ (ts : Terms). Added ts [] inside) apart.children (added_both a b [] mid inside first others) in
      let same : Unlaid e p.0 p.1 (count p.2) (spelling p.2) = rw (← apart.head, ← apart.width, ← counted n is, ← all.joined) stop in
      record { cause = λ other f. same.cause other f.0 }

-- ---- a head round the bytes inside

bare_in : (l : Layout) (w : ℕ) (inside : List ℕ) → None ≡ code_of l → w ≡ 0 → LayoutFits l w inside
bare_in (bare before) w inside is zero = zero
bare_in (framed code before after) w inside is zero = absurd cc

bare_out : (l : Layout) (w : ℕ) (inside : List ℕ) → None ≡ code_of l → LayoutFits l w inside → w ≡ 0
bare_out (bare before) w inside is fits = fits
bare_out (framed code before after) w inside is fits = absurd cc

laid_bare : (l : Layout) (w : ℕ) (inside : List ℕ) → None ≡ code_of l → laid l w inside ≡ before_of l ++ inside
laid_bare (bare before) w inside is = refl
laid_bare (framed code before after) w inside is = absurd cc

bare_to : (h : Head) (w n : ℕ) (inside : List ℕ) → None ≡ code_of (layout h w n) → ValuesFit h w → BareFits h w → HeadFits h w n inside
bare_to (number v) w n inside is values fits = values
bare_to (def_field name access lock update entries) w n inside is values fits = absurd cc
bare_to (def_index_field index name access lock update entries) w n inside is values fits = absurd cc
bare_to (def_bank_field name bank access lock update entries) w n inside is values fits = absurd cc
bare_to h w n inside is values fits = bare_in (layout h w n) w inside is fits

bare_from : (h : Head) (w n : ℕ) (inside : List ℕ) → None ≡ code_of (layout h w n) → HeadFits h w n inside → ValuesFit h w × BareFits h w
bare_from (number v) w n inside is fits = (fits, tt)
bare_from (def_field name access lock update entries) w n inside is fits = absurd cc
bare_from (def_index_field index name access lock update entries) w n inside is fits = absurd cc
bare_from (def_bank_field name bank access lock update entries) w n inside is fits = absurd cc
bare_from h w n inside is fits = (tt, bare_out (layout h w n) w inside is fits)

frame_in : (l : Layout) (w : ℕ) (inside code : List ℕ) → Some code ≡ code_of l → LayoutFits l w inside ↔ FrameFits w (before_of l ++ (inside ++ after_of l))
frame_in (bare before) w inside code is = absurd cc
frame_in (framed own before after) w inside code is = (λ f. f, λ f. f)

some_is : (a b : List ℕ) → ◌≡◌ {A = Option (List ℕ)} (Some a) (Some b) → a ≡ b
some_is a b is = cc

laid_frame : (l : Layout) (w : ℕ) (inside code : List ℕ) → Some code ≡ code_of l → laid l w inside ≡ code ++ with_length w (before_of l ++ (inside ++ after_of l))
laid_frame (bare before) w inside code is = absurd cc
laid_frame (framed own before after) w inside code is = rw (some_is code own is) refl

frame_to : (h : Head) (w n : ℕ) (inside code : List ℕ) → Some code ≡ code_of (layout h w n) → ValuesFit h w → LayoutFits (layout h w n) w inside → HeadFits h w n inside
frame_to (number v) w n inside code is values fits = values
frame_to (def_field name access lock update entries) w n inside code is values fits = (values, fits)
frame_to (def_index_field index name access lock update entries) w n inside code is values fits = (values, fits)
frame_to (def_bank_field name bank access lock update entries) w n inside code is values fits = (values, fits)
frame_to h w n inside code is values fits = fits

frame_from : (h : Head) (w n : ℕ) (inside code : List ℕ) → Some code ≡ code_of (layout h w n) → HeadFits h w n inside → ValuesFit h w × LayoutFits (layout h w n) w inside
frame_from (number v) w n inside code is fits = absurd cc
frame_from (def_field name access lock update entries) w n inside code is fits = fits
frame_from (def_index_field index name access lock update entries) w n inside code is fits = fits
frame_from (def_bank_field name bank access lock update entries) w n inside code is fits = fits
frame_from h w n inside code is fits = (tt, fits)

values_of : (h : Head) (w n : ℕ) (inside : List ℕ) → HeadFits h w n inside → ValuesFit h w
values_of (number v) w n inside fits = fits
values_of (def_field name access lock update entries) w n inside fits = fits.0
values_of (def_index_field index name access lock update entries) w n inside fits = fits.0
values_of (def_bank_field name bank access lock update entries) w n inside fits = fits.0
values_of h w n inside fits = tt

module _ (h : Head) (w n : ℕ) (inside : List ℕ) where
  pub bare_laid : (before bytes : List ℕ) → None ≡ code_of (layout h w n) → OwnLaid h w n before → bytes ≡ before ++ inside → BareFits h w → Laid h w n inside bytes
  bare_laid before bytes is own made fits = record {
    carried = record { owns = own.carried.owns; flags = own.carried.flags; fits = bare_to h w n inside is own.carried.values fits };
    is = made ∙ ap (λ (l : List ℕ). l ++ inside) own.is ∙ sym (laid_bare (layout h w n) w inside is);
  }

  pub bare_unlaid : (e : Error) → None ≡ code_of (layout h w n) → (e ≢ Memory → BareFits h w → ⊥) → Unlaid e h w n inside
  bare_unlaid e is stop = record { cause = λ other c. stop other (bare_from h w n inside is c.fits).1 }

  pub frame_laid : (code before after bytes : List ℕ) → Some code ≡ code_of (layout h w n) → after ≡ after_of (layout h w n) → OwnLaid h w n before
      → bytes ≡ code ++ with_length w (before ++ (inside ++ after)) → FrameFits w (before ++ (inside ++ after)) → Laid h w n inside bytes
  frame_laid code before after bytes is tail own made fits =
      let same : before ++ (inside ++ after) ≡ before_of (layout h w n) ++ (inside ++ after_of (layout h w n)) = rw (own.is, tail) refl in
      record {
        carried = record { owns = own.carried.owns; flags = own.carried.flags; fits = frame_to h w n inside code is own.carried.values ((frame_in (layout h w n) w inside code is).1 (subst (FrameFits w) same fits)) };
        is = made ∙ ap (λ (l : List ℕ). code ++ with_length w l) same ∙ sym (laid_frame (layout h w n) w inside code is);
      }

  pub frame_unlaid : (e : Error) (code before after : List ℕ) → Some code ≡ code_of (layout h w n) → after ≡ after_of (layout h w n) → OwnLaid h w n before
      → (e ≢ Memory → FrameFits w (before ++ (inside ++ after)) → ⊥) → Unlaid e h w n inside
  frame_unlaid e code before after is tail own stop = record {
    cause = λ other c.
        let same : before ++ (inside ++ after) ≡ before_of (layout h w n) ++ (inside ++ after_of (layout h w n)) = rw (own.is, tail) refl in
        stop other (subst (FrameFits w) (sym same) ((frame_in (layout h w n) w inside code is).0 (frame_from h w n inside code is c.fits).1));
  }

  pub after_unlaid : (e : Error) → (e ≢ Memory → FlagsFit h → ValuesFit h w → ⊥) → Unlaid e h w n inside
  after_unlaid e stop = record { cause = λ other c. stop other c.flags (values_of h w n inside c.fits) }

  pub own_unlaid : (e : Error) → OwnUnlaid e h w n → Unlaid e h w n inside
  own_unlaid e stop = record { cause = λ other c. stop.cause other (record { owns = c.owns; flags = c.flags; values = values_of h w n inside c.fits }) }

pub index_laid : (index name old new : List ℕ) (access lock update flags w n : ℕ) (entries : List Entry) → flags ≡ field_flags access lock update → flags < 2 ^ 8 → old ≡ index ++ (name ++ flags ∷ []) → new ≡ old ++ entries_bytes entries → EntriesFit entries
    → OwnLaid (def_index_field index name access lock update entries) w n new
index_laid index name old new access lock update flags w n entries is small head made fits = record {
  carried = record { owns = entries_owned entries fits; flags = rw (← is) small; values = fits };
  is = made ∙ ap (λ (l : List ℕ). l ++ entries_bytes entries) head ∙ append_assoc index (name ++ flags ∷ []) (entries_bytes entries)
      ∙ ap (λ (l : List ℕ). index ++ l) (append_assoc name (flags ∷ []) (entries_bytes entries) ∙ ap (λ (k : ℕ). name ++ k ∷ entries_bytes entries) is);
}

pub field_laid : (name old new : List ℕ) (access lock update flags w n : ℕ) (entries : List Entry) → flags ≡ field_flags access lock update → flags < 2 ^ 8 → old ≡ name ++ flags ∷ [] → new ≡ old ++ entries_bytes entries → EntriesFit entries
    → OwnLaid (def_field name access lock update entries) w n new
field_laid name old new access lock update flags w n entries is small head made fits = record {
  carried = record { owns = entries_owned entries fits; flags = rw (← is) small; values = fits };
  is = made ∙ ap (λ (l : List ℕ). l ++ entries_bytes entries) head ∙ append_assoc name (flags ∷ []) (entries_bytes entries) ∙ ap (λ (k : ℕ). name ++ k ∷ entries_bytes entries) is;
}

pub bank_laid : (name bank bytes : List ℕ) (access lock update w n : ℕ) (entries : List Entry) → field_flags access lock update < 2 ^ 8 → EntriesFit entries → bytes ≡ name ++ (bank ++ []) → OwnLaid (def_bank_field name bank access lock update entries) w n bytes
bank_laid name bank bytes access lock update w n entries small fits made = record {
  carried = record { owns = entries_owned entries fits; flags = small; values = fits };
  is = made ∙ ap (λ (l : List ℕ). name ++ l) (append-nil bank);
}
