-- What is read is spelled so.
use Rattle.std.proofs.Common.{◌≡◌, ℕ, zero, suc, ◌/◌, ◌%◌, ◌<◌, ◌≤◌, ltb, eqb, inl, inr, List, [], ◌∷◌, ◌++◌, length, Ok, refl, sym, ap, subst, ◌∙◌, append_assoc, arith}
use Rattle.std.proofs.lemmas.Bool.{ltb-false, ltb-true, eqb-true}
use Rattle.std.proofs.lemmas.List.{append-nil, length-append}
use Rattle.acpi_base.specs.Bytes.{AreBytes}
use Rattle.acpi_term.specs.declared.mode.Mode.{Mode}
use Rattle.acpi_term.specs.declared.mode.Mode.TheVariants.{Term, Element}
use Rattle.acpi_term.specs.declared.language.Language.TheVariants.{Standard}
use Rattle.acpi_term.specs.Language.{Grammar}
use Rattle.acpi_term.specs.Tree.{Head, def_package, def_roomy_package, def_bank_field, def_buffer, Terms, end, term, count, depth}
use Rattle.acpi_term.specs.Row.{field_flags}
use Rattle.acpi_term.specs.Spelling.{spelled, spelling, inner, next, AreStandardEntries, IsLegal, AreLegal}
use Rattle.acpi_term.specs.Reading.{Bad, ◌>>=◌, least_of, One, assembled, Opened, follows, fills, packs, rooms, roomed, banks, banked, begins, open_at, Reader, entries_at, counted, all_of, wants_no_more, close, term_at}
use Rattle.acpi_term.proofs.Steps.{bind_ok, ok_is, passed, chosen, admitted}
use Rattle.acpi_term.proofs.Entries.{entries_takes}
use Rattle.acpi_term.proofs.Openings.{OpenTakes, open_takes, flags_is}
use Rattle.acpi_term.proofs.Again.{head_some, nothing_inside, something_inside}

-- a head, its width, its children and the bytes after it
abbrev pub Found : Type 0
Found = Head × ℕ × Terms × List ℕ

found_is : (s t : One) (after : List ℕ) (x : Found) → s ≡ t → ◌≡◌ {A = Found} (t.0, t.1, t.2, after) x → ◌≡◌ {A = Found} (s.0, s.1, s.2, after) x
found_is s t after x e f = ap (λ (t : One). (t.0, t.1, t.2, after)) e ∙ f

module _ (g : Grammar) where
  -- what the reading of one term, of several and of all took
  pub record OneTaken (d : ℕ) (m : Mode) (bytes : List ℕ) (x : Found) : Type 0 where
    pub parts : bytes ≡ spelled x.0 x.1 (count x.2) (spelling x.2) ++ x.3
    pub head : IsLegal g m x.0 x.1 (count x.2) (spelling x.2)
    pub children : AreLegal g (inner g.language x.0) x.2
    pub deep : depth x.2 < d
    pub rest_fits : AreBytes x.3

  pub record SeveralTaken (d n : ℕ) (m : Mode) (bytes : List ℕ) (x : Terms × List ℕ) : Type 0 where
    pub parts : bytes ≡ spelling x.0 ++ x.1
    pub number : count x.0 ≡ n
    pub fits : AreLegal g m x.0
    pub deep : depth x.0 ≤ d
    pub rest_fits : AreBytes x.1

  pub record AllTaken (d : ℕ) (m : Mode) (bytes : List ℕ) (ts : Terms) : Type 0 where
    pub parts : bytes ≡ spelling ts
    pub fits : AreLegal g m ts
    pub deep : depth ts ≤ d

  -- a reader takes what it reads
  pub record TakesOne (p : Reader) (d : ℕ) : Type 0 where
    pub takes : (m : Mode) (bytes : List ℕ) (x : Found) → AreBytes bytes → p m bytes ≡ Ok x → OneTaken d m bytes x

  several_more : (d n : ℕ) (m : Mode) (bytes : List ℕ) (t : Found) (o : Terms × List ℕ) → OneTaken d m bytes t → SeveralTaken d n (next m) t.3 o → SeveralTaken d (suc n) m bytes (term t.0 t.1 t.2 o.0, o.1)
  several_more d n m bytes t o one others = record {
    parts = one.parts ∙ ap (λ (l : List ℕ). spelled t.0 t.1 (count t.2) (spelling t.2) ++ l) others.parts ∙ sym (append_assoc (spelled t.0 t.1 (count t.2) (spelling t.2)) (spelling o.0) o.1);
    number = ap suc others.number;
    fits = (one.head, one.children, others.fits);
    deep = omega (arith, one.deep, others.deep);
    rest_fits = others.rest_fits;
  }

  all_more : (d : ℕ) (m : Mode) (bytes : List ℕ) (t : Found) (o : Terms) → OneTaken d m bytes t → AllTaken d (next m) t.3 o → AllTaken d m bytes (term t.0 t.1 t.2 o)
  all_more d m bytes t o one others = record {
    parts = one.parts ∙ ap (λ (l : List ℕ). spelled t.0 t.1 (count t.2) (spelling t.2) ++ l) others.parts;
    fits = (one.head, one.children, others.fits);
    deep = omega (arith, one.deep, others.deep);
  }

  module _ (p : Reader) (d : ℕ) (law : TakesOne p d) where
    counted_takes : (n : ℕ) (m : Mode) (bytes : List ℕ) (x : Terms × List ℕ) → AreBytes bytes → counted p n m bytes ≡ Ok x → SeveralTaken d n m bytes x
    unfolding counted
    counted_takes zero m bytes x fits e = subst (SeveralTaken d 0 m bytes) (ok_is {A = Terms × List ℕ} (end, bytes) x e) (record { parts = refl; number = refl; fits = tt; deep = omega arith; rest_fits = fits })
    counted_takes (suc n) m bytes x fits e =
        let a = bind_ok (p m bytes) (λ t. counted p n (next m) t.3 >>= λ o. Ok (term t.0 t.1 t.2 o.0, o.1)) x e in
        let b = bind_ok (counted p n (next m) a.0.3) (λ o. Ok (term a.0.0 a.0.1 a.0.2 o.0, o.1)) x a.2 in
        let one = law.takes m bytes a.0 fits a.1 in
        let others = counted_takes n (next m) a.0.3 b.0 one.rest_fits b.1 in
        subst (SeveralTaken d (suc n) m bytes) (ok_is {A = Terms × List ℕ} (term a.0.0 a.0.1 a.0.2 b.0.0, b.0.1) x b.2) (several_more d n m bytes a.0 b.0 one others)

    all_takes : (n : ℕ) (m : Mode) (bytes : List ℕ) (ts : Terms) → AreBytes bytes → all_of p n m bytes ≡ Ok ts → AllTaken d m bytes ts
    unfolding all_of
    all_takes n m [] ts fits e = subst (AllTaken d m []) (ok_is end ts e) (record { parts = refl; fits = tt; deep = omega arith })
    all_takes zero m (b ∷ bytes) ts fits e = absurd cc
    all_takes (suc n) m (b ∷ bytes) ts fits e =
        let a = bind_ok (p m (b ∷ bytes)) (λ t. all_of p n (next m) t.3 >>= λ o. Ok (term t.0 t.1 t.2 o)) ts e in
        let c = bind_ok (all_of p n (next m) a.0.3) (λ o. Ok (term a.0.0 a.0.1 a.0.2 o)) ts a.2 in
        let one = law.takes m (b ∷ bytes) a.0 fits a.1 in
        let others = all_takes n (next m) a.0.3 c.0 one.rest_fits c.1 in
        subst (AllTaken d m (b ∷ bytes)) (ok_is (term a.0.0 a.0.1 a.0.2 c.0) ts c.2) (all_more d m (b ∷ bytes) a.0 c.0 one others)

    nothing_more : (h : Head) (w : ℕ) (ts : Terms) (rest after : List ℕ) (x : Found) → wants_no_more p h w ts rest after ≡ Ok x → (rest ≡ []) × (◌≡◌ {A = Found} (h, w, ts, after) x)
    nothing_more h w ts [] after x e = (refl, ok_is {A = Found} (h, w, ts, after) x e)
    nothing_more h w ts (b ∷ rest) after x e = absurd cc

    follows_takes : (h : Head) (w n : ℕ) (rest bytes : List ℕ) (m : Mode) (o : Terms × List ℕ) → OpenTakes g m bytes (follows h w n rest) → SeveralTaken d n (inner g.language h) rest o → OneTaken (suc d) m bytes (h, w, o.0, o.1)
    follows_takes h w n rest bytes m o t s =
        let f = t.1 (spelling o.0) o.1 s.parts (record { nothing = λ z. nothing_inside o.0 (s.number ∙ z); something = λ p. something_inside g (inner g.language h) o.0 s.fits (omega (arith, s.number, p)) }) in
        let g = subst (λ (k : ℕ). (bytes ≡ spelled h w k (spelling o.0) ++ o.1) × IsLegal g m h w k (spelling o.0)) (sym s.number) f in
        record { parts = g.0; head = g.1; children = s.fits; deep = omega (arith, s.deep); rest_fits = s.rest_fits }

    fills_takes : (h : Head) (w : ℕ) (inside after bytes : List ℕ) (m : Mode) (ts : Terms) → OpenTakes g m bytes (fills h w inside after) → AllTaken d (inner g.language h) inside ts → least_of h ≤ count ts → OneTaken (suc d) m bytes (h, w, ts, after)
    fills_takes h w inside after bytes m ts t s enough =
        let g = subst (λ (l : List ℕ). (bytes ≡ spelled h w (count ts) l ++ after) × IsLegal g m h w (count ts) l) s.parts (t.2 (count ts) enough) in
        record { parts = g.0; head = g.1; children = s.fits; deep = omega (arith, s.deep); rest_fits = t.1 }

    packs_takes : (w n : ℕ) (inside after bytes : List ℕ) (m : Mode) (o : Terms × List ℕ) → OpenTakes g m bytes (packs w n inside after) → SeveralTaken d n Element inside o → o.1 ≡ [] → OneTaken (suc d) m bytes (def_package, w, o.0, after)
    packs_takes w n inside after bytes m o t s ended =
        let is : inside ≡ spelling o.0 = s.parts ∙ ap (λ (l : List ℕ). spelling o.0 ++ l) ended ∙ append-nil (spelling o.0) in
        let f = subst (λ (l : List ℕ). (bytes ≡ spelled def_package w n l ++ after) × IsLegal g m def_package w n l) is (t.2, t.3) in
        let g = subst (λ (k : ℕ). (bytes ≡ spelled def_package w k (spelling o.0) ++ after) × IsLegal g m def_package w k (spelling o.0)) (sym s.number) f in
        record { parts = g.0; head = g.1; children = s.fits; deep = omega (arith, s.deep); rest_fits = t.1 }

    rooms_takes : (h : Head) (w : ℕ) (inside after bytes : List ℕ) (m : Mode) (ts : Terms) → Element ≡ inner g.language h → AreBytes after → AllTaken d Element inside ts
        → (bytes ≡ spelled h w (count ts) inside ++ after) × IsLegal g m h w (count ts) inside → OneTaken (suc d) m bytes (h, w, ts, after)
    rooms_takes h w inside after bytes m ts place after_fits s f =
        let k = subst (λ (l : List ℕ). (bytes ≡ spelled h w (count ts) l ++ after) × IsLegal g m h w (count ts) l) s.parts f in
        record { parts = k.0; head = k.1; children = subst (λ (x : Mode). AreLegal g x ts) place s.fits; deep = omega (arith, s.deep); rest_fits = after_fits }

    begins_takes : (w : ℕ) (content after bytes : List ℕ) (m : Mode) (o : Terms × List ℕ) → OpenTakes g m bytes (begins w content after) → SeveralTaken d 1 Term content o → OneTaken (suc d) m bytes (def_buffer o.1, w, o.0, after)
    begins_takes w content after bytes m o t s =
        let f = t.2 (spelling o.0) o.1 s.parts in
        let g = subst (λ (k : ℕ). (bytes ≡ spelled (def_buffer o.1) w k (spelling o.0) ++ after) × IsLegal g m (def_buffer o.1) w k (spelling o.0)) (sym s.number) f in
        record { parts = g.0; head = g.1; children = s.fits; deep = omega (arith, s.deep); rest_fits = t.1 }

    banks_takes : (w : ℕ) (name bank content after bytes : List ℕ) (m : Mode) (c : Terms) (rest : List ℕ) (x : Found) → OpenTakes g m bytes (banks w name bank content after) → SeveralTaken d 1 Term content (c, rest)
        → banked w name bank c rest after ≡ Ok x → OneTaken (suc d) m bytes x
    unfolding banked
    banks_takes w name bank content after bytes m c [] x t s e = absurd cc
    banks_takes w name bank content after bytes m c (flags ∷ inside) x t s e =
        let low = admitted (ltb (flags % 16) 6) Bad _ x e in
        let high = admitted (ltb flags 96) Bad _ x low.1 in
        let a = bind_ok (entries_at Standard (length inside) inside) (λ e. Ok (def_bank_field name bank (flags % 16) (flags / 16 % 2) (flags / 32) e, w, c, after)) x high.1 in
        let entries = a.0 in
        let k = entries_takes Standard (length inside) inside entries s.rest_fits.1 a.1 in
        let small : flags % 16 < 6 = ltb-true _ 6 low.0 in
        let top : flags < 96 = ltb-true _ 96 high.0 in
        let split = s.parts ∙ ap (λ (x : ℕ). spelling c ++ x ∷ inside) (sym (flags_is flags)) ∙ ap (λ (l : List ℕ). spelling c ++ field_flags (flags % 16) (flags / 16 % 2) (flags / 32) ∷ l) k.parts in
        let standard = subst (λ l. AreStandardEntries l entries) (sym t.2) k.standard in
        let h = def_bank_field name bank (flags % 16) (flags / 16 % 2) (flags / 32) entries in
        let f = t.4 (spelling c) (flags % 16) (flags / 16 % 2) (flags / 32) entries (omega arith) (omega arith) (omega arith) standard k.fits split in
        let r = subst (λ (k : ℕ). (bytes ≡ spelled h w k (spelling c) ++ after) × IsLegal g m h w k (spelling c)) (sym s.number) f in
        subst (OneTaken (suc d) m bytes) (ok_is {A = Found} (h, w, c, after) x a.2) (record { parts = r.0; head = r.1; children = s.fits; deep = omega (arith, s.deep); rest_fits = t.1 })

    close_takes : (o : Opened) (bytes : List ℕ) (m : Mode) (x : Found) → OpenTakes g m bytes o → close p g.language o ≡ Ok x → OneTaken (suc d) m bytes x
    unfolding close assembled
    close_takes (follows h w n rest) bytes m x t e =
        let a = bind_ok (counted p n (inner g.language h) rest) (λ c. Ok (h, w, c.0, c.1)) x e in
        subst (OneTaken (suc d) m bytes) (ok_is {A = Found} (h, w, a.0.0, a.0.1) x a.2) (follows_takes h w n rest bytes m a.0 t (counted_takes n (inner g.language h) rest a.0 t.0 a.1))
    close_takes (fills h w inside after) bytes m x t e =
        let a = bind_ok (all_of p (length inside) (inner g.language h) inside) (λ c. assembled h w c >>= λ t. Ok (t.0, t.1, t.2, after)) x e in
        let f = bind_ok (assembled h w a.0) (λ t. Ok (t.0, t.1, t.2, after)) x a.2 in
        let b = passed (ltb (count a.0) (least_of h)) Bad (Ok (h, w, a.0)) f.0 f.1 in
        subst (OneTaken (suc d) m bytes) (found_is (h, w, a.0) f.0 after x (ok_is {A = One} (h, w, a.0) f.0 b.1) (ok_is {A = Found} (f.0.0, f.0.1, f.0.2, after) x f.2)) (fills_takes h w inside after bytes m a.0 t (all_takes (length inside) (inner g.language h) inside a.0 t.0 a.1) (ltb-false _ _ b.0))
    close_takes (packs w n inside after) bytes m x t e =
        let a = bind_ok (counted p n Element inside) (λ c. wants_no_more p def_package w c.0 c.1 after) x e in
        let b = nothing_more def_package w a.0.0 a.0.1 after x a.2 in
        subst (OneTaken (suc d) m bytes) b.1 (packs_takes w n inside after bytes m a.0 t (counted_takes n Element inside a.0 t.0 a.1) b.0)
    close_takes (rooms w n inside after) bytes m x t e =
        let a = bind_ok (all_of p (length inside) Element inside) (λ c. roomed w n c after) x e in
        let s = all_takes (length inside) Element inside a.0 t.0 a.1 in
        elim (chosen (eqb (count a.0) n) _ _ _ a.2) [
          | inl u ↦
              let same : n ≡ count a.0 = sym (eqb-true (count a.0) n u.0) in
              subst (OneTaken (suc d) m bytes) (ok_is {A = Found} (def_package, w, a.0, after) x u.1)
              (rooms_takes def_package w inside after bytes m a.0 refl t.1 s (subst (λ (k : ℕ). (bytes ≡ spelled def_package w k inside ++ after) × IsLegal g m def_package w k inside) same t.2))
          | inr v ↦
              let u = admitted (ltb (count a.0) n) Bad _ x v.1 in
              subst (OneTaken (suc d) m bytes) (ok_is {A = Found} (def_roomy_package n, w, a.0, after) x u.1)
              (rooms_takes (def_roomy_package n) w inside after bytes m a.0 refl t.1 s (t.3 (count a.0) (ltb-true (count a.0) n u.0)))
        ]
    close_takes (banks w name bank content after) bytes m x t e =
        let a = bind_ok (counted p 1 Term content) (λ c. banked w name bank c.0 c.1 after) x e in
        banks_takes w name bank content after bytes m a.0.0 a.0.1 x t (counted_takes 1 Term content a.0 t.0 a.1) a.2
    close_takes (begins w content after) bytes m x t e =
        let a = bind_ok (counted p 1 Term content) (λ c. Ok (def_buffer c.1, w, c.0, after)) x e in
        subst (OneTaken (suc d) m bytes) (ok_is {A = Found} (def_buffer a.0.1, w, a.0.0, after) x a.2) (begins_takes w content after bytes m a.0 t (counted_takes 1 Term content a.0 t.0 a.1))

  pub term_takes : (d : ℕ) → TakesOne (term_at g d) d
  unfolding term_at
  term_takes zero = record { takes = λ m bytes x fits e. absurd cc }
  term_takes (suc d) = record {
    takes = λ m bytes x fits e.
        let o = bind_ok (open_at g m bytes) (close (term_at g d) g.language) x e in
        close_takes (term_at g d) d (term_takes d) o.0 bytes m x (open_takes g m bytes o.0 fits o.1) o.2;
  }

  pub list_takes : (d n : ℕ) (m : Mode) (bytes : List ℕ) (ts : Terms) → AreBytes bytes → all_of (term_at g d) n m bytes ≡ Ok ts → AllTaken d m bytes ts
  list_takes d n m bytes ts fits e = all_takes (term_at g d) d (term_takes d) n m bytes ts fits e

  -- a term takes at least a byte
  pub record Shrinks (bytes rest : List ℕ) : Type 0 where
    pub less : length rest < length bytes
    pub fits : AreBytes rest

  pub term_shrinks : (d : ℕ) (m : Mode) (bytes : List ℕ) (x : Found) → AreBytes bytes → term_at g d m bytes ≡ Ok x → Shrinks bytes x.3
  term_shrinks d m bytes x fits e =
      let t = (term_takes d).takes m bytes x fits e in
      record {
        less = omega (arith, ap length t.parts, length-append (spelled x.0 x.1 (count x.2) (spelling x.2)) x.3, head_some g m x.0 x.1 (count x.2) (spelling x.2) t.head);
        fits = t.rest_fits;
      }
