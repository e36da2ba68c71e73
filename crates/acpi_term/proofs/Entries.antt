-- Entries of fields: what is read is spelled so, and what is spelled so is read.
use Rattle.std.proofs.Common.{◌≡◌, ℕ, zero, suc, ◌+◌, ◌-◌, ◌^◌, ◌<◌, ◌≤◌, true, false, eqb, ltb, List, [], ◌∷◌, ◌++◌, length, None, Ok, refl, sym, ap, subst, ◌∙◌, append_assoc, arith, inl, inr}
use Rattle.std.proofs.lemmas.Bool.{eqb-true, lt-ltb}
use Rattle.std.proofs.lemmas.List.{length-append}
use Rattle.acpi_base.specs.Bytes.{AreBytes}
use Rattle.acpi_base.specs.Number.{number_limit}
use Rattle.acpi_term.specs.declared.language.Language.{Language}
use Rattle.acpi_term.specs.declared.language.Language.TheVariants.{Standard}
use Rattle.acpi_term.specs.Language.{has}
use Rattle.acpi_term.specs.Tree.{Entry, named, reserved, access_as, extended_access_as, connection, connection_buffer}
use Rattle.acpi_term.specs.Name.{AreSegments, no_more, one_more, IsNameIn}
use Rattle.acpi_term.specs.Length.{limit, length_bytes, with_length, FrameFits}
use Rattle.acpi_term.specs.Row.{connected, entry_bytes, entries_bytes, entry_length, entries_end}
use Rattle.acpi_term.specs.Spelling.{EntryIsStandard, AreStandardEntries, EntryFits, EntriesFit}
use Rattle.acpi_base.proofs.Bytes.{bytes_after}
use Rattle.acpi_term.proofs.Lengths.{limit_top}
use Rattle.acpi_term.specs.Reading.{Bad, ◌>>=◌, segment_at, length_at, frame_at, name_in, constant_at, access_at, extended_access_at, connection_at, entry_at, entries_at}
use Rattle.acpi_term.proofs.Steps.{bind_ok, ok_is, chosen, admitted}
use Rattle.acpi_term.proofs.Names.{lead_of, lead_not, IsSegment, segment_takes, name_in_takes, name_in_again}
use Rattle.acpi_term.proofs.Beginnings.{name_begins, begins_not}
use Rattle.acpi_term.proofs.Frames.{length_takes, length_again, IsLength, Framed, frame_takes, frame_again}
use Rattle.acpi_term.proofs.Constants.{IsConstant, constant_takes, constant_again}

module _ (l : Language) where
  pub record IsEntry (bytes : List ℕ) (e : Entry) (rest : List ℕ) : Type 0 where
    pub parts : bytes ≡ entry_bytes e ++ rest
    pub standard : EntryIsStandard l e
    pub fits : EntryFits e
    pub rest_fits : AreBytes rest
    pub less : length rest < length bytes

  reserved_is : (b w v : ℕ) (more rest : List ℕ) → b ≡ 0 → IsLength more w v rest → IsEntry (b ∷ more) (reserved v w) rest
  reserved_is b w v more rest is t = record {
    parts = rw (is, t.parts) refl;
    standard = tt;
    fits = t.fits;
    rest_fits = t.rest_fits;
    less = omega (arith, ap length t.parts, length-append (length_bytes w v) rest);
  }

  named_is : (w v : ℕ) (bytes s more rest : List ℕ) → IsSegment s → bytes ≡ s ++ more → IsLength more w v rest → IsEntry bytes (named s v w) rest
  named_is w v bytes s more rest p is t =
      let good : AreSegments 1 s = rw p.is (one_more p.good no_more) in
      let four : length s ≡ 4 = rw p.is refl in
      record {
        parts = is ∙ ap (λ (l : List ℕ). s ++ l) t.parts ∙ sym (append_assoc s (length_bytes w v) rest);
        standard = good;
        fits = t.fits;
        rest_fits = t.rest_fits;
        less = omega (arith, ap length is, length-append s more, ap length t.parts, length-append (length_bytes w v) rest, four);
      }

  -- an entry that was read after its first byte
  abbrev Takes : ℕ → List ℕ → Entry × List ℕ → Type 0
  Takes b more x = IsEntry (b ∷ more) x.0 x.1

  access_takes : (b : ℕ) (more : List ℕ) (x : Entry × List ℕ) → b ≡ 1 → has l Standard ≡ true → AreBytes more → access_at more ≡ Ok x → Takes b more x
  access_takes b [] x is further fits e = absurd cc
  access_takes b (access ∷ []) x is further fits e = absurd cc
  access_takes b (access ∷ attribute ∷ rest) x is further fits e =
      subst (Takes b (access ∷ attribute ∷ rest)) (ok_is {A = Entry × List ℕ} (access_as access attribute, rest) x e)
      (record { parts = rw is refl; standard = (further, fits.0, fits.1.0); fits = tt; rest_fits = fits.1.1; less = omega arith })

  extended_takes : (b : ℕ) (more : List ℕ) (x : Entry × List ℕ) → b ≡ 3 → has l Standard ≡ true → AreBytes more → extended_access_at more ≡ Ok x → Takes b more x
  extended_takes b [] x is further fits e = absurd cc
  extended_takes b (access ∷ []) x is further fits e = absurd cc
  extended_takes b (access ∷ attribute ∷ []) x is further fits e = absurd cc
  extended_takes b (access ∷ attribute ∷ size ∷ rest) x is further fits e =
      subst (Takes b (access ∷ attribute ∷ size ∷ rest)) (ok_is {A = Entry × List ℕ} (extended_access_as access attribute size, rest) x e)
      (record { parts = rw is refl; standard = (further, fits.0, fits.1.0, fits.1.1.0); fits = tt; rest_fits = fits.1.1.1; less = omega arith })

  buffer_is : (b c w : ℕ) (tail content after : List ℕ) (size v : ℕ) (bytes : List ℕ) → b ≡ 2 → c ≡ 17 → has l Standard ≡ true → Framed tail w content after → IsConstant content size v bytes → Takes b (c ∷ tail) (connection_buffer w size v bytes, after)
  buffer_is b c w tail content after size v bytes is also further f t = record {
    parts = rw (is, also) (ap (λ (s : List ℕ). 2 ∷ 17 ∷ s) (f.parts ∙ ap (λ (s : List ℕ). with_length w s ++ after) t.parts));
    standard = (further, t.top, t.rest_fits);
    fits = (t.fits, subst (FrameFits w) t.parts f.fits);
    rest_fits = f.after_fits;
    less = omega (arith, ap length f.parts, length-append (with_length w content) after);
  }

  name_is : (b : ℕ) (more s rest : List ℕ) → b ≡ 2 → has l Standard ≡ true → IsNameIn l s → more ≡ s ++ rest → AreBytes more → Takes b more (connection s, rest)
  name_is b more s rest is further p parts fits = record {
    parts = rw is (ap (λ (s : List ℕ). 2 ∷ s) parts);
    standard = (further, p);
    fits = tt;
    rest_fits = bytes_after s rest (subst AreBytes parts fits);
    less = omega (arith, ap length parts, length-append s rest);
  }

  connection_takes : (b : ℕ) (more : List ℕ) (x : Entry × List ℕ) → b ≡ 2 → has l Standard ≡ true → AreBytes more → connection_at l more ≡ Ok x → Takes b more x
  unfolding connection_at
  connection_takes b [] x is further fits e = absurd cc
  connection_takes b (c ∷ tail) x is further fits e =
      elim (chosen (eqb c 17) _ _ _ e) [
        | inl u ↦
            let f = bind_ok (frame_at tail) (λ f. constant_at f.1 >>= λ c. Ok (connection_buffer f.0 c.0 c.1 c.2, f.2)) x u.1 in
            let k = bind_ok (constant_at f.0.1) (λ c. Ok (connection_buffer f.0.0 c.0 c.1 c.2, f.0.2)) x f.2 in
            let t = frame_takes tail f.0 fits.1 f.1 in
            subst (Takes b (c ∷ tail)) (ok_is {A = Entry × List ℕ} (connection_buffer f.0.0 k.0.0 k.0.1 k.0.2, f.0.2) x k.2)
            (buffer_is b c f.0.0 tail f.0.1 f.0.2 k.0.0 k.0.1 k.0.2 is (eqb-true c 17 u.0) further t (constant_takes f.0.1 k.0 t.inside_fits k.1))
        | inr u ↦
            let n = bind_ok (name_in l (c ∷ tail)) (λ n. Ok (connection n.0, n.1)) x u.1 in
            let t = name_in_takes l (c ∷ tail) n.0.0 n.0.1 fits n.1 in
            subst (Takes b (c ∷ tail)) (ok_is {A = Entry × List ℕ} (connection n.0.0, n.0.1) x n.2) (name_is b (c ∷ tail) n.0.0 n.0.1 is further t.0 t.1 fits)
      ]

  pub entry_takes : (bytes : List ℕ) (x : Entry × List ℕ) → AreBytes bytes → entry_at l bytes ≡ Ok x → IsEntry bytes x.0 x.1
  unfolding entry_at
  entry_takes [] x fits e = absurd cc
  entry_takes (b ∷ more) x fits e =
      elim (chosen (eqb b 0) _ _ _ e) [
        | inl w ↦
            let l = bind_ok (length_at more) (λ l. Ok (reserved l.1 l.0, l.2)) x w.1 in
            let t = length_takes more l.0 fits.1 l.1 in
            subst (Takes b more) (ok_is {A = Entry × List ℕ} (reserved l.0.1 l.0.0, l.0.2) x l.2) (reserved_is b l.0.0 l.0.1 more l.0.2 (eqb-true b 0 w.0) t)
        | inr w ↦ elim (chosen (eqb b 1) _ _ _ w.1) [
          | inl u ↦ let a = admitted (has l Standard) Bad _ x u.1 in access_takes b more x (eqb-true b 1 u.0) a.0 fits.1 a.1
          | inr u ↦ elim (chosen (eqb b 2) _ _ _ u.1) [
            | inl v ↦ let a = admitted (has l Standard) Bad _ x v.1 in connection_takes b more x (eqb-true b 2 v.0) a.0 fits.1 a.1
            | inr v ↦ elim (chosen (eqb b 3) _ _ _ v.1) [
              | inl y ↦ let a = admitted (has l Standard) Bad _ x y.1 in extended_takes b more x (eqb-true b 3 y.0) a.0 fits.1 a.1
              | inr y ↦
                  let s = bind_ok (segment_at (b ∷ more)) (λ s. length_at s.1 >>= λ l. Ok (named s.0 l.1 l.0, l.2)) x y.1 in
                  let l = bind_ok (length_at s.0.1) (λ l. Ok (named s.0.0 l.1 l.0, l.2)) x s.2 in
                  let p = segment_takes (b ∷ more) s.0.0 s.0.1 s.1 in
                  let t = length_takes s.0.1 l.0 (bytes_after s.0.0 s.0.1 (subst AreBytes p.1 fits)) l.1 in
                  subst (Takes b more) (ok_is {A = Entry × List ℕ} (named s.0.0 l.0.1 l.0.0, l.0.2) x l.2) (named_is l.0.0 l.0.1 (b ∷ more) s.0.0 s.0.1 l.0.2 p.0 p.1 t)
            ]
          ]
        ]
      ]

  named_again : (s : List ℕ) (v w : ℕ) (rest : List ℕ) → AreSegments 1 s → v < limit w → entry_at l ((s ++ length_bytes w v) ++ rest) ≡ Ok (named s v w, rest)
  unfolding entry_at
  named_again s v w rest (one_more {a} {b} {c} {d} h no_more) lt =
      let lead = lead_of a b c d h in
      let zeroth : eqb a 0 ≡ false = lead_not a 0 lead refl in
      let first : eqb a 1 ≡ false = lead_not a 1 lead refl in
      let second : eqb a 2 ≡ false = lead_not a 2 lead refl in
      let third : eqb a 3 ≡ false = lead_not a 3 lead refl in
      rw (zeroth, first, second, third, h, length_again w v rest lt) refl

  name_again : (s rest : List ℕ) → IsNameIn l s → connection_at l (s ++ rest) ≡ Ok (connection s, rest)
  unfolding connection_at
  name_again s rest p =
      let x = name_begins l s rest p in
      let other : eqb x.0 17 ≡ false = begins_not l x.0 17 x.3 refl in
      let again : name_in l (x.0 ∷ x.1) ≡ Ok (s, rest) = ap (name_in l) (sym x.2) ∙ name_in_again l s rest p in
      ap (connection_at l) x.2 ∙ rw (other, again) refl

  buffer_again : (w size v : ℕ) (bytes rest : List ℕ) → size < number_limit v → FrameFits w (connected size v bytes) → connection_at l (17 ∷ (with_length w (connected size v bytes) ++ rest)) ≡ Ok (connection_buffer w size v bytes, rest)
  unfolding connection_at
  buffer_again w size v bytes rest small fits = rw (frame_again w (connected size v bytes) rest fits, constant_again size v bytes small) refl

  pub entry_again : (e : Entry) (rest : List ℕ) → EntryIsStandard l e → EntryFits e → entry_at l (entry_bytes e ++ rest) ≡ Ok (e, rest)
  unfolding entry_at
  entry_again (named s v w) rest f lt = named_again s v w rest f lt
  entry_again (reserved v w) rest f lt = rw (length_again w v rest lt) refl
  entry_again (access_as access attribute) rest f fits = rw f.0 refl
  entry_again (extended_access_as access attribute size) rest f fits = rw f.0 refl
  entry_again (connection name) rest f fits = rw (f.0, name_again name rest f.1) refl
  entry_again (connection_buffer w size v bytes) rest f fits = rw (f.0, buffer_again w size v bytes rest fits.0 fits.1) refl

  pub record AreEntries (bytes : List ℕ) (entries : List Entry) : Type 0 where
    pub parts : bytes ≡ entries_bytes entries
    pub standard : AreStandardEntries l entries
    pub fits : EntriesFit entries

  entries_more : (bytes : List ℕ) (e : Entry × List ℕ) (others : List Entry) → IsEntry bytes e.0 e.1 → AreEntries e.1 others → AreEntries bytes (e.0 ∷ others)
  entries_more bytes e others t o = record { parts = t.parts ∙ ap (λ (l : List ℕ). entry_bytes e.0 ++ l) o.parts; standard = (t.standard, o.standard); fits = (t.fits, o.fits) }

  pub entries_takes : (n : ℕ) (bytes : List ℕ) (entries : List Entry) → AreBytes bytes → entries_at l n bytes ≡ Ok entries → AreEntries bytes entries
  unfolding entries_at
  entries_takes n [] entries fits e = subst (AreEntries []) (ok_is {A = List Entry} [] entries e) (record { parts = refl; standard = tt; fits = tt })
  entries_takes zero (b ∷ bytes) entries fits e = absurd cc
  entries_takes (suc n) (b ∷ bytes) entries fits e =
      let a = bind_ok (entry_at l (b ∷ bytes)) (λ e. entries_at l n e.1 >>= λ others. Ok (e.0 ∷ others)) entries e in
      let c = bind_ok (entries_at l n a.0.1) (λ others. Ok (a.0.0 ∷ others)) entries a.2 in
      let t = entry_takes (b ∷ bytes) a.0 fits a.1 in
      let o = entries_takes n a.0.1 c.0 t.rest_fits c.1 in
      subst (AreEntries (b ∷ bytes)) (ok_is {A = List Entry} (a.0.0 ∷ c.0) entries c.2) (entries_more (b ∷ bytes) a.0 c.0 t o)

  pub entries_step : (n : ℕ) (bytes : List ℕ) → 0 < length bytes → length bytes ≤ n → entries_at l n bytes ≡ (entry_at l bytes >>= λ e. entries_at l (n - 1) e.1 >>= λ others. Ok (e.0 ∷ others))
  unfolding entries_at
  entries_step n [] some le = absurd (omega arith)
  entries_step zero (b ∷ bytes) some le = absurd (omega arith)
  entries_step (suc n) (b ∷ bytes) some le = let less : suc n - 1 ≡ n = omega arith in rw less refl

  entry_some : (e : Entry) → EntryIsStandard l e → 0 < length (entry_bytes e)
  entry_some (named s v w) (one_more h p) = omega arith
  entry_some (reserved v w) f = omega arith
  entry_some (access_as access attribute) f = omega arith
  entry_some (extended_access_as access attribute size) f = omega arith
  entry_some (connection name) f = omega arith
  entry_some (connection_buffer w size v bytes) f = omega arith

  pub entries_again : (entries : List Entry) (n : ℕ) → length (entries_bytes entries) ≤ n → AreStandardEntries l entries → EntriesFit entries → entries_at l n (entries_bytes entries) ≡ Ok entries
  unfolding entries_at
  entries_again [] n le f g = refl
  entries_again (e ∷ entries) n le f g =
      let len = length-append (entry_bytes e) (entries_bytes entries) in
      let some = entry_some e f.0 in
      entries_step n (entries_bytes (e ∷ entries)) (omega (arith, len, some)) le
      ∙ rw (entry_again e (entries_bytes entries) f.0 g.0, entries_again entries (n - 1) (omega (arith, len, some, le)) f.1 g.1) refl

-- an entry that fits its width has fewer than 2^28 bits or bytes
entry_small : (e : Entry) → EntryFits e → entry_length e < 2 ^ 28
entry_small (named s v w) f = limit_top v w f
entry_small (reserved v w) f = limit_top v w f
entry_small (access_as access attribute) f = omega arith
entry_small (extended_access_as access attribute size) f = omega arith
entry_small (connection name) f = omega arith
entry_small (connection_buffer w size v bytes) f = let top : w + length (connected size v bytes) < 2 ^ 28 = limit_top (w + length (connected size v bytes)) w f.1 in omega (arith, top)

pub entries_owned : (entries : List Entry) → EntriesFit entries → entries_end entries ≡ None
entries_owned [] f = refl
entries_owned (e ∷ entries) f =
    let small : ltb (entry_length e) (2 ^ 28) ≡ true = lt-ltb _ _ (entry_small e f.0) in
    rw (small, entries_owned entries f.1) refl
