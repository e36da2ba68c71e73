-- Names: what is read is spelled so, and what is spelled so is read.
use Rattle.std.proofs.Common.{◌≡◌, ℕ, zero, suc, ◌<◌, true, false, ltb, eqb, List, [], ◌∷◌, ◌++◌, length, Ok, refl, sym, ap, subst, ◌∙◌, append_assoc, arith, inl, inr}
use Rattle.std.specs.Prelude.{◌&&◌}
use Rattle.std.proofs.lemmas.Bool.{ltb-false, eqb-true, le-ltb, ne_eqb, and_parts}
use Rattle.acpi_base.specs.Bytes.{AreBytes}
use Rattle.acpi_term.specs.declared.language.Language.{Language}
use Rattle.acpi_term.specs.declared.language.Language.TheVariants.{Written, Standard}
use Rattle.acpi_term.specs.Name.{is_lead, is_part, is_segment, AreSegments, no_more, one_more, IsPath, single, double, multiple, IsName, relative, rooted, IsAbove, no_path, path_above, further_up, IsNameString, as_written, root_alone, upwards, IsNameIn}
use Rattle.acpi_term.specs.Reading.{Bad, ◌>>=◌, segment_at, segments_at, several_at, path_at, name_at, above_at, root_at, name_string_at, name_in}
use Rattle.acpi_term.proofs.Steps.{bind_ok, ok_is, chosen, passed, admitted}

-- ---- segments

pub lead_of : (a b c d : ℕ) → is_segment a b c d ≡ true → is_lead a ≡ true
unfolding is_segment
lead_of a b c d h =
    let p = and_parts (is_lead a && is_part b && is_part c) (is_part d) h in
    let q = and_parts (is_lead a && is_part b) (is_part c) p.0 in
    (and_parts (is_lead a) (is_part b) q.0).0

-- a byte that begins a segment is none that doesn't
pub lead_not : (a k : ℕ) → is_lead a ≡ true → is_lead k ≡ false → eqb a k ≡ false
lead_not a k h none = ne_eqb a k (λ e. let f : is_lead k ≡ true = rw e at h in cc)

-- ---- names

pub record IsSegment (s : List ℕ) : Type 0 where
  pub a : ℕ
  pub b : ℕ
  pub c : ℕ
  pub d : ℕ
  pub is : s ≡ a ∷ b ∷ c ∷ d ∷ []
  pub good : is_segment a b c d ≡ true

pub segment_takes : (bytes s rest : List ℕ) → segment_at bytes ≡ Ok (s, rest) → IsSegment s × (bytes ≡ s ++ rest)
segment_takes [] s rest e = absurd cc
segment_takes (a ∷ []) s rest e = absurd cc
segment_takes (a ∷ b ∷ []) s rest e = absurd cc
segment_takes (a ∷ b ∷ c ∷ []) s rest e = absurd cc
segment_takes (a ∷ b ∷ c ∷ d ∷ more) s rest e =
    let g = admitted (is_segment a b c d) Bad (Ok (a ∷ b ∷ c ∷ d ∷ [], more)) (s, rest) e in
    let same = ok_is {A = List ℕ × List ℕ} (a ∷ b ∷ c ∷ d ∷ [], more) (s, rest) g.1 in
    subst (λ (p : List ℕ × List ℕ). IsSegment p.0 × (a ∷ b ∷ c ∷ d ∷ more ≡ p.0 ++ p.1)) same (record { a = a; b = b; c = c; d = d; is = refl; good = g.0 }, refl)

segment_again : (a b c d : ℕ) (rest : List ℕ) → is_segment a b c d ≡ true → segment_at (a ∷ b ∷ c ∷ d ∷ rest) ≡ Ok (a ∷ b ∷ c ∷ d ∷ [], rest)
segment_again a b c d rest h = rw h

path_two : (s t : List ℕ) → IsSegment s → IsSegment t → IsPath (46 ∷ s ++ t)
path_two s t p q = rw (p.is, q.is) (double (one_more p.good (one_more q.good no_more)))

path_one : (s : List ℕ) → IsSegment s → IsPath s
path_one s p = rw p.is (single (one_more p.good no_more))

-- a byte and what is read after it
pub headed : (b k : ℕ) (more s rest : List ℕ) → b ≡ k → more ≡ s ++ rest → b ∷ more ≡ k ∷ s ++ rest
headed b k more s rest e f = rw (e, f) refl

pub two_parts : (b : ℕ) (more s r t rest : List ℕ) → b ≡ 46 → more ≡ s ++ r → r ≡ t ++ rest → b ∷ more ≡ (46 ∷ s ++ t) ++ rest
two_parts b more s r t rest e f g = rw (e, f, g) (ap (λ (l : List ℕ). 46 ∷ l) (sym (append_assoc s t rest)))

-- a count of segments

segments_one : (n : ℕ) (s t : List ℕ) → IsSegment s → AreSegments n t → AreSegments (suc n) (s ++ t)
segments_one n s t p q = rw p.is (one_more p.good q)

pub segments_takes : (n : ℕ) (bytes s rest : List ℕ) → segments_at n bytes ≡ Ok (s, rest) → AreSegments n s × (bytes ≡ s ++ rest)
unfolding segments_at
segments_takes zero bytes s rest e = subst (λ (p : List ℕ × List ℕ). AreSegments 0 p.0 × (bytes ≡ p.0 ++ p.1)) (ok_is {A = List ℕ × List ℕ} ([], bytes) (s, rest) e) (no_more, refl)
segments_takes (suc n) bytes s rest e =
    let x = bind_ok (segment_at bytes) (λ s. segments_at n s.1 >>= λ t. Ok (s.0 ++ t.0, t.1)) (s, rest) e in
    let y = bind_ok (segments_at n x.0.1) (λ t. Ok (x.0.0 ++ t.0, t.1)) (s, rest) x.2 in
    let first = segment_takes bytes x.0.0 x.0.1 x.1 in
    let others = segments_takes n x.0.1 y.0.0 y.0.1 y.1 in
    let same = ok_is {A = List ℕ × List ℕ} (x.0.0 ++ y.0.0, y.0.1) (s, rest) y.2 in
    let all : bytes ≡ (x.0.0 ++ y.0.0) ++ y.0.1 = first.1 ∙ ap (λ (l : List ℕ). x.0.0 ++ l) others.1 ∙ sym (append_assoc x.0.0 y.0.0 y.0.1) in
    subst (λ (p : List ℕ × List ℕ). AreSegments (suc n) p.0 × (bytes ≡ p.0 ++ p.1)) same (segments_one n x.0.0 y.0.0 first.0 others.0, all)

segments_again : (n : ℕ) (s rest : List ℕ) → AreSegments n s → segments_at n (s ++ rest) ≡ Ok (s, rest)
unfolding segments_at
segments_again n s rest no_more = refl
segments_again n s rest (one_more {n = k} {s = t} h p) = rw (h, segments_again k t rest p) refl

pub many_parts : (b n : ℕ) (after s rest : List ℕ) → b ≡ 47 → after ≡ s ++ rest → b ∷ n ∷ after ≡ (47 ∷ n ∷ s) ++ rest
many_parts b n after s rest is e = rw (is, e) refl

many_takes : (b : ℕ) (after s rest : List ℕ) → b ≡ 47 → AreBytes after → several_at after ≡ Ok (s, rest) → IsPath s × (b ∷ after ≡ s ++ rest)
unfolding several_at
many_takes b [] s rest is fits e = absurd cc
many_takes b (n ∷ after) s rest is fits e =
    let g = passed (ltb n 3) Bad _ (s, rest) e in
    let x = bind_ok (segments_at n after) (λ s. Ok (47 ∷ n ∷ s.0, s.1)) (s, rest) g.1 in
    let t = segments_takes n after x.0.0 x.0.1 x.1 in
    let same = ok_is {A = List ℕ × List ℕ} (47 ∷ n ∷ x.0.0, x.0.1) (s, rest) x.2 in
    let all = many_parts b n after x.0.0 x.0.1 is t.1 in
    subst (λ (p : List ℕ × List ℕ). IsPath p.0 × (b ∷ n ∷ after ≡ p.0 ++ p.1)) same (multiple (ltb-false n 3 g.0) (fits.0) t.0, all)

pub path_takes : (bytes s rest : List ℕ) → AreBytes bytes → path_at bytes ≡ Ok (s, rest) → IsPath s × (bytes ≡ s ++ rest)
unfolding path_at
path_takes [] s rest fits e = absurd cc
path_takes (b ∷ more) s rest fits e =
    elim (chosen (eqb b 46) _ _ _ e) [
      | inl w ↦
          let x = bind_ok (segment_at more) (λ s. segment_at s.1 >>= λ t. Ok (46 ∷ s.0 ++ t.0, t.1)) (s, rest) w.1 in
          let y = bind_ok (segment_at x.0.1) (λ t. Ok (46 ∷ x.0.0 ++ t.0, t.1)) (s, rest) x.2 in
          let first = segment_takes more x.0.0 x.0.1 x.1 in
          let second = segment_takes x.0.1 y.0.0 y.0.1 y.1 in
          let same = ok_is {A = List ℕ × List ℕ} (46 ∷ x.0.0 ++ y.0.0, y.0.1) (s, rest) y.2 in
          let all = two_parts b more x.0.0 x.0.1 y.0.0 y.0.1 (eqb-true b 46 w.0) first.1 second.1 in
          subst (λ (p : List ℕ × List ℕ). IsPath p.0 × (b ∷ more ≡ p.0 ++ p.1)) same (path_two x.0.0 y.0.0 first.0 second.0, all)
      | inr v ↦ elim (chosen (eqb b 47) _ _ _ v.1) [
        | inl w ↦ many_takes b more s rest (eqb-true b 47 w.0) (fits.1) w.1
        | inr w ↦ let x = segment_takes (b ∷ more) s rest w.1 in (path_one s x.0, x.1)
      ]
    ]

pub name_takes : (bytes s rest : List ℕ) → AreBytes bytes → name_at bytes ≡ Ok (s, rest) → IsName s × (bytes ≡ s ++ rest)
unfolding name_at
name_takes [] s rest fits e = absurd cc
name_takes (b ∷ more) s rest fits e =
    elim (chosen (eqb b 92) _ _ _ e) [
      | inl w ↦
          let x = bind_ok (path_at more) (λ s. Ok (92 ∷ s.0, s.1)) (s, rest) w.1 in
          let p = path_takes more x.0.0 x.0.1 (fits.1) x.1 in
          let same = ok_is {A = List ℕ × List ℕ} (92 ∷ x.0.0, x.0.1) (s, rest) x.2 in
          let all = headed b 92 more x.0.0 x.0.1 (eqb-true b 92 w.0) p.1 in
          subst (λ (p : List ℕ × List ℕ). IsName p.0 × (b ∷ more ≡ p.0 ++ p.1)) same (rooted p.0, all)
      | inr w ↦ let x = path_takes (b ∷ more) s rest fits w.1 in (relative x.0, x.1)
    ]

not_two : (a b c d : ℕ) → is_segment a b c d ≡ true → eqb a 46 ≡ false
unfolding is_segment
not_two a b c d h = lead_not a 46 (lead_of a b c d h) refl

not_several : (a b c d : ℕ) → is_segment a b c d ≡ true → eqb a 47 ≡ false
not_several a b c d h = lead_not a 47 (lead_of a b c d h) refl

not_root : (a b c d : ℕ) → is_segment a b c d ≡ true → eqb a 92 ≡ false
not_root a b c d h = lead_not a 92 (lead_of a b c d h) refl

path_again : (s rest : List ℕ) → IsPath s → path_at (s ++ rest) ≡ Ok (s, rest)
unfolding path_at several_at
path_again s rest (single (one_more {a} {b} {c} {d} h no_more)) = rw (not_two a b c d h, not_several a b c d h, h) refl
path_again s rest (double (one_more h (one_more k no_more))) = rw (h, k) refl
path_again s rest (multiple {n} {s = t} ge lt p) = rw (le-ltb n 3 ge, segments_again n t rest p) refl

first_not_root : (s rest : List ℕ) → IsPath s → name_at (s ++ rest) ≡ path_at (s ++ rest)
unfolding name_at
first_not_root s rest (single (one_more {a} {b} {c} {d} h no_more)) = rw (not_root a b c d h) refl
first_not_root s rest (double p) = refl
first_not_root s rest (multiple ge lt p) = refl

pub name_again : (s rest : List ℕ) → IsName s → name_at (s ++ rest) ≡ Ok (s, rest)
unfolding name_at
name_again s rest (relative p) = first_not_root s rest p ∙ path_again s rest p
name_again s rest (rooted {s = path} p) = rw (path_again path rest p) refl

pub name_some : (s : List ℕ) → IsName s → 0 < length s
name_some s (relative (single (one_more h p))) = omega arith
name_some s (relative (double p)) = omega arith
name_some s (relative (multiple ge lt p)) = omega arith
name_some s (rooted p) = omega arith

-- ---- the names of the standard

pub above_takes : (bytes s rest : List ℕ) → AreBytes bytes → above_at bytes ≡ Ok (s, rest) → IsAbove s × (bytes ≡ s ++ rest)
unfolding above_at
above_takes [] s rest fits e = absurd cc
above_takes (b ∷ more) s rest fits e =
    elim (chosen (eqb b 0) _ _ _ e) [
      | inl w ↦
          let same = ok_is {A = List ℕ × List ℕ} (0 ∷ [], more) (s, rest) w.1 in
          subst (λ (p : List ℕ × List ℕ). IsAbove p.0 × (b ∷ more ≡ p.0 ++ p.1)) same (no_path, headed b 0 more [] more (eqb-true b 0 w.0) refl)
      | inr v ↦ elim (chosen (eqb b 94) _ _ _ v.1) [
        | inl w ↦
            let x = bind_ok (above_at more) (λ s. Ok (94 ∷ s.0, s.1)) (s, rest) w.1 in
            let p = above_takes more x.0.0 x.0.1 fits.1 x.1 in
            let same = ok_is {A = List ℕ × List ℕ} (94 ∷ x.0.0, x.0.1) (s, rest) x.2 in
            subst (λ (p : List ℕ × List ℕ). IsAbove p.0 × (b ∷ more ≡ p.0 ++ p.1)) same (further_up p.0, headed b 94 more x.0.0 x.0.1 (eqb-true b 94 w.0) p.1)
        | inr w ↦ let x = path_takes (b ∷ more) s rest fits w.1 in (path_above x.0, x.1)
      ]
    ]

root_takes : (b : ℕ) (more s rest : List ℕ) → b ≡ 92 → AreBytes (b ∷ more) → root_at more ≡ Ok (s, rest) → IsNameString s × (b ∷ more ≡ s ++ rest)
unfolding root_at
root_takes b [] s rest is fits e = absurd cc
root_takes b (x ∷ more) s rest is fits e =
    elim (chosen (eqb x 0) _ _ _ e) [
      | inl w ↦
          let same = ok_is {A = List ℕ × List ℕ} (92 ∷ 0 ∷ [], more) (s, rest) w.1 in
          let all : b ∷ x ∷ more ≡ (92 ∷ 0 ∷ []) ++ more = rw (is, eqb-true x 0 w.0) refl in
          subst (λ (p : List ℕ × List ℕ). IsNameString p.0 × (b ∷ x ∷ more ≡ p.0 ++ p.1)) same (root_alone, all)
      | inr w ↦
          let f : AreBytes (92 ∷ x ∷ more) = subst (λ (k : ℕ). AreBytes (k ∷ x ∷ more)) is fits in
          let t = name_takes (92 ∷ x ∷ more) s rest f w.1 in
          (as_written t.0, ap (λ (k : ℕ). k ∷ x ∷ more) is ∙ t.1)
    ]

name_string_takes : (bytes s rest : List ℕ) → AreBytes bytes → name_string_at bytes ≡ Ok (s, rest) → IsNameString s × (bytes ≡ s ++ rest)
unfolding name_string_at
name_string_takes [] s rest fits e = absurd cc
name_string_takes (b ∷ more) s rest fits e =
    elim (chosen (eqb b 94) _ _ _ e) [
      | inl w ↦
          let x = bind_ok (above_at more) (λ s. Ok (94 ∷ s.0, s.1)) (s, rest) w.1 in
          let p = above_takes more x.0.0 x.0.1 fits.1 x.1 in
          let same = ok_is {A = List ℕ × List ℕ} (94 ∷ x.0.0, x.0.1) (s, rest) x.2 in
          subst (λ (p : List ℕ × List ℕ). IsNameString p.0 × (b ∷ more ≡ p.0 ++ p.1)) same (upwards p.0, headed b 94 more x.0.0 x.0.1 (eqb-true b 94 w.0) p.1)
      | inr v ↦ elim (chosen (eqb b 92) _ _ _ v.1) [
        | inl w ↦ root_takes b more s rest (eqb-true b 92 w.0) fits w.1
        | inr w ↦ let t = name_takes (b ∷ more) s rest fits w.1 in (as_written t.0, t.1)
      ]
    ]

not_null : (a b c d : ℕ) → is_segment a b c d ≡ true → eqb a 0 ≡ false
not_null a b c d h = lead_not a 0 (lead_of a b c d h) refl

not_up : (a b c d : ℕ) → is_segment a b c d ≡ true → eqb a 94 ≡ false
not_up a b c d h = lead_not a 94 (lead_of a b c d h) refl

above_path : (s rest : List ℕ) → IsPath s → above_at (s ++ rest) ≡ path_at (s ++ rest)
unfolding above_at
above_path s rest (single (one_more {a} {b} {c} {d} h no_more)) = rw (not_null a b c d h, not_up a b c d h) refl
above_path s rest (double p) = refl
above_path s rest (multiple ge lt p) = refl

above_again : (s rest : List ℕ) → IsAbove s → above_at (s ++ rest) ≡ Ok (s, rest)
unfolding above_at
above_again s rest no_path = refl
above_again s rest (path_above p) = above_path s rest p ∙ path_again s rest p
above_again s rest (further_up {s = t} p) = rw (above_again t rest p) refl

-- the path after a root isn't null
root_path : (s rest : List ℕ) → IsPath s → root_at (s ++ rest) ≡ name_at (92 ∷ s ++ rest)
unfolding root_at
root_path s rest (single (one_more {a} {b} {c} {d} h no_more)) = rw (not_null a b c d h) refl
root_path s rest (double p) = refl
root_path s rest (multiple ge lt p) = refl

unrooted_name : (s rest : List ℕ) → IsPath s → name_string_at (s ++ rest) ≡ name_at (s ++ rest)
unfolding name_string_at
unrooted_name s rest (single (one_more {a} {b} {c} {d} h no_more)) = rw (not_up a b c d h, not_root a b c d h) refl
unrooted_name s rest (double p) = refl
unrooted_name s rest (multiple ge lt p) = refl

name_string_again : (s rest : List ℕ) → IsNameString s → name_string_at (s ++ rest) ≡ Ok (s, rest)
unfolding name_string_at root_at
name_string_again s rest (as_written (relative p)) = unrooted_name s rest p ∙ name_again s rest (relative p)
name_string_again s rest (as_written (rooted {s = t} p)) = root_path t rest p ∙ name_again (92 ∷ t) rest (rooted p)
name_string_again s rest root_alone = refl
name_string_again s rest (upwards {s = t} p) = rw (above_again t rest p) refl

name_string_some : (s : List ℕ) → IsNameString s → 0 < length s
name_string_some s (as_written p) = name_some s p
name_string_some s root_alone = omega arith
name_string_some s (upwards p) = omega arith

-- ---- the names of a language

pub name_in_takes : (l : Language) (bytes s rest : List ℕ) → AreBytes bytes → name_in l bytes ≡ Ok (s, rest) → IsNameIn l s × (bytes ≡ s ++ rest)
name_in_takes Written bytes s rest fits e = name_takes bytes s rest fits e
name_in_takes Standard bytes s rest fits e = name_string_takes bytes s rest fits e

pub name_in_again : (l : Language) (s rest : List ℕ) → IsNameIn l s → name_in l (s ++ rest) ≡ Ok (s, rest)
name_in_again Written s rest p = name_again s rest p
name_in_again Standard s rest p = name_string_again s rest p

pub name_in_some : (l : Language) (s : List ℕ) → IsNameIn l s → 0 < length s
name_in_some Written s p = name_some s p
name_in_some Standard s p = name_string_some s p

pub is_name_string : (l : Language) (s : List ℕ) → IsNameIn l s → IsNameString s
is_name_string Written s p = as_written p
is_name_string Standard s p = p
