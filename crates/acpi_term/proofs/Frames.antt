-- Lengths and frames: what is read is spelled so, and what is spelled so is read.
use Rattle.std.proofs.Common.{◌≡◌, ℕ, zero, suc, ◌+◌, ◌-◌, ◌*◌, ◌/◌, ◌%◌, ◌^◌, ◌<◌, ◌≤◌, true, false, ltb, List, [], ◌∷◌, ◌++◌, length, take, drop, Ok, refl, sym, ap, subst, ◌∙◌, append_assoc, arith, inl, inr}
use Rattle.std.proofs.lemmas.Bool.{ltb-false, ltb-true, le-ltb, lt-ltb}
use Rattle.std.proofs.lemmas.List.{take_at, drop_at, take-append-drop, length-append, length-take}
use Rattle.acpi_base.specs.Bytes.{AreBytes, le}
use Rattle.acpi_term.specs.Length.{limit, length_bytes, with_length, FrameFits}
use Rattle.acpi_base.proofs.Bytes.{bytes_take, bytes_drop, le_step}
use Rattle.acpi_term.proofs.Lengths.{long_below, long_fits, long_is, length_long}
use Rattle.acpi_term.specs.Reading.{Bad, cut_at, high_at, length_at, sized_at, frame_at}
use Rattle.acpi_term.proofs.Steps.{bind_ok, ok_is, chosen, passed, admitted, Takes}

cut_takes : (n : ℕ) (bytes s rest : List ℕ) → AreBytes bytes → cut_at n bytes ≡ Ok (s, rest) → Takes bytes s rest × AreBytes s × (length s ≡ n)
cut_takes n bytes s rest fits e =
    let g = passed (ltb (length bytes) n) Bad (Ok (take n bytes, drop n bytes)) (s, rest) e in
    let long : n ≤ length bytes = ltb-false _ _ g.0 in
    let same = ok_is {A = List ℕ × List ℕ} (take n bytes, drop n bytes) (s, rest) g.1 in
    subst (λ (p : List ℕ × List ℕ). Takes bytes p.0 p.1 × AreBytes p.0 × (length p.0 ≡ n)) same
    (record { parts = sym (take-append-drop n bytes); rest_fits = bytes_drop n bytes fits }, bytes_take n bytes fits, omega (arith, length-take n bytes))

cut_again : (s rest : List ℕ) → cut_at (length s) (s ++ rest) ≡ Ok (s, rest)
cut_again s rest =
    let long : ltb (length (s ++ rest)) (length s) ≡ false = le-ltb _ _ (omega (arith, length-append s rest)) in
    rw (long, take_at s rest (length s) refl, drop_at s rest (length s) refl) refl

-- ---- numbers of k bytes

pub high_again : (k h : ℕ) (rest : List ℕ) → h < 256 ^ k → high_at k (le k h ++ rest) ≡ Ok (h, rest)
unfolding high_at
high_again zero h rest lt = let z : h ≡ 0 = omega arith in rw z refl
high_again (suc k) h rest lt =
    let p : 256 ^ suc k ≡ 256 * 256 ^ k = grind arith in
    let q : h / 256 < 256 ^ k = omega (arith, p) in
    let back : h % 256 + 256 * (h / 256) ≡ h = omega arith in
    ap (λ (l : List ℕ). high_at (suc k) (l ++ rest)) (le_step k h) ∙ rw (high_again k (h / 256) rest q, back) refl

pub record IsHigh (k h : ℕ) (bytes rest : List ℕ) : Type 0 where
  pub parts : bytes ≡ le k h ++ rest
  pub below : h < 256 ^ k
  pub fits : AreBytes rest

high_more : (k b h : ℕ) (more rest : List ℕ) → b < 256 → IsHigh k h more rest → IsHigh (suc k) (b + 256 * h) (b ∷ more) rest
high_more k b h more rest lt t =
    let r : (b + 256 * h) % 256 ≡ b = omega arith in
    let q : (b + 256 * h) / 256 ≡ h = omega arith in
    let p : 256 ^ suc k ≡ 256 * 256 ^ k = grind arith in
    let first : le (suc k) (b + 256 * h) ≡ b ∷ le k h = le_step k (b + 256 * h) ∙ rw (r, q) refl in
    record { parts = ap (λ (l : List ℕ). b ∷ l) t.parts ∙ ap (λ (l : List ℕ). l ++ rest) (sym first); below = omega (arith, p, t.below); fits = t.fits }

pub high_takes : (k : ℕ) (bytes : List ℕ) (x : ℕ × List ℕ) → AreBytes bytes → high_at k bytes ≡ Ok x → IsHigh k x.0 bytes x.1
unfolding high_at
high_takes zero bytes x fits e = subst (λ (y : ℕ × List ℕ). IsHigh 0 y.0 bytes y.1) (ok_is {A = ℕ × List ℕ} (0, bytes) x e) (record { parts = refl; below = omega arith; fits = fits })
high_takes (suc k) [] x fits e = absurd cc
high_takes (suc k) (b ∷ more) x fits e =
    let a = bind_ok (high_at k more) (λ h. Ok (b + 256 * h.0, h.1)) x e in
    let t = high_takes k more a.0 fits.1 a.1 in
    subst (λ (y : ℕ × List ℕ). IsHigh (suc k) y.0 (b ∷ more) y.1) (ok_is {A = ℕ × List ℕ} (b + 256 * a.0.0, a.0.1) x a.2) (high_more k b a.0.0 more a.0.1 (fits.0) t)

-- ---- lengths

-- a length that was read, and the bytes after it
pub record IsLength (bytes : List ℕ) (w v : ℕ) (rest : List ℕ) : Type 0 where
  pub parts : bytes ≡ length_bytes w v ++ rest
  pub fits : v < limit w
  pub rest_fits : AreBytes rest

pub length_again : (w v : ℕ) (rest : List ℕ) → v < limit w → length_at (length_bytes w v ++ rest) ≡ Ok (w, v, rest)
unfolding length_at length_bytes
length_again zero v rest lt = absurd (omega arith)
length_again (suc zero) v rest lt = let short : ltb v 64 ≡ true = lt-ltb v 64 lt in rw short refl
length_again (suc (suc k)) v rest lt =
    let l = long_below (suc k) v (omega arith) lt in
    let few : k ≤ 2 = omega (arith, l.0) in
    let long : ltb (64 * suc k + v % 16) 64 ≡ false = le-ltb _ _ (omega arith) in
    let q : (64 * suc k + v % 16) / 64 ≡ suc k = omega arith in
    let r : (64 * suc k + v % 16) % 64 ≡ v % 16 = omega arith in
    let low : ltb (v % 16) 16 ≡ true = lt-ltb _ _ (omega arith) in
    let back : v % 16 + 16 * (v / 16) ≡ v = omega arith in
    let w : suc k + 1 ≡ suc (suc k) = omega arith in
    rw (length_long k v, long, q, r, low, high_again (suc k) (v / 16) rest l.1, back, w) refl

long_takes : (b : ℕ) (more : List ℕ) (h : ℕ × List ℕ) → 64 ≤ b → b < 256 → b % 64 < 16 → IsHigh (b / 64) h.0 more h.1 → IsLength (b ∷ more) (b / 64 + 1) (b % 64 + 16 * h.0) h.1
long_takes b more h ge lt small t =
    let back : 64 * (b / 64) + b % 64 ≡ b = omega arith in
    let same : suc (b / 64) ≡ b / 64 + 1 = omega arith in
    record {
      parts = rw (long_is (b / 64) (b % 64) h.0 (omega arith) small, back, t.parts) refl;
      fits = subst (λ (w : ℕ). b % 64 + 16 * h.0 < limit w) same (long_fits (b / 64) (b % 64) h.0 (omega arith) (omega arith) small t.below);
      rest_fits = t.fits;
    }

short_takes : (b : ℕ) (more : List ℕ) → b < 64 → AreBytes more → IsLength (b ∷ more) 1 b more
unfolding length_bytes
short_takes b more lt fits = record { parts = refl; fits = lt; rest_fits = fits }

pub length_takes : (bytes : List ℕ) (x : ℕ × ℕ × List ℕ) → AreBytes bytes → length_at bytes ≡ Ok x → IsLength bytes x.0 x.1 x.2
unfolding length_at
length_takes [] x fits e = absurd cc
length_takes (b ∷ more) x fits e =
    elim (chosen (ltb b 64) _ _ _ e) [
      | inl w ↦ subst (λ (y : ℕ × ℕ × List ℕ). IsLength (b ∷ more) y.0 y.1 y.2) (ok_is {A = ℕ × ℕ × List ℕ} (1, b, more) x w.1) (short_takes b more (ltb-true b 64 w.0) fits.1)
      | inr w ↦
          let g = admitted (ltb (b % 64) 16) Bad _ x w.1 in
          let h = bind_ok (high_at (b / 64) more) (λ h. Ok (b / 64 + 1, b % 64 + 16 * h.0, h.1)) x g.1 in
          let t = high_takes (b / 64) more h.0 fits.1 h.1 in
          subst (λ (y : ℕ × ℕ × List ℕ). IsLength (b ∷ more) y.0 y.1 y.2) (ok_is {A = ℕ × ℕ × List ℕ} (b / 64 + 1, b % 64 + 16 * h.0.0, h.0.1) x h.2)
          (long_takes b more h.0 (ltb-false b 64 w.0) (fits.0) (ltb-true _ 16 g.0) t)
    ]

-- ---- frames

-- a content that was cut off, with the length before it
pub record Framed (bytes : List ℕ) (w : ℕ) (content after : List ℕ) : Type 0 where
  pub parts : bytes ≡ with_length w content ++ after
  pub fits : FrameFits w content
  pub inside_fits : AreBytes content
  pub after_fits : AreBytes after

pub frame_again : (w : ℕ) (content after : List ℕ) → FrameFits w content → frame_at (with_length w content ++ after) ≡ Ok (w, content, after)
unfolding frame_at
frame_again w content after fits =
    let v = w + length content in
    let grouped : with_length w content ++ after ≡ length_bytes w v ++ (content ++ after) = append_assoc (length_bytes w v) content after in
    let enough : ltb v w ≡ false = le-ltb v w (omega arith) in
    let n : v - w ≡ length content = omega arith in
    rw (grouped, length_again w v (content ++ after) fits, enough, n, cut_again content after) refl

frame_is : (w v : ℕ) (bytes rest content after : List ℕ) → IsLength bytes w v rest → w ≤ v → Takes rest content after × AreBytes content × (length content ≡ v - w) → Framed bytes w content after
frame_is w v bytes rest content after l le c =
    let is : v ≡ w + length content = omega (arith, c.2) in
    record {
      parts = l.parts ∙ rw (is, c.0.parts) (sym (append_assoc (length_bytes w (w + length content)) content after));
      fits = subst (λ (k : ℕ). k < limit w) is l.fits;
      inside_fits = c.1;
      after_fits = c.0.rest_fits;
    }

pub frame_takes : (bytes : List ℕ) (x : ℕ × List ℕ × List ℕ) → AreBytes bytes → frame_at bytes ≡ Ok x → Framed bytes x.0 x.1 x.2
unfolding frame_at
frame_takes bytes x fits e =
    let l = bind_ok (length_at bytes) (λ l. sized_at l.0 l.1 l.2) x e in
    let t = length_takes bytes l.0 fits l.1 in
    let g = passed (ltb l.0.1 l.0.0) Bad _ x l.2 in
    let c = bind_ok (cut_at (l.0.1 - l.0.0) l.0.2) (λ c. Ok (l.0.0, c.0, c.1)) x g.1 in
    subst (λ (y : ℕ × List ℕ × List ℕ). Framed bytes y.0 y.1 y.2) (ok_is {A = ℕ × List ℕ × List ℕ} (l.0.0, c.0.0, c.0.1) x c.2)
    (frame_is l.0.0 l.0.1 bytes l.0.2 c.0.0 c.0.1 t (ltb-false _ _ g.0) (cut_takes (l.0.1 - l.0.0) l.0.2 c.0.0 c.0.1 t.rest_fits c.1))
