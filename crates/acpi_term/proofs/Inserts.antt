-- Bytes put into a list at a place.
use Rattle.std.proofs.Common.{◌≡◌, ℕ, ◌+◌, ◌-◌, ◌≤◌, List, ◌++◌, length, take, drop, refl, sym, ap, ◌∙◌, arith, append_assoc, length-append, length-drop}
use Rattle.std.specs.List.{copy_within}
use Rattle.std.proofs.lemmas.List.{take-append-le, drop-append-le, take-append-drop, length-take-le, take_at}
use Rattle.std.proofs.Math.Seq.{take-length}
use Rattle.std.proofs.lemmas.List.Edits.{take-paste, length-paste}
use Rattle.acpi_base.specs.Bytes.{put}
use Rattle.acpi_base.proofs.Puts.{put_in, parts}

module _ (x a b : List ℕ) (at end : ℕ) (in_order : at ≤ end) (room : end + (length a + length b) ≡ length x) where
  -- the bytes from the place on, moved up
  moved : copy_within x at end (at + (length a + length b)) ≡ take (at + (length a + length b)) x ++ take (end - at) (drop at x)
  moved =
      let k = length a + length b in
      let m = end - at in
      let short : m ≤ length (drop at x) = rw (length-drop at x) (omega arith) in
      let all : length (copy_within x at end (at + k)) ≡ at + k + m = length-paste x (at + k) (drop at x) m (omega arith) short ∙ omega arith in
      sym (take-length (copy_within x at end (at + k))) ∙ ap (λ (n : ℕ). take n (copy_within x at end (at + k))) all ∙ take-paste x (at + k) (drop at x) m (omega arith) short

  pub filled : put (at + length a) b (put at a (copy_within x at end (at + (length a + length b)))) ≡ take at x ++ ((a ++ b) ++ take (end - at) (drop at x))
  filled =
      let k = length a + length b in
      let q = take (at + k) x in
      let t = take (end - at) (drop at x) in
      let p = take at q in
      let m = take (length a) (drop at q) in
      let n = drop (length a) (drop at q) in
      let lq : length q ≡ at + k = length-take-le (at + k) x (omega arith) in
      let lp : length p ≡ at = length-take-le at q (omega (arith, lq)) in
      let lr : length (drop at q) ≡ k = length-drop at q ∙ omega (arith, lq) in
      let lm : length m ≡ length a = length-take-le (length a) (drop at q) (omega (arith, lr)) in
      let ln : length n ≡ length b = length-drop (length a) (drop at q) ∙ omega (arith, lr) in
      let cut : q ++ t ≡ p ++ (m ++ (n ++ t)) = ap (λ (l : List ℕ). l ++ t) (parts at (length a) q) ∙ append_assoc p (m ++ n) t ∙ ap (λ (l : List ℕ). p ++ l) (append_assoc m n t) in
      let first : put at a (p ++ (m ++ (n ++ t))) ≡ (p ++ a) ++ (n ++ t) = put_in p m (n ++ t) a at lp lm ∙ sym (append_assoc p a (n ++ t)) in
      let second : put (at + length a) b ((p ++ a) ++ (n ++ t)) ≡ (p ++ a) ++ (b ++ t) = put_in (p ++ a) n t b (at + length a) (length-append p a ∙ omega (arith, lp)) ln in
      let same : p ≡ take at x = sym (ap (take at) (sym (take-append-drop (at + k) x)) ∙ take-append-le at q (drop (at + k) x) (omega (arith, lq))) in
      ap (λ (l : List ℕ). put (at + length a) b (put at a l)) (moved ∙ cut) ∙ ap (put (at + length a) b) first ∙ second
      ∙ append_assoc p a (b ++ t) ∙ ap (λ (l : List ℕ). p ++ l) (sym (append_assoc a b t)) ∙ ap (λ (l : List ℕ). l ++ ((a ++ b) ++ t)) same

-- the same of a list to whose end as many were added
pub inserted : (old a b new tail : List ℕ) (at : ℕ) → at ≤ length old → new ≡ take at (old ++ tail) ++ ((a ++ b) ++ take (length old - at) (drop at (old ++ tail))) → new ≡ take at old ++ ((a ++ b) ++ drop at old)
inserted old a b new tail at within is =
    let front : take at (old ++ tail) ≡ take at old = take-append-le at old tail within in
    let back : take (length old - at) (drop at (old ++ tail)) ≡ drop at old = ap (take (length old - at)) (drop-append-le at old tail within) ∙ take_at (drop at old) tail (length old - at) (length-drop at old) in
    is ∙ rw (front, back) refl
