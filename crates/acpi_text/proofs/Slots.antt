-- The lines of bytes, one after another.
use Rattle.std.proofs.Common.{◌≡◌, ℕ, suc, ◌+◌, ◌/◌, ◌<◌, ◌≤◌, nat_lt, cond}
use Rattle.std.proofs.Common.{List, ◌++◌, length, take, drop, codes, sym, ap, ◌∙◌, append_assoc, arith, inl, inr}
use Rattle.std.proofs.lemmas.List.{length-drop, length-take-le, take_all, nil_from_length}
use Rattle.std.proofs.lemmas.Bool.{lt-ltb, le-ltb, cases_lt}
use Rattle.acpi_text.specs.Line.{line}
use Rattle.acpi_base.specs.Look as looks
use Rattle.acpi_text.specs.Slot.{nameless, nameless_lines}

lines_left : (bytes : List ℕ) → 0 < length bytes → (length bytes + 15) / 16 ≡ suc ((length (drop 16 bytes) + 15) / 16)
lines_left bytes some = omega (arith, length-drop 16 bytes)

pub nameless_some : (at : ℕ) (bytes : List ℕ) → 0 < length bytes
    → nameless at bytes ≡ line 0 at (codes "Bytes") looks.bytes 1 (length (take 16 bytes)) (take 16 bytes) ++ nameless (at + 16) (drop 16 bytes)
nameless_some at bytes some = ap (λ k. nameless_lines k at bytes) (lines_left bytes some)

line_front : (rest : List ℕ) (k : ℕ) → length rest ≤ 16 → length rest ≤ k → take k rest ≡ take 16 rest
line_front rest k short all = take_all k rest all ∙ sym (take_all 16 rest short)

no_more : (at n k m : ℕ) (rest : List ℕ) → length rest ≤ k → length rest ≤ m → nameless at (drop k rest) ≡ nameless n (drop m rest)
no_more at n k m rest one two =
    ap (nameless at) (nil_from_length (drop k rest) (omega (arith, length-drop k rest)))
    ∙ sym (ap (nameless n) (nil_from_length (drop m rest) (omega (arith, length-drop m rest))))

-- a line of sixteen bytes, or of those that are left, was written
pub nameless_goes_on : (at size : ℕ) (rest front more old now new : List ℕ) → 0 < length rest
    → size ≡ cond (nat_lt (length rest) 16) (length rest) 16 → front ≡ take size rest → more ≡ drop size rest
    → now ++ nameless at rest ≡ old → new ≡ now ++ line 0 at (codes "Bytes") looks.bytes 1 (length front) front
    → new ++ nameless (at + length front) more ≡ old
nameless_goes_on at size rest front more old now new some is one two before added =
    let said = λ (f : List ℕ). line 0 at (codes "Bytes") looks.bytes 1 (length f) f in
    let by : (front ≡ take 16 rest) → (nameless (at + length front) more ≡ nameless (at + 16) (drop 16 rest)) → new ++ nameless (at + length front) more ≡ old =
    λ same others.
    ap (λ (l : List ℕ). new ++ l) others
    ∙ ap (λ (l : List ℕ). l ++ nameless (at + 16) (drop 16 rest)) (added ∙ ap (λ (f : List ℕ). now ++ said f) same)
    ∙ append_assoc now (said (take 16 rest)) (nameless (at + 16) (drop 16 rest))
    ∙ ap (λ (l : List ℕ). now ++ l) (sym (nameless_some at rest some))
    ∙ before in
    elim (cases_lt (length rest) 16) [
      | inl short ↦
          let whole : size ≡ length rest = is ∙ ap (λ b. cond b (length rest) 16) (lt-ltb (length rest) 16 short) in
          by (one ∙ line_front rest size (omega arith) (omega arith))
          (ap (nameless (at + length front)) two ∙ no_more (at + length front) (at + 16) size 16 rest (omega arith) (omega arith))
      | inr long ↦
          let sixteen : size ≡ 16 = is ∙ ap (λ b. cond b (length rest) 16) (le-ltb (length rest) 16 long) in
          let same : front ≡ take 16 rest = one ∙ ap (λ k. take k rest) sixteen in
          let many : length front ≡ 16 = ap length same ∙ length-take-le 16 rest long in
          by same (ap (λ k. nameless (at + k) more) many ∙ ap (nameless (at + 16)) (two ∙ ap (λ k. drop k rest) sixteen))
    ]
