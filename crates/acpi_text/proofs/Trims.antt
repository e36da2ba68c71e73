-- Bytes without the zeros at their end.
use Rattle.std.proofs.Common.{◌≡◌, ℕ, ◌+◌, ◌-◌, ◌<◌, ◌≤◌, ◌==◌, ◌&&◌, Bool, true, false, cond, List, [], ◌∷◌, ◌++◌, length, take, get_or}
use Rattle.std.proofs.Common.{refl, sym, ap, ◌∙◌, arith, length-append}
use Rattle.std.proofs.lemmas.List.{take_more}
use Rattle.std.proofs.lemmas.Bool.{and_right}
use Rattle.std.proofs.lemmas.Bool.Decides.{nat_tests}
use Rattle.acpi_base.specs.Bytes.{AreBytes}
use Rattle.acpi_text.specs.Note.{trimmed}

-- ---- one more byte at the end

zero_more : (bytes : List ℕ) (b : ℕ) → b ≡ 0 → trimmed (bytes ++ b ∷ []) ≡ trimmed bytes
zero_more [] b zero = rw zero refl
zero_more (c ∷ bytes) b zero = rw (zero_more bytes b zero) refl

no_byte : (bytes : List ℕ) (b : ℕ) → (length (bytes ++ b ∷ []) == 0) ≡ false
no_byte bytes b = grind (arith, nat_tests, length-append)

some_zero : (b : ℕ) → 0 < b → (b == 0) ≡ false
some_zero b some = grind (arith, nat_tests)

kept : (b : Bool) (bytes : List ℕ) (more : List ℕ) → b ≡ false → cond b [] more ≡ more
kept b bytes more is = rw is refl

other_more : (bytes : List ℕ) (b : ℕ) → 0 < b → trimmed (bytes ++ b ∷ []) ≡ bytes ++ b ∷ []
other_more [] b some = rw (some_zero b some) refl
other_more (c ∷ bytes) b some =
    rw (other_more bytes b some)
    (kept (c == 0 && length (bytes ++ b ∷ []) == 0) bytes (c ∷ (bytes ++ b ∷ [])) (and_right (c == 0) (length (bytes ++ b ∷ []) == 0) (no_byte bytes b)))

-- ---- from the end on

one_less : (bytes : List ℕ) (end : ℕ) → 0 < end → end ≤ length bytes → take end bytes ≡ take (end - 1) bytes ++ get_or bytes (end - 1) 0 ∷ []
one_less bytes end some within =
    let e : end ≡ end - 1 + 1 = omega arith in
    ap (λ k. take k bytes) e ∙ take_more bytes (end - 1) 0 (omega arith)

pub trims_on : (bytes : List ℕ) (end : ℕ) → 0 < end → end ≤ length bytes → get_or bytes (end - 1) 0 ≡ 0
    → trimmed (take end bytes) ≡ trimmed bytes → trimmed (take (end - 1) bytes) ≡ trimmed bytes
trims_on bytes end some within zero same =
    sym (ap trimmed (one_less bytes end some within) ∙ zero_more (take (end - 1) bytes) (get_or bytes (end - 1) 0) zero) ∙ same

pub trims_here : (bytes : List ℕ) (end : ℕ) → 0 < end → end ≤ length bytes → 0 < get_or bytes (end - 1) 0
    → trimmed (take end bytes) ≡ trimmed bytes → take end bytes ≡ trimmed bytes
trims_here bytes end some within other same =
    let cut = one_less bytes end some within in
    cut ∙ sym (other_more (take (end - 1) bytes) (get_or bytes (end - 1) 0) other) ∙ sym (ap trimmed cut) ∙ same

-- ---- they are bytes

trim_step : (b : Bool) (c : ℕ) (bytes : List ℕ) → c < 256 → AreBytes bytes → AreBytes (cond b [] (c ∷ bytes))
trim_step true c bytes one are = tt
trim_step false c bytes one are = (one, are)

pub bytes_trimmed : (bytes : List ℕ) → AreBytes bytes → AreBytes (trimmed bytes)
bytes_trimmed [] are = tt
bytes_trimmed (c ∷ bytes) are = trim_step (c == 0 && length (trimmed bytes) == 0) c (trimmed bytes) are.0 (bytes_trimmed bytes are.1)
