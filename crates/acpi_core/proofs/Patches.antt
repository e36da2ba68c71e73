-- Lists over whose parts others are written.
use Rattle.std.proofs.Common.{◌≡◌, ℕ, ◌+◌, ◌-◌, List, [], ◌∷◌, ◌++◌, length, take, drop, refl, ap, ◌∙◌, arith, length-append}
use Rattle.std.proofs.lemmas.List.{take-append-drop}
use Rattle.std.proofs.lemmas.List.{drop_at, take_all}
use Rattle.acpi_base.specs.Bytes.{le, put}
use Rattle.acpi_base.specs.declared.oem.Oem.{Oem}
use Rattle.acpi_base.specs.Header.{header}

pub put_nothing : (i : ℕ) (x : List ℕ) → put i [] x ≡ x
unfolding put
put_nothing i x = let same : i + 0 ≡ i = omega arith in rw same (take-append-drop i x)

-- a header that tells another length
pub header_patched : (s : List ℕ) (size size' revision : ℕ) (oem : Oem) (rest : List ℕ) → length s ≡ 4 → put 4 (le 4 size') (header s size revision oem ++ rest) ≡ header s size' revision oem ++ rest
unfolding put
header_patched (a ∷ b ∷ c ∷ d ∷ []) size size' revision oem rest h = refl
header_patched (a ∷ b ∷ c ∷ d ∷ e ∷ s) size size' revision oem rest h = absurd (omega arith)
header_patched s size size' revision oem rest h = absurd (omega arith)

-- what follows a list
pub behind : (v a b : List ℕ) (start : ℕ) → v ≡ a ++ b → length a ≡ start → take (length v - start) (drop start v) ≡ b
behind v a b start is begins =
    let rest : drop start v ≡ b = ap (drop start) is ∙ drop_at a b start begins in
    ap (take (length v - start)) rest ∙ take_all (length v - start) b (omega (arith, ap length is, length-append a b, begins))
