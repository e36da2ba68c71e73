-- Names of bits, one after another.
use Rattle.std.proofs.Common.{◌≡◌, ℕ, suc, ◌-◌, ◌<◌, ◌==◌, if◌then◌else◌, bit_and, bit_or, List, None, ap, sym, ◌∙◌, arith}
use Rattle.acpi_base.specs.Look.{Part}
use Rattle.acpi_make.specs.Value.{Front, more, front_part, and_more, joined}

one_more : (left said all : ℕ) (parts : List Part) (rest text : List ℕ) (mask n : ℕ) → more mask n text ≡ front_part parts rest
    → bit_and said mask ≡ 0
    → joined left (bit_or said mask) (bit_or all n) parts text ≡ joined (suc left) said all parts rest
one_more left said all parts rest text mask n is apart =
    sym (ap (λ (b : ℕ). if b == 0 then joined left (bit_or said mask) (bit_or all n) parts text else None) apart)
    ∙ ap (λ (f : Front). and_more f said all (λ said all text. joined left said all parts text)) is

-- the names after one that says nothing of the bits of those before it
pub joined_more : (left said all : ℕ) (parts : List Part) (rest text : List ℕ) (mask n : ℕ) → 0 < left
    → more mask n text ≡ front_part parts rest → bit_and said mask ≡ 0
    → joined (left - 1) (bit_or said mask) (bit_or all n) parts text ≡ joined left said all parts rest
joined_more left said all parts rest text mask n some is apart =
    let count : suc (left - 1) ≡ left = omega (arith, some) in
    one_more (left - 1) said all parts rest text mask n is apart ∙ ap (λ (k : ℕ). joined k said all parts rest) count
