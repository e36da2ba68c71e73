-- Numbers in cells, and in bytes.
use Rattle.std.proofs.Common.{◌≡◌, ℕ, zero, suc, ◌+◌, ◌-◌, ◌/◌, ◌%◌, ◌<◌, ◌&&◌, nat_le, true, List, ◌∷◌, refl, ap, ◌∙◌, arith, eq-eqb}
use Rattle.std.proofs.lemmas.Bool.Decides.{nat_tests}
use Rattle.acpi_make.specs.Heading.{known_front, is_known, is_lowest, has_number}
use Rattle.acpi_make.specs.Notes.{begins_with}
use Rattle.acpi_base.proofs.Bytes.{le_step}
use Rattle.acpi_base.specs.Bytes.{le}
use Rattle.acpi_make.specs.Item.{known_cells}
use Rattle.acpi_make.specs.declared.item.Cell.{Cell}
use Rattle.acpi_make.specs.declared.item.Cell.TheVariants.{Byte, Left}

pub lowest_is : (w n : ℕ) (cells : List Cell) (cell : Cell) (more : List Cell) → 0 < w → cells ≡ cell ∷ more → is_lowest cell n ≡ true
    → has_number w n cells ≡ has_number (w - 1) (n / 256) more
lowest_is zero n cells cell more some is lowest = absurd (omega arith)
lowest_is (suc w) n cells cell more some is lowest =
    ap (has_number (suc w) n) is ∙ ap (λ b. b && has_number w (n / 256) more) lowest
    ∙ ap (λ k. has_number k (n / 256) more) (let e : w ≡ suc w - 1 = omega arith in e)

known_both : (w k : ℕ) → nat_le (suc w) (1 + k) ≡ nat_le w k
known_both w k = grind (arith, nat_tests)

known_byte : (cell : Cell) (more : List Cell) → is_known cell ≡ true → known_front (cell ∷ more) ≡ 1 + known_front more
known_byte (Byte b) more known = refl
known_byte (Left line) more known = absurd cc

pub next_known : (w : ℕ) (cells : List Cell) (cell : Cell) (more : List Cell) → 0 < w → cells ≡ cell ∷ more → is_known cell ≡ true
    → nat_le w (known_front cells) ≡ nat_le (w - 1) (known_front more)
next_known zero cells cell more some is known = absurd (omega arith)
next_known (suc w) cells cell more some is known =
    ap (nat_le (suc w)) (ap known_front is ∙ known_byte cell more known) ∙ known_both w (known_front more)
    ∙ ap (λ k. nat_le k (known_front more)) (let e : w ≡ suc w - 1 = omega arith in e)

pub next_begins : (w n : ℕ) (bytes : List ℕ) (b : ℕ) (more : List ℕ) → 0 < w → bytes ≡ b ∷ more → b ≡ n % 256
    → begins_with w n bytes ≡ begins_with (w - 1) (n / 256) more
next_begins zero n bytes b more some is lowest = absurd (omega arith)
next_begins (suc w) n bytes b more some is lowest =
    ap (begins_with (suc w) n) is ∙ ap (λ same. same && begins_with w (n / 256) more) (eq-eqb b (n % 256) lowest)
    ∙ ap (λ k. begins_with k (n / 256) more) (let e : w ≡ suc w - 1 = omega arith in e)

-- the lowest byte of a number, and the others
pub next_lowest : (w n : ℕ) → 0 < w → known_cells (le w n) ≡ Byte (n % 256) ∷ known_cells (le (w - 1) (n / 256))
next_lowest zero n some = absurd (omega arith)
next_lowest (suc w) n some =
    ap known_cells (le_step w n) ∙ ap (λ k. Byte (n % 256) ∷ known_cells (le k (n / 256))) (let e : w ≡ suc w - 1 = omega arith in e)
