-- Structures that contain their length in two bytes.
use Rattle.std.proofs.Common.{◌≡◌, ℕ, ◌≤◌, ◌<◌, ◌^◌, List, true, false, nat_lt, arith}
use Rattle.std.proofs.lemmas.Bool.Decides.{nat_tests}
use Rattle.std.specs.Prelude.{None}
use Rattle.acpi_base.specs.declared.error.Error.TheVariants.{FieldWidth}
use Rattle.acpi_base.specs.Object.{whole}
use Rattle.acpi_base.specs.Walk.{IsPiece}
use Rattle.acpi_base.specs.declared.walk.Sizes.{Sizes}
use Rattle.acpi_base.proofs.Objects.{is_provided, provided_front}
use Rattle.acpi_core.specs.Structure.{structure_of, fits_word}

pub fits_a_word : (n : ℕ) → n < 2 ^ 16 → nat_lt n (2 ^ 16) ≡ true
fits_a_word n small = grind (arith, nat_tests)

pub passes_a_word : (n : ℕ) → 2 ^ 16 ≤ n → nat_lt n (2 ^ 16) ≡ false
passes_a_word n large = grind (arith, nat_tests)

pub is_within_a_word : (n : ℕ) → nat_lt n (2 ^ 16) ≡ true → n < 2 ^ 16
is_within_a_word n holds = grind (arith, nat_tests)

-- a structure that isn't refused is a piece where one that fits is
pub structure_piece : (s : Sizes) (bytes : List ℕ) → (fits_word bytes ≡ true → IsPiece s bytes) → (structure_of bytes).end ≡ None → IsPiece s (structure_of bytes).front
structure_piece s bytes one is_whole =
    let holds = is_provided FieldWidth (fits_word bytes) bytes is_whole in
    rw (provided_front FieldWidth (fits_word bytes) (whole bytes) holds) (one holds)
