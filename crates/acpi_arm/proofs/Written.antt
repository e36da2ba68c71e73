-- Structures that contain their length in two bytes, written and refused.
use Rattle.std.proofs.Common.{◌≡◌, ℕ, ◌≤◌, ◌<◌, ◌^◌, List, length, arith}
use Rattle.std.specs.Prelude.{Result, OnOk, IfErr, IsErrAnd}
use Rattle.acpi_base.specs.declared.error.Error.{Error}
use Rattle.acpi_base.specs.declared.error.Error.TheVariants.{FieldWidth}
use Rattle.acpi_base.specs.Object.{whole, Wrote, WriteRefused}
use Rattle.acpi_base.specs.Sink.{Meaning, Took, Refused}
use Rattle.acpi_base.proofs.Objects.{at_exit, wrote_provided, refused_provided, refused_unprovided}
use Rattle.acpi_core.specs.Structure.{fits_word, structure_of}
use Rattle.acpi_core.proofs.Structures.{fits_a_word, passes_a_word}

module _ {T : Type 0} (r : Result T Error) (bytes : List ℕ) where
  module _ (made : List ℕ) (m k : Meaning) (small : length bytes < 2 ^ 16) (same : made ≡ bytes) where
    pub wrote_structure : OnOk r (Took m made k) → OnOk r (Wrote (structure_of bytes) m k)
    wrote_structure took = wrote_provided r FieldWidth (fits_word bytes) made bytes m k (fits_a_word (length bytes) small) same took

    pub refused_structure : IfErr r (λ e. Refused e m made k) → IfErr r (λ e. WriteRefused e (structure_of bytes) m k)
    refused_structure refused = refused_provided r FieldWidth (fits_word bytes) made bytes m k (fits_a_word (length bytes) small) same refused

  -- refused since its length doesn't fit, before anything was written
  pub refused_length : (e : Error) (m : Meaning) (n : ℕ) → n ≤ length bytes → IsErrAnd r (λ y. y ≡ e) → (e ≡ FieldWidth) × (2 ^ 16 ≤ n) → IfErr r (λ y. WriteRefused y (structure_of bytes) m m)
  refused_length e m n least exit long =
      at_exit r (λ y. WriteRefused y (structure_of bytes) m m) e exit
      (refused_unprovided e FieldWidth (fits_word bytes) (whole bytes) m (λ is. cc) (passes_a_word (length bytes) (omega (arith, least, long.1))) long.0)
