-- Descriptors of any length: what their constructors return.
use Rattle.std.proofs.Common.{◌≡◌, ℕ, List, Bool, true, refl, ◌∙◌}
use Rattle.std.specs.Prelude.{Result, Ok, Err, IfOk, IfErr}
use Rattle.acpi_base.specs.declared.error.Error.{Error}
use Rattle.acpi_base.specs.declared.error.Error.TheVariants.{Memory, FieldWidth}
use Rattle.acpi_base.specs.Object.{whole, provided, Builds}

-- the bytes were made, and the test holds
pub built : (r : Result (List ℕ) Error) (test : Bool) (made bytes : List ℕ) → test ≡ true → made ≡ bytes → IfOk r (λ d. d ≡ made) → IfErr r (λ e. e ≡ Memory) → Builds r (provided test FieldWidth (whole bytes))
built (Ok d) test made bytes holds same is only = rw holds (record { is_whole = refl; is = is ∙ same })
built (Err e) test made bytes holds same is only = record { cause = λ other. absurd (other only) }
