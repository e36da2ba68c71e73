-- Lists that grow in a structure.
use Rattle.std.specs.Prelude.{◌≡◌, ◌≢◌, ℕ, ◌<◌, ◌≤◌, Result, OnOk, OnErr, IfErr}
use Rattle.acpi_base.specs.declared.error.Error.{Error}
use Rattle.acpi_base.specs.declared.error.Error.TheVariants.{Memory, FieldWidth}

-- A structure became `grown`, in which a list has the new size. Or the call failed, and the structure is unchanged. The error is
-- `FieldWidth` if the new size exceeds the most that the structure can have.
pub record Grows {N : Type 0} (result : Result Unit Error) (old grown new : N) (size most : ℕ) : Type 0 where
  pub ok : OnOk result (new ≡ grown)
  pub room : OnOk result (size ≤ most)
  pub err : OnErr result (new ≡ old)
  pub cause : IfErr result (λ e. e ≢ Memory → (e ≡ FieldWidth) × (most < size))
