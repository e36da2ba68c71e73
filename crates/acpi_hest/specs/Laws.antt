-- Laws about error sources, which hold for all values of their fields.
use Rattle.std.specs.Prelude.{◌≡◌, ℕ}
use Rattle.acpi_base.specs.Bytes.{field_at}
use Rattle.acpi_base.specs.Object.{Object}
use Rattle.acpi_base.specs.Walk.{IsPiece, hest_walk}

-- Each object is a source that contains this type at offset 0, and has the size of that type.
pub record AreSources {S : Type 0} (kind : ℕ) (object : S → Object) : Type 0 where
  pub kind_told : (s : S) → field_at 0 2 (object s).front ≡ kind
  pub size : (s : S) → IsPiece hest_walk.sizes (object s).front
