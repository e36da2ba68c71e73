-- What laying tables returns.
use Rattle.std.specs.Prelude.{◌≡◌, ◌≢◌, ℕ, List, Option, None, Some, Result, IfOk, IfErr, OnOk}
use Rattle.acpi_base.specs.declared.error.Error.{Error}
use Rattle.acpi_base.specs.declared.error.Error.TheVariants.{Memory}
use Rattle.acpi_base.specs.declared.oem.Oem.{Oem}
use Rattle.acpi_base.specs.Object.{Object}
use Rattle.acpi_fixed.specs.declared.fadt.FADTBuilder.{FADTBuilder}
use Rattle.acpi_layout.specs.declared.layout.Image.{Image}
use Rattle.acpi_layout.specs.Image.{image, fronts, image_end}

-- The image, where all tables are whole and there is place for it. Else there is none, and the refusal is that of the first
-- table that isn't whole, else FieldWidth. Or memory ran out.
pub record Lays (result : Result Image Error) (base : ℕ) (oem : Oem) (facs : Option (List ℕ)) (dsdt : List ℕ) (fadt : FADTBuilder)
    (tables : List Object) : Type 0 where
  pub bytes : IfOk result (λ made. made.bytes.items ≡ (image base oem facs dsdt fadt (fronts tables)).bytes)
  pub rsdp : IfOk result (λ made. made.rsdp ≡ (image base oem facs dsdt fadt (fronts tables)).rsdp)
  pub accepted : OnOk result (image_end base oem facs dsdt fadt tables ≡ None)
  pub cause : IfErr result (λ e. e ≢ Memory → image_end base oem facs dsdt fadt tables ≡ Some e)
