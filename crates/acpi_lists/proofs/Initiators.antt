-- Devices that reach memory.
use Rattle.std.proofs.Common.{◌≡◌, ℕ, List, Bool, false}
use Rattle.acpi_base.specs.declared.error.Error.{Error}
use Rattle.acpi_base.specs.declared.error.Error.TheVariants.{PciAddress}
use Rattle.acpi_base.specs.Sink.{Meaning}
use Rattle.acpi_base.specs.Object.{whole, provided, WriteRefused}
use Rattle.acpi_base.proofs.Objects.{refused_unprovided}

-- a handle that is no address gives nothing
pub unaddressed : (e : Error) (test : Bool) (bytes : List ℕ) (m : Meaning) → (e ≡ PciAddress) × (test ≡ false) → WriteRefused e (provided test PciAddress (whole bytes)) m m
unaddressed e test bytes m is = refused_unprovided e PciAddress test (whole bytes) m (λ same. cc) is.1 is.0
