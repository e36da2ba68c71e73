use Rattle.std.proofs.Common.{◌≢◌, ℕ, List, length}
use Rattle.acpi_layout.specs.Addresses.{memory_of}
use Rattle.acpi_layout.specs.declared.fault.ImageFault.{ImageFault}
use Rattle.acpi_layout.specs.declared.fault.ImageFault.TheVariants.{Memory}
use Rattle.acpi_layout.specs.Found.{AreAddresses}
use Rattle.acpi_layout.proofs.Founds.{at_exit}
use Rattle.acpi_layout.proofs.found.addresses.Goals as goal

pub returns-in_err-count-clause-err : goal.returns-in_err-count-clause-err
returns-in_err-count-clause-err c =
    let P : ImageFault → Type 0 = λ e. e ≢ Memory → (addresses : List ℕ) → AreAddresses (memory_of c.args.ranges.now) c.args.xsdt addresses → ⊥ in
    at_exit _ P _ c.from_residual.ensures.1 (λ other addresses are. c.in_err-count.ensures.err (length addresses) are.counted)
