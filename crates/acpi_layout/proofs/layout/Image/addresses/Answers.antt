use Rattle.std.proofs.Common.{◌≢◌, ℕ, List, subst}
use Rattle.std.specs.Prelude.{IfErr}
use Rattle.acpi_layout.specs.declared.fault.ImageFault.TheVariants.{Memory}
use Rattle.acpi_layout.specs.Found.{AreListed}
use Rattle.acpi_layout.specs.Fault.{IsListFault}
use Rattle.acpi_layout.proofs.layout.Image.addresses.Goals as goal

pub returns-clause-err : goal.returns-clause-err
returns-clause-err c =
    subst (λ (b : List ℕ). IfErr c.listed.result (λ e. e ≢ Memory → (addresses : List ℕ) → AreListed c.args.base b c.args.self.now.rsdp addresses → ⊥)) c.deref.ensures.value
    c.listed.ensures.err

pub returns-clause-fault : goal.returns-clause-fault
returns-clause-fault c =
    subst (λ (b : List ℕ). IfErr c.listed.result (λ e. e ≢ Memory → IsListFault b c.args.base c.args.self.now.rsdp e)) c.deref.ensures.value c.listed.ensures.fault
