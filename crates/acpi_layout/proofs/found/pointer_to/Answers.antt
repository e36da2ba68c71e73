use Rattle.std.proofs.Common.{sym, subst}
use Rattle.std.specs.Prelude.{OnErr}
use Rattle.acpi_layout.specs.Addresses.{memory_of}
use Rattle.acpi_layout.specs.Found.{IsPointerTo}
use Rattle.acpi_layout.specs.declared.located.Located.{Located}
use Rattle.acpi_layout.specs.declared.root.Root.{Root}
use Rattle.acpi_layout.proofs.found.pointer_to.Goals as goal

pub returns-in-Xsdt-clause-err : goal.returns-in-Xsdt-clause-err
returns-in-Xsdt-clause-err c =
    subst (λ (root : Root). OnErr c.pointer.result ((rsdp : Located) → IsPointerTo root (memory_of c.args.ranges.now) c.args.address rsdp → ⊥))
    (sym c.in-Xsdt.is) c.pointer.ensures.err

pub returns-in-Rsdt-clause-err : goal.returns-in-Rsdt-clause-err
returns-in-Rsdt-clause-err c =
    subst (λ (root : Root). OnErr c.old_pointer.result ((rsdp : Located) → IsPointerTo root (memory_of c.args.ranges.now) c.args.address rsdp → ⊥))
    (sym c.in-Rsdt.is) c.old_pointer.ensures.err
