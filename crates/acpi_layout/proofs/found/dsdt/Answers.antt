use Rattle.std.proofs.Common.{ap, ◌∙◌, subst, codes}
use Rattle.std.specs.Prelude.{OnErr}
use Rattle.acpi_layout.specs.Addresses.{memory_of}
use Rattle.acpi_layout.specs.declared.located.Located.{Located}
use Rattle.acpi_layout.specs.Found.{dsdt_address, IsNamedTableAt}
use Rattle.acpi_layout.proofs.found.dsdt.Goals as goal

pub returns-clause-err : goal.returns-clause-err
returns-clause-err c =
    subst (λ a. OnErr c.named_table.result ((t : Located) → IsNamedTableAt (memory_of c.args.ranges.now) (codes "DSDT") a t → ⊥))
    (c.dsdt_address-address.ensures ∙ ap (dsdt_address c.args.root) c.contents.ensures.is) c.named_table.ensures.err
