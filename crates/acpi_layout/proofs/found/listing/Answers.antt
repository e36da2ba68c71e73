use Rattle.std.proofs.Common.{ap, ◌∙◌, subst}
use Rattle.std.specs.Prelude.{OnErr}
use Rattle.acpi_layout.specs.Addresses.{memory_of}
use Rattle.acpi_layout.specs.declared.located.Located.{Located}
use Rattle.acpi_layout.specs.Found.{root_signature, root_address, IsNamedTableAt}
use Rattle.acpi_layout.proofs.found.listing.Goals as goal

pub returns-clause-err : goal.returns-clause-err
returns-clause-err c =
    subst (λ a. OnErr c.named_table.result ((t : Located) → IsNamedTableAt (memory_of c.args.ranges.now) (root_signature c.args.root) a t → ⊥))
    (c.root_address-address.ensures ∙ ap (root_address c.args.root) c.contents.ensures.is) (rw c.root_signature.ensures at c.named_table.ensures.err)
