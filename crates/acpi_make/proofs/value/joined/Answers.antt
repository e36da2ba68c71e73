use Rattle.std.proofs.Common.{◌∙◌}
use Rattle.acpi_make.proofs.Values.{joined_more}
use Rattle.acpi_make.proofs.value.joined.Goals as goal

pub names-preserved : goal.names-preserved
names-preserved c =
    joined_more c.names.left _ _ _ _ _ _ _ c.names-test.true c.in-More.ensures c.if-said-mask-ne0.false ∙ c.names.invariant
