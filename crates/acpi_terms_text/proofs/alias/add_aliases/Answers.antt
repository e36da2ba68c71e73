use Rattle.acpi_terms_text.proofs.Aliases.{aliases_on}
use Rattle.acpi_terms_text.proofs.alias.add_aliases.Goals as goal

pub aliases-preserved : goal.aliases-preserved
aliases-preserved c = aliases_on _ _ _ _ _ _ c.aliases-test.true c.alias-item.is c.in_ok-add_alias.ensures c.aliases.invariant
