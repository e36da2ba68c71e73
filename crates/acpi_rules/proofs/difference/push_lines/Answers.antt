use Rattle.acpi_rules.specs.Field.{seen}
use Rattle.acpi_rules.proofs.Differences.{got_is, lines_with}
use Rattle.acpi_rules.proofs.difference.push_lines.Goals as goal

pub fields-preserved : goal.fields-preserved
fields-preserved c =
    lines_with seen c.args.a.now c.args.b.now c.fields.i _ _ _ _ _ (got_is _ _ _ c.get.ensures.lookup.0 c.get.ensures.lookup.1)
    (got_is _ _ _ c.get-in-fields.ensures.lookup.0 c.get-in-fields.ensures.lookup.1) c.fields.invariant c.in_ok-push_either.ensures
