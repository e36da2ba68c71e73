use Rattle.std.proofs.Common.{map, ◌∙◌, arith, inr}
use Rattle.std.proofs.lemmas.List.{length-map}
use Rattle.acpi_rules.specs.Field.{seen}
use Rattle.acpi_rules.proofs.Differences.{same_is, same_more}
use Rattle.acpi_rules.proofs.difference.end_of.Goals as goal

pub fields-preserved : goal.fields-preserved
fields-preserved c = record {
  first = omega (arith, c.fields-test.true);
  second = omega (arith, c.if-count-b.true);
  same = same_more (map seen c.args.a.now) (map seen c.args.b.now) c.fields.count c.fields.invariant.same
      (same_is seen c.args.a.now c.args.b.now c.fields.count _ _ _ c.fields-test.true c.if-count-b.true c.is_same.ensures ∙ c.if-is_same.true);
}

pub returns-else-is_same : goal.returns-else-is_same
returns-else-is_same c = record {
  first = omega (arith, c.fields.invariant.first, length-map c.args.a.now seen);
  second = omega (arith, c.fields.invariant.second, length-map c.args.b.now seen);
  same = c.fields.invariant.same;
  longest = inr (inr
      (same_is seen c.args.a.now c.args.b.now c.fields.count _ _ _ c.fields-test.true c.if-count-b.true c.is_same.ensures ∙ c.if-is_same.false));
}
