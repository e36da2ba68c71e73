use Rattle.acpi_rules.specs.Field.{seen}
use Rattle.acpi_rules.proofs.Differences.{lines_cut}
use Rattle.acpi_rules.proofs.difference.differences_of.Goals as goal

pub returns : goal.returns
returns c = record {
  end = c.end_of-end.result;
  longest = c.end_of-end.ensures;
  are = lines_cut seen c.args.a.now c.args.b.now c.end_of-end.result _ _ c.new-text.ensures.bytes c.in_ok-push_lines.ensures;
}
