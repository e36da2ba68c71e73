use Rattle.std.proofs.Common.{map}
use Rattle.acpi_terms_text.specs.Objects.{callee_by}
use Rattle.acpi_terms_text.proofs.Walks.{called_on}
use Rattle.acpi_terms_text.proofs.objects.add_objects.Goals as goal

pub numbers-preserved : goal.numbers-preserved
numbers-preserved c =
    called_on 8 c.numbers.args (map callee_by c.args.objects.now) c.numbers.all _ _ c.numbers-test.true c.in_ok-add_of.ensures c.numbers.invariant
