use Rattle.std.proofs.Common.{◌≡◌, length}
use Rattle.acpi_term.specs.Arity.{with_all}
use Rattle.acpi_terms_text.specs.Objects.{from_each}
use Rattle.acpi_terms_text.proofs.objects.add_from_each.Given as goal

abbrev pub invariant-segments : goal.invariant-segments
invariant-segments l =
    with_all l.all (from_each l.args l.rest) ≡ with_all l.initial.all (from_each l.args l.path)

abbrev pub decreases-segments : goal.decreases-segments
decreases-segments l = length l.rest
