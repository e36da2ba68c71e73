use Rattle.std.proofs.Common.{◌≡◌, map, drop}
use Rattle.acpi_term.specs.Arity.{with_all}
use Rattle.acpi_terms_text.specs.Objects.{callee_by, numbers_of}
use Rattle.acpi_terms_text.proofs.objects.add_of.Given as goal

abbrev pub invariant-objects : goal.invariant-objects
invariant-objects l =
    with_all l.all (numbers_of l.args (map callee_by (drop l.object-index l.objects)))
    ≡ with_all l.initial.all (numbers_of l.args (map callee_by l.objects))
