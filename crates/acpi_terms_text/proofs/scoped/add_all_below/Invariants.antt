use Rattle.std.proofs.Common.{◌≡◌, map, drop}
use Rattle.acpi_term.specs.Arity.{with_all}
use Rattle.acpi_terms_text.specs.Objects.{callee_by}
use Rattle.acpi_terms_text.specs.Scoped.{all_below}
use Rattle.acpi_terms_text.proofs.scoped.add_all_below.Given as goal

abbrev pub invariant-objects : goal.invariant-objects
invariant-objects l =
    with_all l.all (all_below l.up l.scope (map callee_by (drop l.object-index l.objects)))
    ≡ with_all l.initial.all (all_below l.up l.scope (map callee_by l.objects))
