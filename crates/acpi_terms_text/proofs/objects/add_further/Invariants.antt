use Rattle.std.proofs.Common.{◌≡◌, [], map, drop, unwrap_or}
use Rattle.acpi_term.specs.Arity.{with_all}
use Rattle.acpi_terms_text.specs.Objects.{callee_by, segments}
use Rattle.acpi_terms_text.proofs.objects.add_further.Given as goal

abbrev pub invariant-objects : goal.invariant-objects
invariant-objects l =
    with_all (unwrap_or l.all []) (segments (map callee_by (drop l.object-index l.objects)))
    ≡ with_all (unwrap_or l.initial.all []) (segments (map callee_by l.objects))
