use Rattle.std.proofs.Common.{◌≡◌, map, drop}
use Rattle.acpi_term.specs.View.{views}
use Rattle.acpi_terms_text.specs.Objects.{callee_by}
use Rattle.acpi_terms_text.specs.Scoped.{made_in, have_name}
use Rattle.acpi_terms_text.proofs.scoped.names_in.Given as goal

abbrev pub invariant-objects : goal.invariant-objects
invariant-objects l =
    have_name (views l.body) (made_in l.scope (map callee_by (drop l.object-index l.objects)))
    ≡ have_name (views l.body) (made_in l.scope (map callee_by l.objects))
