use Rattle.std.proofs.Common.{◌≡◌, map, drop}
use Rattle.acpi_terms_text.specs.Objects.{args_at, callee_by}
use Rattle.acpi_terms_text.specs.Path.{path_in}
use Rattle.acpi_terms_text.proofs.objects.args_at.Given as goal

abbrev pub invariant-objects : goal.invariant-objects
invariant-objects l =
    args_at (path_in l.scope l.name) (map callee_by (drop l.object-index l.objects))
    ≡ args_at (path_in l.scope l.name) (map callee_by l.objects)
