use Rattle.std.proofs.Common.{◌≡◌, ◌/◌, map, length}
use Rattle.acpi_term.specs.Arity.{with_all}
use Rattle.acpi_terms_text.specs.Objects.{callee_by}
use Rattle.acpi_terms_text.specs.Scoped.{AreParents, relative, all_relative}
use Rattle.acpi_terms_text.proofs.scoped.add_relative.Given as goal

abbrev pub invariant-levels : goal.invariant-levels
invariant-levels l =
    AreParents l.up.items
    × (with_all l.all (relative (length l.around / 4) l.up.items l.around (map callee_by l.objects))
    ≡ with_all l.initial.all (all_relative l.scope (map callee_by l.objects)))

abbrev pub decreases-levels : goal.decreases-levels
decreases-levels l = length l.around
