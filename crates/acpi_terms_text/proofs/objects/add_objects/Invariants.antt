use Rattle.std.proofs.Common.{◌≡◌, ◌-◌, map}
use Rattle.acpi_term.specs.Arity.{with_all}
use Rattle.acpi_terms_text.specs.Objects.{callee_by, numbers_from, called}
use Rattle.acpi_terms_text.proofs.objects.add_objects.Given as goal

abbrev pub invariant-numbers : goal.invariant-numbers
invariant-numbers l =
    with_all l.all (numbers_from (8 - l.args) l.args (map callee_by l.objects)) ≡ with_all l.initial.all (called (map callee_by l.objects))
