use Rattle.std.proofs.Common.{◌≡◌, ◌++◌, length}
use Rattle.acpi_term.specs.Name.{without_parents}
use Rattle.acpi_aml.specs.NameText.{parents}
use Rattle.acpi_aml.proofs.name_text.read_parents.Given as goal

abbrev pub invariant-loop-rest : goal.invariant-loop-rest
invariant-loop-rest l =
    (l.bytes.items ++ parents l.rest ≡ l.initial.bytes.items ++ parents l.text) × (without_parents l.rest ≡ without_parents l.text)

abbrev pub decreases-loop-rest : goal.decreases-loop-rest
decreases-loop-rest l = length l.rest
