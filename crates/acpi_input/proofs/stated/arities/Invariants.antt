use Rattle.std.proofs.Common.{◌≡◌, Some, map, take, string_bytes}
use Rattle.acpi_input.specs.Stated.{all_stated}
use Rattle.acpi_input.proofs.stated.arities.Given as goal

abbrev pub invariant-loop-word : goal.invariant-loop-word
invariant-loop-word l = all_stated (map (λ word. string_bytes word) (take l.word-index l.words)) ≡ Some l.entries.items
