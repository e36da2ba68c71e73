use Rattle.std.proofs.Common.{◌≡◌, drop, map}
use Rattle.acpi_asl.specs.Name.{is_among}
use Rattle.acpi_asl.proofs.name.is_among.Given as goal

abbrev pub invariant-words : goal.invariant-words
invariant-words l = is_among (map (λ word. word.now) (drop l.word-index l.words)) l.segment ≡ is_among (map (λ word. word.now) l.words) l.segment
