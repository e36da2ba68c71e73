use Rattle.std.proofs.Common.{◌≡◌, length, reverse}
use Rattle.acpi_make.specs.Gives.{with_front}
use Rattle.acpi_make.specs.Meaning.{read, parts_of}
use Rattle.acpi_make.specs.Step.{IsHalf}
use Rattle.acpi_make.proofs.read.read_parts.Given as goal

abbrev pub invariant-bytes : goal.invariant-bytes
invariant-bytes l = record {
  half : IsHalf l.state;
  means : with_front l.items.items (read l.state (reverse l.number.items) l.rest) ≡ parts_of l.text;
}

abbrev pub decreases-bytes : goal.decreases-bytes
decreases-bytes l = length l.rest
