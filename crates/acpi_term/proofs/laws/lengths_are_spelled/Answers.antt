use Rattle.acpi_term.proofs.Lengths.{length_means, means_length}
use Rattle.acpi_term.proofs.laws.lengths_are_spelled.Goals as goal

pub returns : goal.returns
returns c = (λ w v lt. let t = length_means w v lt in (t.bytes, t.is, t.wide), means_length)
