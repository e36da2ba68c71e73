use Rattle.acpi_text.proofs.Offsets as offsets
use Rattle.acpi_text.proofs.offset.push_three_digits.Goals as goal

pub push_front-requires : goal.push_front-requires
push_front-requires c = rw (c.ones.ensures, c.tens.ensures, c.ones-2.ensures) (offsets.three_digits c.args.n c.requires.0 c.requires.1)
