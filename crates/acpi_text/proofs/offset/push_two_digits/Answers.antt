use Rattle.acpi_text.proofs.Offsets as offsets
use Rattle.acpi_text.proofs.offset.push_two_digits.Goals as goal

pub push_front-requires : goal.push_front-requires
push_front-requires c = rw (c.tens.ensures, c.ones.ensures) (offsets.two_digits c.args.n c.requires.0 c.requires.1)
