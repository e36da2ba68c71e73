use Rattle.acpi_text.proofs.Offsets as offsets
use Rattle.acpi_text.proofs.offset.push_six_digits.Goals as goal

pub push_front-requires : goal.push_front-requires
push_front-requires c = rw (c.tens.ensures, c.ones.ensures, c.tens-2.ensures, c.ones-2.ensures, c.tens-3.ensures, c.ones-3.ensures) (offsets.six_digits c.args.n c.requires.0 c.requires.1)
