use Rattle.acpi_text.proofs.Offsets as offsets
use Rattle.acpi_text.proofs.offset.push_one_digit.Goals as goal

pub push_front-requires : goal.push_front-requires
push_front-requires c = rw (c.ones.ensures) (offsets.one_digit c.args.n c.requires)
