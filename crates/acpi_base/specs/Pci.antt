-- The functions of PCI.
use Rattle.std.specs.Prelude.{List, [], ◌∷◌}
use Rattle.acpi_base.specs.Look.{Part, part}

-- the number of a function: its bus in bits 15:8, its device in bits 7:3, its own number in bits 2:0
abbrev pub bdf_bits : List Part
bdf_bits =
    part 0xff00 0x0100 "Bus"
    ∷ part 0x00f8 0x0008 "Device"
    ∷ part 0x0007 0x0001 "Function"
    ∷ []
