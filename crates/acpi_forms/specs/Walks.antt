-- How the structures of tables without a standard header are found, and those of an earlier layout.
use Rattle.acpi_base.specs.declared.walk.Place.TheVariants.{Nowhere, Byte, Word, DWord}
use Rattle.acpi_base.specs.declared.walk.Sizes.TheVariants.{ToldAt}
use Rattle.acpi_base.specs.declared.walk.Walk.{Walk}

-- the structures of a Coherent Device Attribute Table (CDAT 1.03)
abbrev pub cdat_walk : Walk
cdat_walk = record { start = 16; sizes = ToldAt (Word 2); kind = Byte 0; count = Nowhere; first = Nowhere }

-- the records of an S3 Performance Table (ACPI 6.5, 5.2.24)
abbrev pub s3pt_walk : Walk
s3pt_walk = record { start = 8; sizes = ToldAt (Byte 2); kind = Word 0; count = Nowhere; first = Nowhere }

-- the timers of a Generic Timer Description Table before revision 3, which ends with the offset of the first (ACPI 6.2, 5.2.24)
abbrev pub earlier_gtdt_walk : Walk
earlier_gtdt_walk = record { start = 96; sizes = ToldAt (Word 1); kind = Byte 0; count = DWord 88; first = DWord 92 }
