-- The offsets of the tables that hold addresses, and the commands that put the addresses in.
use Rattle.std.specs.Prelude.{ℕ, zero, suc, ◌+◌, ◌*◌, Bool, true, false, List, [], ◌∷◌, ◌++◌, length}
use Rattle.std.specs.Option.{is_some}
use Rattle.acpi_loader.specs.declared.command.Command.{Command}
use Rattle.acpi_loader.specs.declared.command.Command.TheVariants.{Allocate, AddPointer, AddChecksum}
use Rattle.acpi_loader.specs.declared.command.File.TheVariants as files
use Rattle.acpi_loader.specs.declared.command.Zone.TheVariants as zones
use Rattle.acpi_loader.specs.declared.places.Places.{Places}
use Rattle.acpi_loader.specs.Tables.{Tables, fadt_place, xsdt_place}

abbrev pub places_of : Tables → Places
places_of tables = record {
  has_facs = is_some tables.facs;
  fadt = fadt_place tables;
  fadt_size = length tables.fadt;
  xsdt = xsdt_place 0 tables;
  count = 1 + length tables.others;
}

-- memory for both files: a FACS is at a multiple of 64 (ACPI 6.5, 5.2.10), and the RSDP at one of 16 (5.2.5.1)
abbrev pub allocations : List Command
allocations = Allocate files.Tables 64 zones.High ∷ Allocate files.Rsdp 16 zones.FSeg ∷ []

-- X_FIRMWARE_CTRL at offset 132 of the FADT (5.2.9), if there is a FACS
abbrev pub facs_commands : Bool → ℕ → List Command
facs_commands true fadt = AddPointer files.Tables files.Tables (fadt + 132) ∷ []
facs_commands false fadt = []

-- X_DSDT at offset 140 of the FADT, and its checksum
abbrev pub fadt_commands : ℕ → ℕ → List Command
fadt_commands fadt size =
    AddPointer files.Tables files.Tables (fadt + 140) ∷ AddChecksum files.Tables (fadt + 9) fadt size ∷ []

-- entries of the XSDT (5.2.8), the first of which is at this offset
abbrev pub entry_commands : ℕ → ℕ → List Command
entry_commands offset zero = []
entry_commands offset (suc count) = AddPointer files.Tables files.Tables offset ∷ entry_commands (offset + 8) count

-- all entries of the XSDT, and its checksum
abbrev pub xsdt_commands : ℕ → ℕ → List Command
xsdt_commands xsdt count =
    entry_commands (xsdt + 36) count ++ AddChecksum files.Tables (xsdt + 9) xsdt (36 + 8 * count) ∷ []

-- XsdtAddress of the RSDP (5.2.5.3), its checksum, which is that of 20 bytes, and its extended checksum
abbrev pub rsdp_commands : List Command
rsdp_commands =
    AddPointer files.Rsdp files.Tables 24 ∷ AddChecksum files.Rsdp 8 0 20 ∷ AddChecksum files.Rsdp 32 0 36 ∷ []

abbrev pub commands_of : Places → List Command
commands_of places =
    allocations
    ++ (facs_commands places.has_facs places.fadt
    ++ (fadt_commands places.fadt places.fadt_size
    ++ (xsdt_commands places.xsdt places.count
    ++ rsdp_commands)))
