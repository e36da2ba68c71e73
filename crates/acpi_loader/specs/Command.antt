-- The format of QEMU's `etc/table-loader`. It is a list of commands, each of which has 128 bytes. Numbers have their lowest byte
-- first.
use Rattle.std.specs.Prelude.{ℕ, List, [], ◌∷◌, ◌++◌, codes}
use Rattle.acpi_base.specs.Bytes.{le, zeros}
use Rattle.acpi_loader.specs.declared.command.File.{File}
use Rattle.acpi_loader.specs.declared.command.File.TheVariants as files
use Rattle.acpi_loader.specs.declared.command.Zone.{Zone}
use Rattle.acpi_loader.specs.declared.command.Zone.TheVariants as zones
use Rattle.acpi_loader.specs.declared.command.Command.{Command}
use Rattle.acpi_loader.specs.declared.command.Command.TheVariants as commands

-- the name of a file, in 56 bytes
abbrev pub name_of : File → List ℕ
name_of files.Tables = codes "etc/acpi/tables" ++ zeros 41
name_of files.Rsdp = codes "etc/acpi/rsdp" ++ zeros 43

-- a zone of memory
abbrev pub zone_of : Zone → ℕ
zone_of zones.High = 1
zone_of zones.FSeg = 2

-- the number of a command, and the name of its file
abbrev pub front : ℕ → File → List ℕ
front number file = le 4 number ++ name_of file

abbrev pub command_bytes : Command → List ℕ
command_bytes (commands.Allocate file unit zone) =
    front 1 file  -- ALLOCATE, and its file
    ++ (le 4 unit  -- alignment
    ++ zone_of zone  -- zone
    ∷ zeros 63)
command_bytes (commands.AddPointer file target offset) =
    front 2 file  -- ADD_POINTER, and the file with the pointer
    ++ (name_of target  -- the file to which it points
    ++ (le 4 offset  -- where the pointer is
    ++ 8  -- how many bytes it has
    ∷ zeros 7))
command_bytes (commands.AddChecksum file offset start size) =
    front 3 file  -- ADD_CHECKSUM, and its file
    ++ (le 4 offset  -- where the checksum is
    ++ (le 4 start  -- where the bytes begin
    ++ (le 4 size  -- how many they are
    ++ zeros 56)))

-- commands, one after another
abbrev pub script_of : List Command → List ℕ
script_of [] = []
script_of (command ∷ more) = command_bytes command ++ script_of more
