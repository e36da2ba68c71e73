-- What firmware does with the commands of a loader, as QEMU's documentation of `bios-linker-loader` has it.
use Rattle.std.specs.Prelude.{ℕ, ◌+◌, ◌%◌, List, [], ◌∷◌, sum, take, drop}
use Rattle.acpi_base.specs.Bytes.{le, put, complement, field_at}
use Rattle.acpi_loader.specs.declared.command.Command.{Command}
use Rattle.acpi_loader.specs.declared.command.Command.TheVariants.{Allocate, AddPointer, AddChecksum}
use Rattle.acpi_loader.specs.declared.command.File.{File}
use Rattle.acpi_loader.specs.declared.command.File.TheVariants as files

-- where both files are in memory
pub record Addresses : Type 0 where
  pub tables : ℕ
  pub rsdp : ℕ

abbrev pub address_of : Addresses → File → ℕ
address_of at files.Tables = at.tables
address_of at files.Rsdp = at.rsdp

-- what is there
pub record Memory : Type 0 where
  pub tables : List ℕ
  pub rsdp : List ℕ

-- a file is changed there
abbrev pub changed : File → (List ℕ → List ℕ) → Memory → Memory
changed files.Tables change memory = record { tables = change memory.tables; rsdp = memory.rsdp }
changed files.Rsdp change memory = record { tables = memory.tables; rsdp = change memory.rsdp }

-- an address is added to the eight bytes at an offset
abbrev pub pointed : ℕ → ℕ → List ℕ → List ℕ
pointed offset address bytes = put offset (le 8 (field_at offset 8 bytes + address)) bytes

-- the complement of the sum of bytes is added to the byte at an offset
abbrev pub summed : ℕ → ℕ → ℕ → List ℕ → List ℕ
summed offset start size bytes =
    put offset ((field_at offset 1 bytes + complement (sum (take size (drop start bytes)))) % 256 ∷ []) bytes

-- A command is done. The addresses are those that were chosen for ALLOCATE.
abbrev pub done : Addresses → Command → Memory → Memory
done at (Allocate file unit zone) memory = memory
done at (AddPointer file target offset) memory = changed file (pointed offset (address_of at target)) memory
done at (AddChecksum file offset start size) memory = changed file (summed offset start size) memory

-- commands are done, one after another
abbrev pub run : Addresses → List Command → Memory → Memory
run at [] memory = memory
run at (command ∷ more) memory = run at more (done at command memory)
