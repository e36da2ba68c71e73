-- What laws say.
use Rattle.std.specs.Prelude.{◌≡◌, ℕ, ◌+◌, ◌^◌, ◌≤◌, length}
use Rattle.acpi_loader.specs.Command.{command_bytes}
use Rattle.acpi_loader.specs.Firmware.{Addresses, Memory, run}
use Rattle.acpi_loader.specs.Loader.{tables_file, rsdp_file}
use Rattle.acpi_loader.specs.Places.{places_of, commands_of}
use Rattle.acpi_loader.specs.Tables.{Tables, tables_at, rsdp_at}
use Rattle.acpi_loader.specs.declared.command.Command.{Command}

-- each command has 128 bytes
abbrev pub CommandsHaveTheirSize : Type 0
CommandsHaveTheirSize = (command : Command) → length (command_bytes command) ≡ 128

-- the tables and the RSDP as `lay_files` lays them for an address
abbrev pub laid_at : ℕ → Tables → Memory
laid_at base tables = record { tables = tables_at base tables; rsdp = rsdp_at base tables }

-- Wherever firmware puts both files, the commands leave what `lay_files` lays for the address of the tables, if each of their
-- bytes has an address below 2^64.
abbrev pub LoadersLay : Type 0
LoadersLay =
    (tables : Tables) (at : Addresses) → 148 ≤ length tables.fadt → at.tables + length (tables_at 0 tables) ≤ 2 ^ 64
    → run at (commands_of (places_of tables)) (record { tables = tables_file tables; rsdp = rsdp_file tables })
    ≡ laid_at at.tables tables
