-- What laws say.
use Rattle.std.specs.Prelude.{◌≡◌, ◌≢◌, ℕ, ◌^◌, ◌<◌, List, [], ◌∷◌, length, map, All, Ok}
use Rattle.acpi_dump.specs.Dump.{tables_of}
use Rattle.acpi_dump.specs.Written.{Named, title_line, dump_text}

-- at least one character, and the first is no space
abbrev pub BeginsTitle : List ℕ → Type 0
BeginsTitle [] = ⊥
BeginsTitle (c ∷ name) = c ≢ 32

-- The name of a table is a line's beginning, and the table is bytes whose offsets fit 64 bits.
pub record IsDumped (table : Named) : Type 0 where
  pub begins : BeginsTitle table.name
  pub one_line : All (λ c. (c ≢ 10) × (c ≢ 13)) table.name
  pub are : All (λ b. b < 256) table.bytes
  pub size : length table.bytes < 2 ^ 64

-- The tables of a text that `acpidump` writes of tables are these tables, each with the line before it.
abbrev pub DumpsAreRead : Type 0
DumpsAreRead = (tables : List Named) → All IsDumped tables
    → tables_of (dump_text tables) ≡ Ok (map (λ table. (title_line table.name, table.bytes)) tables)
