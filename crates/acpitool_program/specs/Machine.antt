-- What is printed of rules on several tables.
use Rattle.std.specs.Prelude.{ℕ, Bool, List, [], ◌∷◌, map, string_bytes}
use Rattle.std.specs.List.{flat_map}
use Rattle.acpi_rules.specs.Machine.{machine_findings}
use Rattle.acpitool_program.specs.Checked.{printed_findings}
use Rattle.acpitool_program.specs.declared.machine.Kept.{Kept}

-- a table that was checked: its name and its bytes
abbrev pub kept_by : Kept → List ℕ × List ℕ
kept_by table = (string_bytes table.name, table.bytes.items)

-- what is printed of the rules that a table with a name breaks, among the tables of its machine: objects, or lines
abbrev pub printed_across : Bool → List (List ℕ) → List ℕ × List ℕ → List ℕ
printed_across json all table = printed_findings json table.0 table.1 (machine_findings all table.1)

-- the same of each of these tables, which are those of one machine
abbrev pub machine_text : Bool → List (List ℕ × List ℕ) → List ℕ
machine_text json tables = flat_map (printed_across json (map (λ table. table.1) tables)) tables

-- 0 if nothing is printed, and 1 otherwise
abbrev pub line_status : List ℕ → ℕ
line_status [] = 0
line_status (c ∷ text) = 1
