use Rattle.std.proofs.Common.{◌≡◌, ◌++◌, ℕ, List, drop}
use Rattle.std.specs.Io.KnownBytes.{Appends}
use Rattle.acpitool_program.specs.Image.{table_lines}
use Rattle.acpitool_program.proofs.image.print_lines.Given as goal

-- what was written, and the lines of the tables that are left
abbrev pub invariant-tables : goal.invariant-tables
invariant-tables g l =
    (done : List ℕ)
    × Appends (g.O.Write.contents l.initial.out) (g.O.Write.contents l.out) done
    × (done ++ table_lines l.base l.bytes (drop l.table-index l.tables) ≡ table_lines l.base l.bytes l.tables)
