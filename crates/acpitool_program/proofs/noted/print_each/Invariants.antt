use Rattle.std.proofs.Common.{◌≡◌, ◌++◌, ℕ, List, map, drop}
use Rattle.std.specs.Io.KnownBytes.{Appends}
use Rattle.acpi_rules.specs.Field.{seen}
use Rattle.acpitool_program.specs.Noted.{notes}
use Rattle.acpitool_program.proofs.noted.print_each.Given as goal

-- what was written, and the lines of the numbers that are left
abbrev pub invariant-owns : goal.invariant-owns
invariant-owns g l =
    (done : List ℕ)
    × Appends (g.E.Write.contents l.initial.err) (g.E.Write.contents l.err) done
    × (done ++ notes l.name (map seen l.fields) (drop l.own-index l.owns) ≡ notes l.name (map seen l.fields) l.owns)
