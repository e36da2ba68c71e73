use Rattle.std.proofs.Common.{take, map, string_bytes}
use Rattle.acpi_cpio.specs.Archive.{named}
use Rattle.acpitool_program.specs.Archiving.{AreRead}
use Rattle.acpitool_program.proofs.archiving.read_tables.Given as goal

abbrev pub invariant-paths : goal.invariant-paths
invariant-paths g l =
    AreRead (map (λ path. string_bytes path) (take l.path-index l.paths)) (map named l.tables.items)
    (g.E.Write.contents l.initial.err) (g.E.Write.contents l.err)
