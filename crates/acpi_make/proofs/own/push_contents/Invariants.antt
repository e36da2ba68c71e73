use Rattle.std.proofs.Common.{◌≡◌, ◌++◌, drop, length}
use Rattle.acpi_make.specs.Own.{contents_own}
use Rattle.acpi_make.specs.Source.{source_of}
use Rattle.acpi_make.proofs.own.push_contents.Given as goal

abbrev pub invariant-marks : goal.invariant-marks
invariant-marks l =
    l.owns.items ++ contents_own (source_of l.source) l.cells (drop l.i l.marks) (length l.cells)
    ≡ l.initial.owns.items ++ contents_own (source_of l.source) l.cells l.marks (length l.cells)
