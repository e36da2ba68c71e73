use Rattle.std.proofs.Common.{sym, ◌∙◌, arith}
use Rattle.acpi_make.proofs.Numbers.{next_known}
use Rattle.acpi_make.proofs.heading.are_known.Goals as goal

pub bytes-preserved : goal.bytes-preserved
bytes-preserved c =
    sym (next_known c.bytes.left c.bytes.cells_left.now c.in-Some.cell.now c.in-Some.more.now (omega arith)
    c.in-Some.ensures.cases.0 (sym c.if-not-is_known.ensures)) ∙ c.bytes.invariant
