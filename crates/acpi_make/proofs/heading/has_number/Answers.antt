use Rattle.std.proofs.Common.{sym, ◌∙◌, arith}
use Rattle.acpi_make.proofs.Numbers.{lowest_is}
use Rattle.acpi_make.proofs.heading.has_number.Goals as goal

pub bytes-preserved : goal.bytes-preserved
bytes-preserved c =
    sym (lowest_is c.bytes.left c.bytes.number_left c.bytes.cells_left.now c.in-Some.cell.now c.in-Some.more.now (omega arith)
    c.in-Some.ensures.cases.0 (sym c.if-not-is_lowest.ensures)) ∙ c.bytes.invariant
