use Rattle.std.proofs.Common.{sym, ◌∙◌, arith}
use Rattle.acpi_make.proofs.Numbers.{next_begins}
use Rattle.acpi_make.proofs.notes.begins_with.Goals as goal

pub bytes-preserved : goal.bytes-preserved
bytes-preserved c =
    sym (next_begins c.bytes.left c.bytes.number_left c.bytes.bytes_left.now c.in-Some.byte.now c.in-Some.more.now (omega arith)
    c.in-Some.ensures.cases.0 (sym c.from.ensures ∙ c.if-from-number_left.false)) ∙ c.bytes.invariant
