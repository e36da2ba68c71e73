use Rattle.std.proofs.Common.{◌∙◌}
use Rattle.acpi_term.specs.Tree.{count}
use Rattle.acpi_term.specs.View.{head_of}
use Rattle.acpi_read.proofs.Widths.{chosen_framed}
use Rattle.acpi_read.proofs.report.width.is_chosen.Goals as goal

pub returns-in-Some : goal.returns-in-Some
returns-in-Some c children is =
    let a = c.args in
    c.is_least.ensures ∙ chosen_framed (head_of a.kind) a.width children c.in-Some.field-0.now a.size (c.in-Some.ensures a.width (count children)) is
