use Rattle.std.proofs.Common.{sym, ap, ◌∙◌, is_some}
use Rattle.acpi_term.proofs.ArityIndexes.{is_stated_by, the_index}
use Rattle.acpi_term.proofs.name_string.states.Goals as goal

pub returns-in-Some : goal.returns-in-Some
returns-in-Some c =
    let all = c.args.counts.now in
    let is = the_index c.args.index.now c.in-Some.index all c.in-Some.is c.requires in
    c.is_some.ensures ∙ ap is_some (c.find.ensures ∙ is c.args.name.now) ∙ sym (is_stated_by all c.args.name.now)
