use Rattle.std.proofs.Common.{sym, ap, ◌∙◌, unwrap_or}
use Rattle.acpi_term.proofs.ArityIndexes.{arity_by, the_index}
use Rattle.acpi_term.proofs.name_string.count_by.Goals as goal

pub returns-in-Some : goal.returns-in-Some
returns-in-Some c =
    let all = c.args.counts.now in
    let is = the_index c.args.index.now c.in-Some.index all c.in-Some.is c.requires in
    c.unwrap_or.ensures ∙ ap (λ n. unwrap_or n 0) (c.find.ensures ∙ is c.args.name.now) ∙ sym (arity_by all c.args.name.now)
