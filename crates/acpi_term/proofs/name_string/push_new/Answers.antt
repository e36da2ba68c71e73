use Rattle.std.proofs.Common.{◌≡◌, [], ◌∷◌, ◌++◌, sym, ap, ◌∙◌, is_some, true}
use Rattle.acpi_term.specs.ArityIndex.{found, number_of}
use Rattle.acpi_term.proofs.ArityIndexes.{stays, with_stated, with_further, is_there, is_further}
use Rattle.acpi_term.proofs.name_string.push_new.Goals as goal

pub returns-else-branch-clause-added : goal.returns-else-branch-clause-added
returns-else-branch-clause-added c =
    with_stated c.args.counts.now.items (c.args.name, c.args.count)
    (sym (ap is_some (ap (found c.args.index.now) c.as_bytes.ensures.bytes ∙ c.requires c.args.name)) ∙ is_there _ (sym c.if-branch.false ∙ c.in_ok-add.ensures.first))

pub returns-else-branch-clause-indexed : goal.returns-else-branch-clause-indexed
returns-else-branch-clause-indexed c = λ name.
    let stated : is_some (number_of c.args.counts.now.items c.args.name) ≡ true =
    sym (ap is_some (ap (found c.args.index.now) c.as_bytes.ensures.bytes ∙ c.requires c.args.name)) ∙ is_there _ (sym c.if-branch.false ∙ c.in_ok-add.ensures.first)
    in
    c.in_ok-add.ensures.added c.args.counts.now.items c.requires name
    ∙ ap (λ s. number_of (c.args.counts.now.items ++ (s, c.args.count) ∷ []) name) c.as_bytes.ensures.bytes
    ∙ stays c.args.counts.now.items (c.args.name, c.args.count) name stated

pub returns-in_ok-push-clause-added : goal.returns-in_ok-push-clause-added
returns-in_ok-push-clause-added c =
    c.in_ok-push.ensures.items
    ∙ with_further c.args.counts.now.items (c.args.name, c.args.count)
    (sym (ap is_some (ap (found c.args.index.now) c.as_bytes.ensures.bytes ∙ c.requires c.args.name)) ∙ is_further _ (sym c.if-branch.true ∙ c.in_ok-add.ensures.first))

pub returns-in_ok-push-clause-indexed : goal.returns-in_ok-push-clause-indexed
returns-in_ok-push-clause-indexed c = λ name.
    c.in_ok-add.ensures.added c.args.counts.now.items c.requires name
    ∙ ap (λ s. number_of (c.args.counts.now.items ++ (s, c.args.count) ∷ []) name) c.as_bytes.ensures.bytes
    ∙ ap (λ l. number_of l name) (sym c.in_ok-push.ensures.items)
