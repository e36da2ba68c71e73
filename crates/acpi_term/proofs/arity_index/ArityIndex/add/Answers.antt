use Rattle.std.proofs.Common.{◌≡◌, ℕ, sym, ap, ◌∙◌, is_some, true, false, Vec, Global}
use Rattle.acpi_term.specs.ArityIndex.{number_of}
use Rattle.acpi_term.proofs.ArityIndexes.{stays, extends, query}
use Rattle.std.specs.BTreeMap.{is_at}
use Rattle.std.specs.Map.{lookup}
use Rattle.acpi_term.proofs.arity_index.ArityIndex.add.Goals as goal

pub returns-then-is_some-clause-added : goal.returns-then-is_some-clause-added
returns-then-is_some-clause-added c = λ all is name.
    let known : is_some (number_of all c.args.name.now) ≡ true = sym (ap is_some (c.find.ensures ∙ is c.args.name.now)) ∙ sym c.is_some.ensures ∙ c.if-is_some.true in
    is name ∙ sym (stays all (c.args.name.now, c.args.count) name known)

pub returns-clause-added : goal.returns-clause-added
returns-clause-added c = λ all is name.
    let new : is_some (number_of all c.args.name.now) ≡ false = sym (ap is_some (c.find.ensures ∙ is c.args.name.now)) ∙ sym c.is_some.ensures ∙ c.if-is_some.false in
    ap (lookup (is_at (query (λ (k : Vec ℕ Global). k.items) name))) c.in_ok-insert.ensures.entries
    ∙ extends (λ k. k.items) c.args.self.now.numbers.entries c.in_ok-key.key c.args.count c.args.name.now all c.in_ok-key.ensures.items is new name
