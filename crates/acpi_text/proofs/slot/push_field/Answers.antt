use Rattle.std.proofs.Common.{rules}
use Rattle.acpi_text.proofs.Shown.{showed_none, showed_short}
use Rattle.acpi_text.proofs.slot.push_field.Goals as goal

pub returns-then-is_empty : goal.returns-then-is_empty
returns-then-is_empty c = showed_none _ c.args.offset c.args.bytes.now _ (search rules)

pub returns-in_ok-push_nameless-in-None : goal.returns-in_ok-push_nameless-in-None
returns-in_ok-push_nameless-in-None c =
    showed_short c.args.form.now.depth c.args.offset c.args.form.now.name.now _ c.args.form.now.width c.args.form.now.count c.args.bytes.now _ _
    (search rules) c.in-None.ensures c.in_ok-push_nameless-in-None.ensures
