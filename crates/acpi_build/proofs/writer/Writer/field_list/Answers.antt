use Rattle.std.proofs.Common.{◌≡◌, false, subst}
use Rattle.acpi_build.specs.Block.{Writing, is_full}
use Rattle.acpi_build.proofs.Fields.{field_list_refused}
use Rattle.acpi_build.proofs.writer.Writer.field_list.Goals as goal

pub returns-in_err-field : goal.returns-in_err-field
returns-in_err-field c =
    field_list_refused c.args.path.now c.in_ok-path.path c.args.access c.args.lock c.args.update c.args.elements.items c.args.self.now _ _ c.in_err-field.field-0.0
    c.in_ok-path.ensures (subst (λ (w : Writing). is_full w.level.content ≡ false) c.self.view_is c.in_ok-self-inside.ensures.room) c.in_err-field.ensures
    c.from_residual-in_err-field.ensures.1
