use Rattle.std.proofs.Common.{◌≡◌, List, [], false, subst}
use Rattle.acpi_base.specs.Object.{IsOwnEnd}
use Rattle.acpi_term.specs.Row.{row}
use Rattle.acpi_aml.specs.Field.{field_head}
use Rattle.acpi_aml.specs.declared.field.FieldEntry.{FieldEntry}
use Rattle.acpi_build.specs.Block.{Writing, is_full}
use Rattle.acpi_build.proofs.Fields.{field_refused}
use Rattle.acpi_build.proofs.writer.Writer.field.Goals as goal

pub returns-in_err-field : goal.returns-in_err-field
returns-in_err-field c =
    field_refused c.args.path.now c.in_ok-path.path c.args.access c.args.lock c.args.update c.args.entries.now c.args.self.now _ _ c.in_err-field.field-0.0
    c.in_ok-path.ensures (subst (λ (w : Writing). is_full w.level.content ≡ false) c.self.view_is c.in_ok-self-inside.ensures.room) (subst (λ (entries : List FieldEntry). IsOwnEnd c.in_err-field.field-0.0 (row (field_head c.in_ok-path.path c.args.access c.args.lock c.args.update entries) [])) c.in_ok-entries.ensures.items c.in_err-field.ensures)
    c.from_residual-in_err-field.ensures.1
