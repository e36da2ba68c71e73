use Rattle.std.proofs.Common.{◌∙◌, ap, rules}
use Rattle.acpi_base.specs.Table.{with_checksum}
use Rattle.acpi_fixed.proofs.Headed.{behind_header}
use Rattle.acpi_fixed.proofs.sealed.sealed_table.Goals as goal

pub returns : goal.returns
returns g c =
    c.seal.ensures.bytes
    ∙ ap with_checksum (behind_header c.args.header c.args.body.now _ _ _ (search rules) (search rules) c.write_at.ensures c.write_at-2.ensures)
