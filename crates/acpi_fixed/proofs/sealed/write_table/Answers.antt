use Rattle.std.proofs.Common.{◌≡◌, ◌∙◌, arith, rules}
use Rattle.acpi_base.proofs.Objects.{wrote_whole, refused_whole}
use Rattle.acpi_base.specs.Fields.{fields_joined}
use Rattle.acpi_base.specs.Table.{table_of}
use Rattle.acpi_fixed.proofs.Headed.{is_table}
use Rattle.acpi_fixed.proofs.sealed.write_table.Given.{Over}
use Rattle.acpi_fixed.proofs.sealed.write_table.Goals as goal

made : (g : Over) (c : goal.After-vec g)
    → c.sealed_table-table.result ≡ table_of c.args.signature c.args.revision c.args.oem (fields_joined (g.T.Record.fields c.args.body.now))
made g c =
    c.sealed_table-table.ensures
    ∙ is_table c.args.signature c.args.revision c.args.oem g.row.N _ _ c.bytes.result _ (search rules) (omega (arith, c.requires.fits)) c.header.ensures c.bytes.ensures

pub returns-clause-ok : goal.returns-clause-ok
returns-clause-ok g c = wrote_whole _ _ _ _ _ (made g c) c.vec.ensures.0

pub returns-clause-err : goal.returns-clause-err
returns-clause-err g c = refused_whole _ _ _ _ _ (made g c) c.vec.ensures.1
