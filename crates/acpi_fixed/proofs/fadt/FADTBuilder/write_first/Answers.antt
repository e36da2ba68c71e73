use Rattle.std.proofs.Common.{◌≡◌, ◌-◌, ◌∙◌, [], ◌∷◌, ◌++◌, take, ap}
use Rattle.acpi_base.specs.Bytes.{put}
use Rattle.acpi_base.proofs.Objects.{wrote_whole, refused_whole}
use Rattle.acpi_base.specs.Table.{with_checksum}
use Rattle.acpi_fixed.specs.EarlierFadt.{first_bytes}
use Rattle.acpi_fixed.proofs.fadt.FADTBuilder.write_first.Given.{Over}
use Rattle.acpi_fixed.proofs.fadt.FADTBuilder.write_first.Goals as goal

made : (g : Over) (c : goal.After-vec g) → c.sealed_table-table.result ≡ first_bytes g.row.N c.args.int_model c.args.self.now
made g c =
    c.sealed_table-table.ensures
    ∙ λ i. with_checksum (c.header.ensures i ++ take (g.row.N - 36) ((c.write_at.ensures ∙ ap (put 8 (c.args.int_model ∷ [])) c.bytes-body.ensures) i))

pub returns-clause-ok : goal.returns-clause-ok
returns-clause-ok g c = wrote_whole _ _ _ _ _ (made g c) c.vec.ensures.0

pub returns-clause-err : goal.returns-clause-err
returns-clause-err g c = refused_whole _ _ _ _ _ (made g c) c.vec.ensures.1
