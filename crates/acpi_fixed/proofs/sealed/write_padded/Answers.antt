use Rattle.std.proofs.Common.{◌≡◌, ◌∙◌, arith, rules}
use Rattle.acpi_base.proofs.Objects.{wrote_whole, refused_whole}
use Rattle.acpi_fixed.specs.Sealed.{padded}
use Rattle.acpi_fixed.proofs.Headed.{is_padded}
use Rattle.acpi_fixed.proofs.sealed.write_padded.Given.{Over}
use Rattle.acpi_fixed.proofs.sealed.write_padded.Goals as goal

made : (g : Over) (c : goal.After-vec g)
    → c.seal.new.bytes ≡ padded g.row.N c.args.signature c.args.revision c.args.oem c.args.first.now
made g c =
    c.seal.ensures.bytes
    ∙ is_padded c.args.signature c.args.revision c.args.oem g.row.N _ c.header.result c.args.first.now _ _ (search rules) c.requires.size (omega (arith, c.requires.fits)) c.header.ensures c.write_at.ensures c.write_at-2.ensures

pub returns-clause-ok : goal.returns-clause-ok
returns-clause-ok g c = wrote_whole _ _ _ _ _ (made g c) c.vec.ensures.0

pub returns-clause-err : goal.returns-clause-err
returns-clause-err g c = refused_whole _ _ _ _ _ (made g c) c.vec.ensures.1
