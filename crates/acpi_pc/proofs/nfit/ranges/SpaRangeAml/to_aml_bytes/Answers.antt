use Rattle.std.proofs.Common.{◌≡◌, ℕ, List, take, refl}
use Rattle.acpi_base.specs.Fields.{fields_joined}
use Rattle.acpi_base.proofs.Objects.{wrote_whole, refused_whole}
use Rattle.acpi_pc.specs.Nfit.{spa_fields, spa_size, spa_bytes}
use Rattle.acpi_pc.specs.declared.nfit.ranges.SpaRange.{SpaRange}
use Rattle.acpi_pc.proofs.nfit.ranges.SpaRangeAml.to_aml_bytes.Goals as goal

written : (r : SpaRange) (n : ℕ) (bytes : List ℕ) → n ≡ spa_size r.cookie → bytes ≡ fields_joined (spa_fields r) → take n bytes ≡ spa_bytes r
written r n bytes size same = rw (size, same) refl

pub returns-clause-ok : goal.returns-clause-ok
returns-clause-ok g c = wrote_whole _ _ _ _ _ (written c.args.self.now _ _ c.size.ensures c.bytes.ensures) c.vec.ensures.0

pub returns-clause-err : goal.returns-clause-err
returns-clause-err g c = refused_whole _ _ _ _ _ (written c.args.self.now _ _ c.size.ensures c.bytes.ensures) c.vec.ensures.1
