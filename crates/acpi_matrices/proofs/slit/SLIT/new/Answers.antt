use Rattle.std.proofs.Common.{◌≡◌, ◌+◌, ◌*◌, ◌%◌, ◌<◌, [], ◌∷◌, ◌++◌, refl, ap, ◌∙◌, arith, length}
use Rattle.std.specs.Prelude.{sum, codes}
use Rattle.acpi_base.specs.Bytes.{put}
use Rattle.acpi_base.specs.Header.{header}
use Rattle.acpi_base.specs.declared.oem.Oem.{Oem}
use Rattle.acpi_matrices.specs.Slit.{slit, localities_bytes, parts_of, IsParts}
use Rattle.acpi_matrices.proofs.Distances.{parts_new}
use Rattle.acpi_matrices.proofs.slit.SLIT.new.Goals as goal

parts : (c : goal.After-fixed-4-1)
    → IsParts c.write_at.new.bytes c.args.localities c.in_ok-cells.cells.items c.add.new.self.value
    × (parts_of c.write_at.new.bytes c.args.localities c.in_ok-cells.cells.items ≡ slit (record { id = c.args.oem_id; table_id = c.args.oem_table_id; revision = c.args.oem_revision }) c.args.localities)
parts c =
    let n = c.args.localities in
    let oem : Oem = record { id = c.args.oem_id; table_id = c.args.oem_table_id; revision = c.args.oem_revision } in
    let six : length c.args.oem_id ≡ 6 = omega arith in
    let eight : length c.args.oem_table_id ≡ 8 = omega arith in
    let head : c.header-head.result ≡ header (codes "SLIT") (44 + n * n) 1 oem = c.header-head.ensures ∙ ap (header (codes "SLIT") (44 + n * n) 1) c.new-oem.ensures in
    let few : n < 65536 = omega (arith, c.if-localities-gt65535.false) in
    parts_new oem n c.seal-sum.result.value c.add.new.self.value (44 + n * n) c.in_ok-cells.cells.items c.header-head.result c.record_of-fixed.result c.seal-sum.new.bytes c.write_at.new.bytes
    six eight c.ranges.oem_revision.fits few c.in_ok-cells.ensures.cells head refl (c.record_of-fixed.ensures ∙ ap (λ k. c.header-head.result ++ localities_bytes k) c.from.ensures) c.seal-sum.ensures.bytes c.seal-sum.ensures.sum
    (c.add.ensures.value ∙ ap (λ l. (c.seal-sum.result.value + sum l) % 256) c.deref.ensures.value)
    (c.write_at.ensures ∙ ap (λ k. put 9 (k ∷ []) c.seal-sum.new.bytes) c.checksum.ensures)

pub invariant_of-result : goal.invariant_of-result
invariant_of-result c = (parts c).0

pub returns-clause-ok : goal.returns-clause-ok
returns-clause-ok c = (parts c).1
