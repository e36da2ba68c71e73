use Rattle.std.proofs.Common.{◌≡◌, ◌++◌, ◌∙◌, ap, refl, arith, length, replicate}
use Rattle.acpi_base.specs.Header.{header}
use Rattle.acpi_core.specs.Flat.{new_listing}
use Rattle.acpi_core.proofs.Flats.{made_of, flat_new}
use Rattle.acpi_core.proofs.table.Table.new.Goals as goal

pub invariant_of-result : goal.invariant_of-result
invariant_of-result g c =
    let form = c.args.form in
    let t = new_listing form c.args.before.now c.args.after.now in
    let head = c.header-head.result in
    let four : length form.signature ≡ 4 = omega arith in
    let six : length form.oem.id ≡ 6 = omega arith in
    let eight : length form.oem.table_id ≡ 8 = omega arith in
    let long : length head ≡ 36 = omega arith in
    let made : c.write_at-3.new.bytes ≡ head ++ (c.args.before.now ++ (replicate form.count_width 0 ++ c.args.after.now)) =
    made_of head c.args.before.now c.args.after.now _ _ _ _ form.count_width g.row.N long (omega (arith, c.requires.size)) refl c.write_at.ensures c.write_at-2.ensures c.write_at-3.ensures in
    let is : c.write_at-3.new.bytes ≡ header form.signature g.row.N form.revision form.oem ++ (c.args.before.now ++ (replicate form.count_width 0 ++ c.args.after.now)) =
    made ∙ ap (λ h. h ++ (c.args.before.now ++ (replicate form.count_width 0 ++ c.args.after.now))) c.header-head.ensures in
    let flat = flat_new t c.seal-sum.new.bytes c.new.result.items c.write_at-3.new.bytes c.seal-sum.result.value form.limit g.row.N four six eight c.requires.width refl
    c.requires.size c.requires.limit.0 c.requires.limit.1 is c.seal-sum.ensures.bytes c.seal-sum.ensures.sum c.new.ensures.items in
    rw c.new-2.ensures flat
