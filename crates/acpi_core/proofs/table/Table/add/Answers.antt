use Rattle.std.proofs.Common.{◌≡◌, ◌+◌, refl, ◌∙◌, ap, sym, arith, length}
use Rattle.std.proofs.lemmas.Slice.{pushed}
use Rattle.acpi_core.specs.Flat.{has_space}
use Rattle.acpi_core.proofs.Flats.{flat_added}
use Rattle.acpi_core.proofs.table.Table.add.Goals as goal

pub invariant_of-self-2 : goal.invariant_of-self-2
invariant_of-self-2 g c =
    let i = c.self.inside in
    let x = c.args.structure.now in
    let size : g.row.N + c.len-held.result ≡ length i.fixed + length i.body.items = omega (arith, c.len-held.ensures, c.self.told) in
    let items = pushed x refl c.in_ok-extend_from_slice.was c.extend_from_slice.ensures.items in
    let space = ap (λ n. has_space n (length x) i.limit i.count.number i.count.width) size in
    flat_added i.listed.table i.fixed i.body.items _ _ _ _ _ c.self.invariant x _ _ _ _ _ _ c.with-self-inside.ensures items
    (omega (arith, c.in_ok-size.ensures.size, size)) (sym space ∙ c.in_ok-size.ensures.ok) c.in_ok-size.ensures.fits c.in_ok-size.ensures.number c.settle.ensures.settles
