use Rattle.std.proofs.Common.{◌≡◌, ◌<◌, [], ◌∷◌, ◌∙◌, ap, arith, length}
use Rattle.acpi_base.specs.Bytes.{put}
use Rattle.acpi_matrices.specs.Slit.{place_of}
use Rattle.acpi_matrices.proofs.Distances.{own_mirror}
use Rattle.acpi_matrices.proofs.slit.set_cells.Goals as goal

pub returns-else-a-b-clause-cells : goal.returns-else-a-b-clause-cells
returns-else-a-b-clause-cells c =
    let same : c.args.a ≡ c.args.b = omega (arith, c.if-a-b.false) in
    let within : place_of c.args.localities c.args.a c.args.b < length c.args.cells.now = omega (arith, c.place.ensures.place, c.place.ensures.within, c.requires.square) in
    c.patch.ensures.bytes ∙ ap (λ k. put k (c.args.value ∷ []) c.args.cells.now) c.place.ensures.place
    ∙ own_mirror c.args.localities c.args.a c.args.b c.args.value c.args.cells.now same within
