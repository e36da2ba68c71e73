use Rattle.std.proofs.Common.{◌≡◌, ◌+◌, ◌∙◌, ap, sym, arith, length}
use Rattle.acpi_matrices.specs.Slit.{parts_of}
use Rattle.acpi_matrices.proofs.Distances.{are_true}
use Rattle.acpi_matrices.proofs.slit.SLIT.len.Goals as goal

pub returns : goal.returns
returns c =
    let i = c.self.inside in
    let is = c.self.invariant.is in
    let size = (are_true (parts_of i.fixed i.localities i.cells.items) is).1 in
    let cells : c.len.result ≡ length i.cells.items = omega (arith, c.len.ensures, i.cells.ok.0) in
    rw (← c.self.view_is) (ap (λ n. 44 + n) (cells ∙ is.square) ∙ sym size)
