-- Controllers and their resources.
use Rattle.std.proofs.Common.{◌≡◌, ◌+◌, ◌≤◌, sym, ◌∙◌, arith, length}
use Rattle.acpi_base.specs.Walk.{IsPiece}
use Rattle.acpi_base.specs.declared.walk.Place.TheVariants.{Word}
use Rattle.acpi_base.specs.declared.walk.Sizes.TheVariants.{ToldAt}
use Rattle.acpi_core.proofs.Parts.{word_told}
use Rattle.acpi_hest.specs.Rqsc.{Controller, controller_bytes}

pub controller_piece : (q : Controller) → 28 + length q.resources ≤ 0xffff → IsPiece (ToldAt (Word 2)) (controller_bytes q)
controller_piece q fits =
    let size : length (controller_bytes q) ≡ 28 + length q.resources = omega arith in
    (omega (arith, size), word_told (28 + length q.resources) (omega (arith, fits)) ∙ sym size)
