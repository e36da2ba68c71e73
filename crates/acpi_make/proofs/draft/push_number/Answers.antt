use Rattle.std.proofs.Common.{◌-◌, ◌/◌, ◌%◌, [], ◌∷◌, ◌++◌, append_assoc, sym, ap, ◌∙◌, arith}
use Rattle.acpi_base.specs.Bytes.{le}
use Rattle.acpi_make.proofs.Numbers.{next_lowest}
use Rattle.acpi_make.specs.Item.{known_cells}
use Rattle.acpi_make.specs.declared.item.Cell.TheVariants.{Byte}
use Rattle.acpi_make.proofs.draft.push_number.Goals as goal

pub bytes-preserved : goal.bytes-preserved
bytes-preserved c =
    let before = c.bytes.cells.items in
    let others = known_cells (le (c.bytes.left - 1) (c.bytes.rest / 256)) in
    ap (λ cells. cells ++ others) c.in_ok-push.ensures.items
    ∙ append_assoc before (Byte (c.bytes.rest % 256) ∷ []) others
    ∙ ap (λ cells. before ++ cells) (sym (next_lowest c.bytes.left c.bytes.rest (omega arith)))
    ∙ c.bytes.invariant
