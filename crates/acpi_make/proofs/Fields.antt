-- Fields that are worked out.
use Rattle.std.proofs.Common.{◌≡◌, ℕ, suc, ◌+◌, ◌/◌, ◌%◌, ◌<◌, List, [], ◌∷◌, ◌++◌, length, take, drop, sym, ap, ◌∙◌, append_assoc, arith}
use Rattle.std.proofs.Math.ListN.{set}
use Rattle.std.proofs.lemmas.List.{take_more_set, drop-set-lt}
use Rattle.acpi_base.specs.Bytes.{le}
use Rattle.acpi_base.proofs.Bytes.{le_step}
use Rattle.acpi_make.specs.Complete.{written}
use Rattle.acpi_make.specs.Item.{known_cells}
use Rattle.acpi_make.specs.declared.item.Cell.{Cell}
use Rattle.acpi_make.specs.declared.item.Cell.TheVariants.{Byte}

-- the next byte of a number was written
pub written_more : (at left less value : ℕ) (cells : List Cell) → left ≡ less + 1 → at < length cells
    → written (at + 1) less (value / 256) (set cells at (Byte (value % 256))) ≡ written at left value cells
written_more at left less value cells next inside =
    let byte = Byte (value % 256) in
    let others = known_cells (le less (value / 256)) in
    let whole : le left value ≡ value % 256 ∷ le less (value / 256) =
    ap (λ n. le n value) (let e : left ≡ suc less = omega (arith, next) in e) ∙ le_step less value in
    ap (λ (l : List Cell). l ++ (others ++ drop (at + 1 + less) (set cells at byte))) (take_more_set cells at byte inside)
    ∙ append_assoc (take at cells) (byte ∷ []) (others ++ drop (at + 1 + less) (set cells at byte))
    ∙ ap (λ (l : List Cell). take at cells ++ (byte ∷ (others ++ l)))
    (drop-set-lt (at + 1 + less) cells at byte (omega arith) ∙ ap (λ n. drop n cells) (let e : at + 1 + less ≡ at + left = omega (arith, next) in e))
    ∙ ap (λ (l : List ℕ). take at cells ++ (known_cells l ++ drop (at + left) cells)) (sym whole)
