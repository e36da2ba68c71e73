-- Objects of definition blocks, one block after another.
use Rattle.std.proofs.Common.{ℕ, List, [], ◌∷◌, ◌++◌, refl, subst}
use Rattle.acpi_asl.specs.Block.{has_terms}
use Rattle.acpi_terms_text.specs.Objects.{Callee}
use Rattle.acpitool_program.specs.Shown.{AddsBlock, AddsBlocks}

-- one more block
pub blocks_more : (stated : List (List ℕ × ℕ)) (tables : List (List ℕ × List ℕ)) (table : List ℕ × List ℕ) (a b c : List Callee)
    → AddsBlocks stated tables a b → AddsBlock (has_terms table.1) stated table.1 b c → AddsBlocks stated (tables ++ table ∷ []) a c
blocks_more stated [] table a b c one two =
    let P : List Callee → Type 0 = λ l. AddsBlock (has_terms table.1) stated table.1 l c in (c, subst P one two, refl)
blocks_more stated (first ∷ tables) table a b c one two = (one.0, one.1, blocks_more stated tables table one.0 b c one.2 two)
