-- Texts that are made into definition blocks.
use Rattle.std.specs.Prelude.{◌≡◌, ◌⊎◌, ℕ, nat_eq, ◌==◌, ◌&&◌, ◌||◌, Bool, true, if◌then◌else◌, List, [], ◌∷◌, codes}
use Rattle.std.specs.List.{starts_with}
use Rattle.acpi_base.specs.Table.{IsTrueTable}
use Rattle.acpi_asl.specs.Block.{has_terms, IsBlockText}
use Rattle.acpi_asl.specs.declared.block.BlockText.TheVariants.{Asl}
use Rattle.acpi_compile.specs.Alike.{alike}
use Rattle.acpi_compile.specs.Squeeze.{squeezed, has_block}

-- the ASL of a block, in which names take these numbers of arguments, is these characters but for what a compiler skips
pub record IsKeptOf (stated : List (List ℕ × ℕ)) (block kept : List ℕ) : Type 0 where
  pub asl : List ℕ
  pub shown : IsBlockText Asl stated [] block asl
  pub same : kept ≡ squeezed asl

-- what follows the note with which the ASL of a block begins, on the program that made the table
abbrev pub after_note : List ℕ → List ℕ
after_note (a ∷ b ∷ rest) = if a == 42 && b == 47 then rest else after_note (b ∷ rest)
after_note _ = []

-- A text is the ASL of a block but for what means nothing to a compiler. It need not say which program made the table.
abbrev pub IsShownAs : List (List ℕ × ℕ) → List ℕ → List ℕ → Type 0
IsShownAs stated block kept =
    (shown : List ℕ) × IsKeptOf stated block shown
    × ((alike kept ≡ alike shown) ⊎ (alike kept ≡ alike (after_note shown)))

-- The bytes are a table of a definition block, whose ASL is the text but for what means nothing to a compiler. The terms are read
-- in the language of the standard, where names that the block doesn't declare take the numbers of arguments that the text gives
-- them.
pub record IsCompiled (text block : List ℕ) : Type 0 where
  pub table : IsTrueTable block
  pub terms : has_terms block ≡ true
  pub stated : List (List ℕ × ℕ)
  pub shown : IsShownAs stated block (squeezed text)

-- whether a text is ASL: it begins with a DefinitionBlock or with the note before one, or one of its lines begins with a
-- DefinitionBlock
abbrev pub is_asl : List ℕ → Bool
is_asl text =
    starts_with nat_eq (squeezed text) (codes "DefinitionBlock(")
    || (starts_with nat_eq (squeezed text) (codes "/*=") || has_block text)
