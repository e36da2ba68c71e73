-- Texts of definition blocks that have one namespace with further blocks (ACPI 6.5, 5.3).
use Rattle.std.specs.Prelude.{◌≡◌, ◌≢◌, ◌⊎◌, ℕ, ◌+◌, true, List, [], ◌∷◌, ◌++◌, length, take, drop}
use Rattle.std.specs.List.{concat}
use Rattle.acpi_asl.specs.Block.{has_terms, IsBlockText, IsTextInPart}
use Rattle.acpi_terms_text.specs.Block.{AreNoTerms}
use Rattle.acpi_asl.specs.declared.block.BlockText.{BlockText}
use Rattle.acpi_base.specs.Table.{IsTrueTable}
use Rattle.acpi_term.specs.ReadError.{offset_of}
use Rattle.acpi_term.specs.declared.read_error.ReadError.{ReadError}
use Rattle.acpi_term.specs.declared.read_error.ReadError.TheVariants.{Memory}
use Rattle.acpi_terms_text.specs.Objects.{Callee, AddObjectsIn}
use Rattle.acpi_c_calls.specs.Aml.{AreStated, AreNotStated}
use Rattle.acpi_c_calls.specs.Block.{IsNoBlock}
use Rattle.acpi_c_calls.specs.Refused.{by_memory, or_zero}
use Rattle.acpi_c_calls.specs.Table.{IsTableRefusal}
use Rattle.acpi_c_calls.specs.declared.fault.Fault.TheVariants.{FurtherBlock}
use Rattle.acpi_c_calls.specs.declared.refused.Refused.{Refused}

-- ---- further blocks

-- bytes are a definition block
pub record IsFurther (bytes : List ℕ) : Type 0 where
  pub table : IsTrueTable bytes
  pub is_block : has_terms bytes ≡ true

abbrev pub AreBlocks : List (List ℕ) → Type 0
AreBlocks [] = Unit {0}
AreBlocks (block ∷ blocks) = IsFurther block × AreBlocks blocks

-- the objects of these blocks are added to others, in order
abbrev pub AddBlocks : List (List ℕ × ℕ) → List (List ℕ) → List Callee → List Callee → Type 0
AddBlocks stated [] old new = new ≡ old
AddBlocks stated (block ∷ blocks) old new =
    (between : List Callee) × AddObjectsIn stated (drop 36 block) old between × AddBlocks stated blocks between new

-- bytes are definition blocks, one after another, and these are the objects of all
pub record AreFurther (stated : List (List ℕ × ℕ)) (bytes : List ℕ) (objects : List Callee) : Type 0 where
  pub blocks : List (List ℕ)
  pub joined : concat blocks ≡ bytes
  pub are : AreBlocks blocks
  pub added : AddBlocks stated blocks [] objects

-- at this offset, after some blocks, there are bytes at whose front there is none
pub record HaveNoBlock (bytes : List ℕ) (offset : ℕ) : Type 0 where
  pub blocks : List (List ℕ)
  pub rest : List ℕ
  pub joined : concat blocks ++ rest ≡ bytes
  pub are : AreBlocks blocks
  pub more : rest ≢ []
  pub none : (size : ℕ) → ¬ IsFurther (take size rest)
  pub at : offset ≡ length (concat blocks)

-- memory ran out, or the bytes aren't definition blocks
abbrev pub AreNotFurther : List ℕ → Refused → Type 0
AreNotFurther bytes refused =
    (refused ≡ by_memory) ⊎ ((refused.fault ≡ FurtherBlock) × HaveNoBlock bytes refused.place)

-- ---- the text

-- the text of a block whose terms are all read
pub record IsWhole (block : BlockText) (stated : List (List ℕ × ℕ)) (further : List Callee) (bytes text : List ℕ)
    (unread : ℕ) : Type 0 where
  pub is : IsBlockText block stated further bytes text
  pub all : unread ≡ 0

-- the text of the terms that can be read, and the offset of an error of the others
pub record IsInPart (block : BlockText) (stated : List (List ℕ × ℕ)) (further : List Callee) (bytes text : List ℕ)
    (unread : ℕ) : Type 0 where
  pub is : IsTextInPart block stated further bytes text
  pub error : ReadError
  pub no_memory : error ≢ Memory
  pub why : AreNoTerms stated further (drop 36 bytes) error
  pub at : unread ≡ 36 + or_zero (offset_of error)

abbrev pub IsTextBy : BlockText → List (List ℕ × ℕ) → List Callee → List ℕ → List ℕ → ℕ → Type 0
IsTextBy block stated further bytes text unread =
    IsWhole block stated further bytes text unread ⊎ IsInPart block stated further bytes text unread

-- bytes are a definition block, names take these numbers of arguments, and this is the text of the block among further ones
pub record IsAmong (block : BlockText) (arities further bytes : List ℕ) (unread : ℕ) (text : List ℕ) : Type 0 where
  pub table : IsTrueTable bytes
  pub is_block : has_terms bytes ≡ true
  pub numbers : List (List ℕ × ℕ)
  pub stated : AreStated arities numbers
  pub objects : List Callee
  pub are : AreFurther numbers further objects
  pub is : IsTextBy block numbers objects bytes text unread

-- why there is no text
abbrev pub IsAmongRefusal : List ℕ → List ℕ → List ℕ → ℕ → Refused → Type 0
IsAmongRefusal arities further bytes unread refused =
    (unread ≡ 0)
    × (IsTableRefusal bytes refused ⊎ IsNoBlock bytes refused ⊎ AreNotStated arities refused ⊎ AreNotFurther further refused)
