-- Definition blocks (ACPI 6.5, 5.2.11), and what is shown of one.
use Rattle.std.specs.Prelude.{◌≡◌, ℕ, nat_eq, nat_le, ◌&&◌, ◌||◌, Bool, List, length, drop, codes}
use Rattle.std.specs.List.{starts_with}
use Rattle.acpi_term.specs.Tree.{Terms}
use Rattle.acpi_terms_text.specs.Block.{AreBlockTerms, AreBlockTermsInPart}
use Rattle.acpi_terms_text.specs.Objects.{Callee}
use Rattle.acpi_asl.specs.Asl.{asl_text}
use Rattle.acpi_asl.specs.Namespace.{names}
use Rattle.acpi_asl.specs.Objects.{objects_text}
use Rattle.acpi_asl.specs.declared.block.BlockText.{BlockText}
use Rattle.acpi_asl.specs.declared.block.BlockText.TheVariants.{Asl, Names, Objects}

-- whether bytes begin with the signature of a definition block (5.2.11.1 to 5.2.11.3); an OSDT replaces one
abbrev pub begins_block : List ℕ → Bool
begins_block bytes =
    starts_with nat_eq bytes (codes "DSDT")
    || starts_with nat_eq bytes (codes "SSDT")
    || starts_with nat_eq bytes (codes "PSDT")
    || starts_with nat_eq bytes (codes "OSDT")

-- whether terms follow the header
abbrev pub has_terms : List ℕ → Bool
has_terms bytes = nat_le 36 (length bytes) && begins_block bytes

-- the text of a header and of the terms that follow it
abbrev pub block_text : BlockText → List ℕ → Terms → List ℕ
block_text Asl header terms = asl_text header terms
block_text Names header terms = names 0 terms
block_text Objects header terms = objects_text header terms

-- The text is that of a header and the terms that follow it. Names take the stated numbers of arguments, or else those of the
-- objects of the block and of further blocks: in a method those of the nearest ones.
pub record IsBlockText (block : BlockText) (stated : List (List ℕ × ℕ)) (further : List Callee)
    (bytes text : List ℕ) : Type 0 where
  pub terms : Terms
  pub are : AreBlockTerms stated further (drop 36 bytes) terms
  pub is : text ≡ block_text block bytes terms

-- The same of the terms that can be read.
pub record IsTextInPart (block : BlockText) (stated : List (List ℕ × ℕ)) (further : List Callee)
    (bytes text : List ℕ) : Type 0 where
  pub terms : Terms
  pub are : AreBlockTermsInPart stated further (drop 36 bytes) terms
  pub is : text ≡ block_text block bytes terms
