-- Texts of definition blocks.
use Rattle.std.specs.Prelude.{◌≡◌, ◌⊎◌, ℕ, ◌+◌, true, false, List, [], drop}
use Rattle.std.specs.Option.{option_map}
use Rattle.acpi_asl.specs.Block.{has_terms, IsBlockText}
use Rattle.acpi_terms_text.specs.Block.{AreNoTerms}
use Rattle.acpi_asl.specs.declared.block.BlockText.{BlockText}
use Rattle.acpi_base.specs.Table.{IsTrueTable}
use Rattle.acpi_term.specs.ReadError.{offset_of}
use Rattle.acpi_term.specs.declared.read_error.ReadError.{ReadError}
use Rattle.acpi_c_calls.specs.Aml.{AreStated, AreNotStated}
use Rattle.acpi_c_calls.specs.Refused.{fault_of_read, or_zero}
use Rattle.acpi_c_calls.specs.Table.{IsTableRefusal}
use Rattle.acpi_c_calls.specs.declared.fault.Fault.TheVariants.{NoBlock}
use Rattle.acpi_c_calls.specs.declared.refused.Refused.{Refused}

-- bytes are a definition block, and names take these numbers of arguments by a text
pub record IsStatedIn (arities bytes : List ℕ) (numbers : List (List ℕ × ℕ)) : Type 0 where
  pub table : IsTrueTable bytes
  pub is_block : has_terms bytes ≡ true
  pub stated : AreStated arities numbers

-- bytes are a definition block, names take these numbers of arguments, and this is the text of the block
pub record IsBlock (block : BlockText) (arities bytes text : List ℕ) : Type 0 where
  pub table : IsTrueTable bytes
  pub is_block : has_terms bytes ≡ true
  pub numbers : List (List ℕ × ℕ)
  pub stated : AreStated arities numbers
  pub is : IsBlockText block numbers [] bytes text

-- a table with another signature
pub record IsNoBlock (bytes : List ℕ) (refused : Refused) : Type 0 where
  pub table : IsTrueTable bytes
  pub none : has_terms bytes ≡ false
  pub is : refused ≡ record { fault = NoBlock; place = 0 }

-- bytes are no definition block, or a text states no numbers of arguments
abbrev pub IsNotStatedIn : List ℕ → List ℕ → Refused → Type 0
IsNotStatedIn arities bytes refused = IsTableRefusal bytes refused ⊎ IsNoBlock bytes refused ⊎ AreNotStated arities refused

-- the error of terms after the header, with its offset in the table
abbrev pub by_terms : ReadError → Refused
by_terms error = record { fault = fault_of_read error; place = or_zero (option_map (λ n. 36 + n) (offset_of error)) }

-- the bytes after the header are no terms, or memory ran out
pub record HasNoTerms (arities bytes : List ℕ) (refused : Refused) : Type 0 where
  pub table : IsTrueTable bytes
  pub numbers : List (List ℕ × ℕ)
  pub stated : AreStated arities numbers
  pub error : ReadError
  pub is : refused ≡ by_terms error
  pub why : AreNoTerms numbers [] (drop 36 bytes) error

-- why there is no text
abbrev pub IsBlockRefusal : List ℕ → List ℕ → Refused → Type 0
IsBlockRefusal arities bytes refused =
    IsTableRefusal bytes refused ⊎ IsNoBlock bytes refused ⊎ AreNotStated arities refused ⊎ HasNoTerms arities bytes refused
