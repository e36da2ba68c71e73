-- The texts of definition blocks that were made.
use Rattle.std.proofs.Common.{◌≡◌, ℕ, List, Result, Ok, Err, IfOk, IfErr, true, [], drop, inr}
use Rattle.acpi_asl.specs.Block.{has_terms, IsBlockText}
use Rattle.acpi_terms_text.specs.Block.{AreNoTerms}
use Rattle.acpi_asl.specs.declared.block.BlockText.{BlockText}
use Rattle.acpi_base.specs.Table.{IsTrueTable}
use Rattle.acpi_term.specs.declared.read_error.ReadError.{ReadError}
use Rattle.acpi_c_calls.specs.Aml.{AreStated}
use Rattle.acpi_c_calls.specs.Block.{by_terms, IsBlock, IsBlockRefusal}
use Rattle.acpi_c_calls.specs.Results.{seen, IsOutcome}
use Rattle.acpi_c_calls.specs.declared.refused.Refused.{Refused}

-- of a table with terms, if names take these numbers of arguments
pub outcome : {A : Type 0} (view : A → List ℕ) (result : Result A Refused) (block : BlockText) (arities bytes : List ℕ)
    (numbers : List (List ℕ × ℕ)) → IsTrueTable bytes → has_terms bytes ≡ true → AreStated arities numbers
    → IfOk result (λ text. IsBlockText block numbers [] bytes (view text))
    → IfErr result (λ refused. (error : ReadError) × (refused ≡ by_terms error) × AreNoTerms numbers [] (drop 36 bytes) error)
    → IsOutcome (IsBlock block arities bytes) (IsBlockRefusal arities bytes) (seen view result)
outcome view (Ok text) block arities bytes numbers table has stated is why =
    record { table = table; is_block = has; numbers = numbers; stated = stated; is = is }
outcome view (Err refused) block arities bytes numbers table has stated is (error, same, why) = inr (inr (inr (record {
  table = table;
  numbers = numbers;
  stated = stated;
  error = error;
  is = same;
  why = why;
})))
