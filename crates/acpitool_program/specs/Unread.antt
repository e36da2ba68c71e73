-- Definition blocks among tables that are checked, whose terms can't be read.
use Rattle.std.specs.Prelude.{◌≡◌, ◌≢◌, ℕ, Bool, true, false, List, [], ◌∷◌, ◌++◌, Option, Some, None, drop}
use Rattle.std.specs.Io.KnownBytes.{Appends}
use Rattle.acpi_asl.specs.Block.{has_terms}
use Rattle.acpi_term.specs.Tree.{Terms}
use Rattle.acpi_term.specs.declared.read_error.ReadError.{ReadError}
use Rattle.acpi_term.specs.declared.read_error.ReadError.TheVariants.{Memory}
use Rattle.acpi_terms_text.specs.Block.{AreBlockTerms, AreNoTerms}
use Rattle.acpi_terms_text.specs.Objects.{Callee}
use Rattle.acpitool_program.specs.Fault.{IsFaultAfter}
use Rattle.acpitool_program.specs.Machine.{line_status}
use Rattle.acpitool_program.specs.Outcome.{fault_line}
use Rattle.acpitool_program.specs.Shown.{AreFurther}
use Rattle.acpitool_program.specs.declared.fault.Fault.{Fault}

-- the terms of a definition block can't be read, and the fault says why
pub record AreUnreadFor (stated : List (List ℕ × ℕ)) (further : List Callee) (bytes : List ℕ) (fault : Fault) : Type 0 where
  pub error : ReadError
  pub no_memory : error ≢ Memory
  pub no_terms : AreNoTerms stated further (drop 36 bytes) error
  pub says : IsFaultAfter 36 error fault

-- a definition block whose terms are read, one whose terms aren't, or any other table
abbrev pub IsTermsFaultBy : Bool → List (List ℕ × ℕ) → List Callee → List ℕ → Option Fault → Type 0
IsTermsFaultBy true stated further bytes None = (terms : Terms) × AreBlockTerms stated further (drop 36 bytes) terms
IsTermsFaultBy true stated further bytes (Some fault) = AreUnreadFor stated further bytes fault
IsTermsFaultBy false stated further bytes fault = fault ≡ None

-- why the terms of a table can't be read, if they can't
abbrev pub IsTermsFault : List (List ℕ × ℕ) → List Callee → List ℕ → Option Fault → Type 0
IsTermsFault stated further bytes fault = IsTermsFaultBy (has_terms bytes) stated further bytes fault

-- these are the lines of the tables whose terms can't be read, in order
abbrev pub AreUnreadLines : List (List ℕ × ℕ) → List Callee → List (List ℕ × List ℕ) → List ℕ → Type 0
AreUnreadLines stated further [] lines = lines ≡ []
AreUnreadLines stated further (table ∷ tables) lines =
    (fault : Option Fault) × (more : List ℕ) × IsTermsFault stated further table.1 fault
    × (lines ≡ fault_line table.0 fault ++ more) × AreUnreadLines stated further tables more

-- they were printed, and the status says whether there are any
pub record TellsUnread (stated : List (List ℕ × ℕ)) (further : List Callee) (tables : List (List ℕ × List ℕ))
    (err err' : Option (List ℕ)) (status : ℕ) : Type 0 where
  pub lines : List ℕ
  pub are : AreUnreadLines stated further tables lines
  pub wrote : Appends err err' lines
  pub is : status ≡ line_status lines

-- No numbers of arguments are stated: names take those of the objects of the block, and of all blocks of one machine.
pub record TellsUnreadBlocks (tables : List (List ℕ × List ℕ)) (err err' : Option (List ℕ)) (status : ℕ) : Type 0 where
  pub further : List Callee
  pub are : AreFurther [] tables further
  pub told : TellsUnread [] further tables err err' status
