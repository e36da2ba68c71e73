-- What `check` prints.
use Rattle.std.specs.Prelude.{◌≡◌, ℕ, max, Bool, true, false, List, [], ◌++◌, Option, Some}
use Rattle.std.specs.Io.KnownBytes.{Appends}
use Rattle.acpi_json.specs.Array.{array}
use Rattle.acpitool_program.specs.Job.{checks}
use Rattle.acpitool_program.specs.Machine.{machine_text, line_status}
use Rattle.acpitool_program.specs.Outcome.{Outcome, AreTrueOutcomes, outputs, complaints, worst, kept_in, AreOfEach, AreOfWord}
use Rattle.acpitool_program.specs.Unread.{TellsUnreadBlocks}

-- Each file has its outcomes, which were printed in order. After them came the rules on several tables that the tables break that
-- were checked, and a line for each definition block among these tables whose terms can't be read. The status is the greatest.
pub record AreCheckedAs (json : Bool) (files : List (List ℕ)) (out out' err err' : Option (List ℕ)) (status : ℕ) : Type 0 where
  pub outcomes : List Outcome
  pub are : AreOfEach AreOfWord files outcomes
  pub hold : AreTrueOutcomes (checks json) outcomes
  pub wrote : Appends out out' (outputs outcomes ++ machine_text json (kept_in outcomes))
  pub err_then : Option (List ℕ)
  pub complained : Appends err err_then (complaints outcomes)
  pub unread : ℕ
  pub told : TellsUnreadBlocks (kept_in outcomes) err_then err' unread
  pub is : status ≡ max (max (worst outcomes) (line_status (machine_text json (kept_in outcomes)))) unread

-- what is printed are the objects of an array
pub record AreCheckedAsJson (files : List (List ℕ)) (out out' err err' : Option (List ℕ)) (status : ℕ) : Type 0 where
  pub lines : List ℕ
  pub checked : AreCheckedAs true files (Some []) (Some lines) err err' status
  pub wrote : Appends out out' (array lines)

-- what comes of files, as JSON or as lines
abbrev pub AreChecked : Bool → List (List ℕ)
    → Option (List ℕ) → Option (List ℕ) → Option (List ℕ) → Option (List ℕ) → ℕ → Type 0
AreChecked true files out out' err err' status = AreCheckedAsJson files out out' err err' status
AreChecked false files out out' err err' status = AreCheckedAs false files out out' err err' status
