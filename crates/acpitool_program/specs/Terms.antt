-- The terms of a definition block, in comments after its text.
use Rattle.std.specs.Prelude.{◌≡◌, ◌≢◌, ◌⊎◌, ℕ, Bool, true, false, List, [], ◌++◌, drop}
use Rattle.std.specs.Prelude.{Option, Some, None, codes}
use Rattle.std.specs.Fmt.{decimal}
use Rattle.acpi_asl.specs.Block.{has_terms}
use Rattle.acpi_terms_text.specs.Block.{AreNoTerms}
use Rattle.acpi_term.specs.declared.read_error.ReadError.{ReadError}
use Rattle.acpi_term.specs.declared.read_error.ReadError.TheVariants.{Memory}
use Rattle.acpi_terms_text.specs.Comment.{IsAnnotated}
use Rattle.acpi_terms_text.specs.Objects.{AreOwn}
use Rattle.acpi_text.specs.Comment.{comment}
use Rattle.acpitool_program.specs.Fault.{IsFaultAfter}
use Rattle.acpitool_program.specs.declared.fault.Fault.{Fault}

-- The text is the report of these terms with comments. Names take the stated numbers of arguments, or else those of the block's
-- own methods.
pub record IsReport (stated : List (List ℕ × ℕ)) (terms text : List ℕ) : Type 0 where
  pub own : List (List ℕ × ℕ)
  pub methods : AreOwn stated [] terms own
  pub annotated : IsAnnotated own terms text

-- the lines of a report
abbrev pub report_lines : List ℕ → List ℕ
report_lines report =
    comment (codes "Calls take the stated numbers of arguments, or else those that this table states.") ++ comment report

-- the line of an error, with its offset if it has one
abbrev pub unread_line : Option ℕ → List ℕ → List ℕ
unread_line (Some offset) words = codes "terms can't be read" ++ (codes " at " ++ decimal offset) ++ codes ": " ++ words
unread_line None words = codes "terms can't be read: " ++ words

abbrev pub error_line : Fault → List ℕ
error_line fault = comment (unread_line fault.place fault.words.now)

-- the text of a definition block is followed by the lines of its report
pub record HasReport (stated : List (List ℕ × ℕ)) (bytes after : List ℕ) : Type 0 where
  pub text : List ℕ
  pub report : IsReport stated (drop 36 bytes) text
  pub is : after ≡ report_lines text

-- or by the line of an error
pub record HasError (stated : List (List ℕ × ℕ)) (bytes after : List ℕ) : Type 0 where
  pub error : ReadError
  pub no_memory : error ≢ Memory
  pub no_report : AreNoTerms stated [] (drop 36 bytes) error
  pub fault : Fault
  pub says : IsFaultAfter 36 error fault
  pub is : after ≡ error_line fault

abbrev pub IsAfterBy : Bool → List (List ℕ × ℕ) → List ℕ → List ℕ → Type 0
IsAfterBy true stated bytes after = HasReport stated bytes after ⊎ HasError stated bytes after
IsAfterBy false stated bytes after = after ≡ []

-- what follows the text of a table
abbrev pub IsAfter : List (List ℕ × ℕ) → List ℕ → List ℕ → Type 0
IsAfter stated bytes after = IsAfterBy (has_terms bytes) stated bytes after
