-- What follows the text of a definition block.
use Rattle.std.proofs.Common.{◌≡◌, ◌≢◌, ◌⊎◌, ℕ, List, [], drop, Result, Ok, Err, IfOk, String, Global, string_bytes, inl, inr}
use Rattle.acpi_term.specs.declared.read_error.ReadError.{ReadError}
use Rattle.acpi_term.specs.declared.read_error.ReadError.TheVariants.{Memory}
use Rattle.acpitool_program.specs.Fault.{IsFaultAfter}
use Rattle.acpitool_program.specs.declared.fault.Fault.{Fault}
use Rattle.acpi_terms_text.specs.Block.{AreNoTerms}
use Rattle.acpitool_program.specs.Terms.{report_lines, error_line, IsReport, HasReport, HasError}

pub report_follows : {E : Type 0} (stated : List (List ℕ × ℕ)) (bytes text : List ℕ) → IsReport stated (drop 36 bytes) text
    → (r : Result (String Global) E) → IfOk r (λ lines. string_bytes lines ≡ report_lines text)
    → IfOk r (λ after. HasReport stated bytes (string_bytes after) ⊎ HasError stated bytes (string_bytes after))
report_follows stated bytes text report (Err e) is = tt
report_follows stated bytes text report (Ok lines) is = inl (record { text = text; report = report; is = is })

pub error_follows : {E : Type 0} (stated : List (List ℕ × ℕ)) (bytes : List ℕ) (error : ReadError) (fault : Fault) → error ≢ Memory
    → AreNoTerms stated [] (drop 36 bytes) error → IsFaultAfter 36 error fault
    → (r : Result (String Global) E) → IfOk r (λ line. string_bytes line ≡ error_line fault)
    → IfOk r (λ after. HasReport stated bytes (string_bytes after) ⊎ HasError stated bytes (string_bytes after))
error_follows stated bytes error fault not none says (Err e) is = tt
error_follows stated bytes error fault not none says (Ok line) is =
    inr (record { error = error; no_memory = not; no_report = none; fault = fault; says = says; is = is })
