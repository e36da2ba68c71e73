-- What is printed of a table that is checked.
use Rattle.std.specs.Prelude.{◌≡◌, ℕ, Bool, true, false, List, [], ◌∷◌, ◌++◌, map, codes}
use Rattle.std.specs.List.{flat_map}
use Rattle.acpi_forms.specs.File.{file_names, file_walk}
use Rattle.acpi_forms.specs.Kind.{kind_of, title_of}
use Rattle.acpi_forms.specs.Named.{IsNamed}
use Rattle.acpi_read.specs.Report.{printable}
use Rattle.acpi_rules.specs.Finding.{Finding}
use Rattle.acpi_rules.specs.Line.{finding_text}
use Rattle.acpi_rules.specs.Standard.{table_findings}
use Rattle.acpi_text.specs.declared.form.TableForm.{TableForm}
use Rattle.acpi_json.specs.Finding.{finding as object}
use Rattle.acpitool_program.specs.Text.{IsKind}

-- the findings of bytes by their form
pub record AreByForm (bytes : List ℕ) (findings : List Finding) : Type 0 where
  pub form : TableForm
  pub is_named : IsNamed form (file_names bytes)
  pub are : findings ≡ table_findings form (file_walk bytes) bytes

-- bytes are what their signature says, and these are the rules that they break
pub record AreFindings (bytes : List ℕ) (findings : List Finding) : Type 0 where
  pub kind : IsKind (kind_of bytes) bytes
  pub are : AreByForm bytes findings

-- the line of a finding: the name of the file, and the signature, in which a question mark stands for what doesn't print
abbrev pub finding_line : List ℕ → List ℕ → Finding → List ℕ
finding_line name signature finding =
    name ++ codes ": " ++ map printable signature ++ codes ": " ++ finding_text signature finding ++ 10 ∷ []

-- the lines of the findings of bytes
abbrev pub finding_lines : List ℕ → List ℕ → List Finding → List ℕ
finding_lines name bytes findings = flat_map (finding_line name (title_of bytes)) findings

-- the object of a finding, in a line
unfoldable pub object_line : List ℕ → List ℕ → Finding → List ℕ
object_line name signature finding = object name signature finding ++ 10 ∷ []

-- the objects of the findings of bytes
abbrev pub finding_objects : List ℕ → List ℕ → List Finding → List ℕ
finding_objects name bytes findings = flat_map (object_line name (title_of bytes)) findings

-- what is printed of findings: objects, or lines
abbrev pub printed_findings : Bool → List ℕ → List ℕ → List Finding → List ℕ
printed_findings true name bytes findings = finding_objects name bytes findings
printed_findings false name bytes findings = finding_lines name bytes findings

-- 0 if there are no findings, and 1 otherwise
abbrev pub finding_status : List Finding → ℕ
finding_status [] = 0
finding_status (finding ∷ findings) = 1
