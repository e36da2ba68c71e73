-- The rules of the standard that bytes break, as lines.
use Rattle.std.specs.Prelude.{◌≡◌, ℕ, List, [], ◌∷◌, ◌++◌, map, codes}
use Rattle.std.specs.List.{flat_map}
use Rattle.acpi_forms.specs.Kind.{kind_of, title_of}
use Rattle.acpi_forms.specs.File.{file_names, file_walk}
use Rattle.acpi_forms.specs.Named.{IsNamed}
use Rattle.acpi_read.specs.Report.{printable}
use Rattle.acpi_rules.specs.Finding.{Finding}
use Rattle.acpi_rules.specs.Line.{finding_text}
use Rattle.acpi_rules.specs.Standard.{table_findings}
use Rattle.acpi_text.specs.declared.form.TableForm.{TableForm}
use Rattle.acpi_c_calls.specs.Show.{IsShowable}

-- the line of a finding: the signature, in which a question mark stands for what doesn't print, and the text of the finding
abbrev pub finding_line : List ℕ → Finding → List ℕ
finding_line signature finding = map printable signature ++ codes ": " ++ finding_text signature finding ++ 10 ∷ []

-- the lines of the findings of bytes
abbrev pub finding_lines : List ℕ → List Finding → List ℕ
finding_lines bytes findings = flat_map (finding_line (title_of bytes)) findings

-- the lines of the rules that bytes break by their form
pub record AreLinesOf (bytes text : List ℕ) : Type 0 where
  pub form : TableForm
  pub is_named : IsNamed form (file_names bytes)
  pub are : text ≡ finding_lines bytes (table_findings form (file_walk bytes) bytes)

-- A table is right, and these lines are the rules that it breaks. Nothing else is said of bytes without a standard header.
pub record AreFindings (bytes text : List ℕ) : Type 0 where
  pub showable : IsShowable (kind_of bytes) bytes
  pub are : AreLinesOf bytes text
