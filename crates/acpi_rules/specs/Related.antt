-- Findings on several fields of a table.
use Rattle.std.specs.Prelude.{ℕ, List, [], ◌∷◌}
use Rattle.acpi_rules.specs.Field.{Field}
use Rattle.acpi_rules.specs.Finding.{Finding}
use Rattle.acpi_rules.specs.declared.finding.Rule.{Rule}
use Rattle.acpi_rules.specs.declared.finding.Rule.TheVariants.{Unique}

-- The field breaks a rule of a section. The rule speaks of these numbers, and of another field.
abbrev pub relates : Rule → List ℕ → ℕ → ℕ → List ℕ → Field → List Finding
relates rule section number most other field = record {
  rule = rule;
  section = section;
  offset = field.offset;
  name = field.name;
  bytes = field.bytes;
  number = number;
  most = most;
  other = other;
} ∷ []

-- The field has the same bytes as that of a part before it, which is at an offset.
abbrev pub unique_findings : List ℕ → ℕ → Field → List Finding
unique_findings section at field = relates Unique section at 0 [] field
