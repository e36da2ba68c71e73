-- Findings: a rule that a field of a table breaks, and where.
use Rattle.std.specs.Prelude.{ℕ, List}
use Rattle.acpi_rules.specs.declared.finding.Finding.{Finding as FindingData}
use Rattle.acpi_rules.specs.declared.finding.Rule.{Rule}

-- The rule, the section of the standard that has it, the field's offset in the table, its name and its bytes, and the numbers and
-- the other field of which the rule speaks.
pub record Finding : Type 0 where
  pub rule : Rule
  pub section : List ℕ
  pub offset : ℕ
  pub name : List ℕ
  pub bytes : List ℕ
  pub number : ℕ
  pub most : ℕ
  pub other : List ℕ

abbrev pub noted : FindingData → Finding
noted f = record {
  rule = f.rule;
  section = f.section.now;
  offset = f.offset;
  name = f.name.now;
  bytes = f.bytes.now;
  number = f.number;
  most = f.most;
  other = f.other.now;
}
