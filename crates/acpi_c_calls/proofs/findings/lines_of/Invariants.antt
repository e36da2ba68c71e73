use Rattle.std.proofs.Common.{◌≡◌, ◌++◌, map, drop, string_bytes}
use Rattle.std.specs.List.{flat_map}
use Rattle.acpi_forms.specs.Kind.{title_of}
use Rattle.acpi_rules.specs.Finding.{noted}
use Rattle.acpi_c_calls.specs.Findings.{finding_line}
use Rattle.acpi_c_calls.proofs.findings.lines_of.Given as goal

abbrev pub invariant-findings : goal.invariant-findings
invariant-findings l =
    string_bytes l.text ++ flat_map (finding_line (title_of l.bytes)) (map noted (drop l.finding-index l.findings))
    ≡ flat_map (finding_line (title_of l.bytes)) (map noted l.findings)
