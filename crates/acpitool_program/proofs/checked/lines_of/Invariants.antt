use Rattle.std.proofs.Common.{◌≡◌, ◌++◌, map, drop, string_bytes}
use Rattle.std.specs.List.{flat_map}
use Rattle.acpi_forms.specs.Kind.{title_of}
use Rattle.acpi_rules.specs.Finding.{noted}
use Rattle.acpitool_program.specs.Checked.{finding_line}
use Rattle.acpitool_program.proofs.checked.lines_of.Given as goal

abbrev pub invariant-findings : goal.invariant-findings
invariant-findings l =
    string_bytes l.text ++ flat_map (finding_line l.name (title_of l.bytes)) (map noted (drop l.finding-index l.findings))
    ≡ flat_map (finding_line l.name (title_of l.bytes)) (map noted l.findings)
