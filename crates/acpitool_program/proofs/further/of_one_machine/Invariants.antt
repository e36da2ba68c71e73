use Rattle.std.proofs.Common.{◌≡◌, false, drop, map}
use Rattle.acpitool_program.specs.Machine.{kept_by}
use Rattle.acpitool_program.specs.Shown.{one_dsdt}
use Rattle.acpitool_program.proofs.further.of_one_machine.Given as goal

abbrev pub invariant-tables : goal.invariant-tables
invariant-tables l = one_dsdt l.seen (map kept_by (drop l.table-index l.tables)) ≡ one_dsdt false (map kept_by l.tables)
