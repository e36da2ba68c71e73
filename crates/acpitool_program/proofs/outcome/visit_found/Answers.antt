use Rattle.std.proofs.Common.{List, ℕ, sym}
use Rattle.std.proofs.lemmas.List.{map_more}
use Rattle.acpi_layout.specs.Addresses.{image_at}
use Rattle.acpi_layout.specs.declared.located.Located.{Located}
use Rattle.acpitool_program.specs.Outcome.{in_image}
use Rattle.acpitool_program.proofs.Outcomes.{no_tables, tables_then, same_tables}
use Rattle.acpitool_program.proofs.outcome.visit_found.Goals as goal

pub tables-init : goal.tables-init
tables-init g c = no_tables _ _ _ _

pub tables-preserved : goal.tables-preserved
tables-preserved g c =
    let of : Located → List ℕ × List ℕ = in_image c.args.image.now.file.now (image_at c.args.image.now.base c.args.bytes.now) in
    let tables = c.args.tables.now in
    let at = c.tables.table-index in
    same_tables (sym (map_more of tables at _ c.tables-test.true)) c.worst_of-worst.ensures
    (tables_then c.tables.invariant c.in_ok-status.ensures)
