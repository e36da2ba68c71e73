use Rattle.std.proofs.Common.{List, ℕ, Bor}
use Rattle.acpi_layout.proofs.FromFiles.{files_next}
use Rattle.acpi_layout.proofs.files.place_files.Goals as goal

pub tables-preserved : goal.tables-preserved
tables-preserved c =
    files_next (λ (table : Bor (List ℕ)). table.now) c.args.tables.now c.tables.table-index _ _ _ _ c.tables-test.true c.tables.invariant c.in_ok-place_file.ensures.ok
