use Rattle.std.proofs.Common.{List, ℕ, String, Global, string_bytes}
use Rattle.acpi_cpio.specs.Archive.{named}
use Rattle.acpitool_program.proofs.Archives.{file_then, refused_here}
use Rattle.acpitool_program.proofs.archiving.read_tables.Goals as goal

pub returns-in-Err : goal.returns-in-Err
returns-in-Err g c =
    let text : String Global → List ℕ = λ path. string_bytes path in
    refused_here text named c.args.paths.now c.paths.path-index c.path-item.result c.paths-test.true c.path-item.is c.paths.tables.items _ _ _ _
    c.paths.invariant (rw (c.in-Err.is, c.as_str.ensures.value) at c.in_ok-table.ensures)

pub paths-preserved : goal.paths-preserved
paths-preserved g c =
    let text : String Global → List ℕ = λ path. string_bytes path in
    file_then text named c.args.paths.now c.paths.path-index c.path-item.result c.paths-test.true c.path-item.is c.paths.tables.items _
    c.in-Ok.table _ _ _ c.in_ok-push_table-in-Ok.ensures c.paths.invariant (rw (c.in-Ok.is, c.as_str.ensures.value) at c.in_ok-table.ensures)
