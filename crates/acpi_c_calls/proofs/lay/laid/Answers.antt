use Rattle.std.proofs.Common.{map, refl, rules}
use Rattle.acpi_layout.specs.Files.{IsLaid}
use Rattle.acpi_c_calls.specs.Lay.{AreTables}
use Rattle.acpi_c_calls.proofs.lay.laid.Goals as goal

pub returns-in-Ok-clause-ok : goal.returns-in-Ok-clause-ok
returns-in-Ok-clause-ok c =
    let tables = map (λ table. table.items) c.in_ok-tables.tables.items in
    let are : AreTables c.args.bytes.now tables = search rules in
    let is_laid : IsLaid c.args.base tables c.in-Ok.image = search rules in
    record { tables = tables; are = are; image = c.in-Ok.image; is_laid = is_laid; all = refl; pointer = refl }
