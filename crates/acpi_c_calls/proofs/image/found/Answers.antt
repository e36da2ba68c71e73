use Rattle.std.proofs.Common.{rules}
use Rattle.acpi_layout.specs.Addresses.{memory_of}
use Rattle.acpi_layout.specs.Found.{HasTables}
use Rattle.acpi_c_calls.proofs.Located.{outcome}
use Rattle.acpi_c_calls.proofs.image.found.Goals as goal

pub returns-in-Ok : goal.returns-in-Ok
returns-in-Ok c =
    let has : HasTables (memory_of c.args.ranges.now) c.args.rsdp c.in-Ok.tables.items = search rules in
    outcome (λ found. found.items) c.image_tables_of.result (memory_of c.args.ranges.now) c.args.rsdp c.in-Ok.tables.items has
    (rw c.deref.ensures.value at c.image_tables_of.ensures.ok) c.image_tables_of.ensures.err
