use Rattle.acpi_example.proofs.Tables.{package_bytes}
use Rattle.acpi_example.proofs.table.contents.Goals as goal

pub returns : goal.returns
returns c = package_bytes c.new.result (rw c.in_ok-vec.ensures.items at c.new.ensures)
