use Rattle.acpi_example.proofs.Tables.{written}
use Rattle.acpi_example.proofs.table.package_block.Goals as goal
use Rattle.acpi_example.proofs.table.package_block.OwnLists

pub returns : goal.returns
returns c = written _ _ _ _ _ _ c.in_ok-append_object.ensures.ok (OwnLists.reads-object-1-1 _) c.in_ok-contents.ensures c.in_ok-table.ensures
