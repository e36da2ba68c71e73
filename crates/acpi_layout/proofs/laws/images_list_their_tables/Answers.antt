use Rattle.acpi_layout.proofs.Listed.{list_their_tables, list_once}
use Rattle.acpi_layout.proofs.laws.images_list_their_tables.Goals as goal

pub returns-clause-listed : goal.returns-clause-listed
returns-clause-listed c = list_their_tables

pub returns-clause-once : goal.returns-clause-once
returns-clause-once c = list_once
