use Rattle.acpi_base.proofs.FurtherWalks.{structures_are_pieces, sources_are_pieces}
use Rattle.acpi_base.proofs.laws.structures_are_pieces.Goals as goal

pub returns-clause-others : goal.returns-clause-others
returns-clause-others c = structures_are_pieces

pub returns-clause-sources : goal.returns-clause-sources
returns-clause-sources c = sources_are_pieces
