use Rattle.std.proofs.Common.{◌≡◌, drop}
use Rattle.acpi_make.specs.Draft.{nothing_yet, all_taken, drafted}
use Rattle.acpi_make.specs.Source.{source_of}
use Rattle.acpi_make.proofs.draft.draft_of.Given as goal

abbrev pub invariant-items : goal.invariant-items
invariant-items l = all_taken (source_of l.source) (drop l.item-index l.items) (drafted l.draft) ≡ all_taken (source_of l.source) l.items nothing_yet
