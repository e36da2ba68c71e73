use Rattle.std.proofs.Common.{ℕ, List, map, refl, rules}
use Rattle.acpi_term.specs.declared.term.TermEntry.{TermEntry}
use Rattle.acpi_term.specs.Row.{entries_bytes}
use Rattle.acpi_term.specs.View.{entry_view}
use Rattle.acpi_read.proofs.Sizes.{sums_start, sums_on, sums_done}
use Rattle.acpi_read.proofs.report.size.entries_size.Goals as goal

abbrev each : List TermEntry → List ℕ
each entries = entries_bytes (map entry_view entries)

pub loop-entry-init : goal.loop-entry-init
loop-entry-init c = sums_start each _

pub loop-entry-preserved : goal.loop-entry-preserved
loop-entry-preserved c = sums_on each c.args.entries.now c.loop-entry.entry-index _ c.loop-entry.invariant _ _ _ _ c.loop-entry-test.true (search rules) refl c.entry_size.ensures c.sum-size.ensures

pub returns : goal.returns
returns c = sums_done each c.args.entries.now c.loop-entry.entry-index _ c.loop-entry.invariant refl c.loop-entry-test.false
