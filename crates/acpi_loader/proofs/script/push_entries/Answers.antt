use Rattle.acpi_loader.proofs.Joined.{entry_then, entries_all}
use Rattle.acpi_loader.proofs.script.push_entries.Goals as goal

pub entries-preserved : goal.entries-preserved
entries-preserved c =
    entry_then c.args.offset c.args.count c.entries.i _ _ _ c.entries-test.true c.entries.invariant c.in_ok-push_command.ensures
