use Rattle.acpi_loader.proofs.Joined.{last_command}
use Rattle.acpi_loader.specs.Places.{entry_commands}
use Rattle.std.proofs.Common.{◌+◌}
use Rattle.acpi_loader.proofs.script.push_xsdt.Goals as goal

pub returns : goal.returns
returns c = last_command (entry_commands (c.args.xsdt + 36) c.args.count) _ _ _ _ c.in_ok-push_entries.ensures c.in_ok-push_command.ensures
