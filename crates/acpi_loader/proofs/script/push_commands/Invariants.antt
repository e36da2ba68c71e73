use Rattle.std.proofs.Common.{◌≡◌, ◌++◌, drop}
use Rattle.acpi_loader.specs.Command.{script_of}
use Rattle.acpi_loader.proofs.script.push_commands.Given as goal

abbrev pub invariant-commands : goal.invariant-commands
invariant-commands l =
    l.script.items ++ script_of (drop l.command-index l.commands) ≡ l.initial.script.items ++ script_of l.commands
