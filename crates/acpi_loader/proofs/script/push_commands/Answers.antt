use Rattle.acpi_loader.proofs.Joined.{command_then}
use Rattle.acpi_loader.proofs.script.push_commands.Goals as goal

pub commands-preserved : goal.commands-preserved
commands-preserved c =
    command_then c.args.commands.now c.commands.command-index _ c.commands-test.true _ _ _ c.commands.invariant c.in_ok-push_command.ensures
