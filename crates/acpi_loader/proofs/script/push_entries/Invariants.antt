use Rattle.std.proofs.Common.{◌≡◌, ◌+◌, ◌-◌, ◌*◌, ◌++◌}
use Rattle.acpi_loader.specs.Command.{script_of}
use Rattle.acpi_loader.specs.Places.{entry_commands}
use Rattle.acpi_loader.proofs.script.push_entries.Given as goal

abbrev pub invariant-entries : goal.invariant-entries
invariant-entries l =
    l.script.items ++ script_of (entry_commands (l.offset + 8 * l.i) (l.count - l.i))
    ≡ l.initial.script.items ++ script_of (entry_commands l.offset l.count)
