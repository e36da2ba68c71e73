-- Packages with room for more elements than they have (ACPI 6.5, 20.2.5.4).
use Rattle.std.specs.Prelude.{ℕ, ◌==◌, if◌then◌else◌, List, length}
use Rattle.acpi_base.specs.Object.{Object}
use Rattle.acpi_term.specs.Tree.{def_package, def_roomy_package}
use Rattle.acpi_term.specs.Row.{row}

-- a package whose NumElements is the room: with as many elements it is a package without room for more
abbrev pub roomy_package : ℕ → List Object → Object
roomy_package room objects =
    if length objects == room then row def_package objects else row (def_roomy_package room) objects
