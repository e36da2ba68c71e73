use Rattle.std.proofs.Common.{◌≡◌, ◌++◌, length, drop}
use Rattle.acpi_compile.specs.Alike.{parts_from}
use Rattle.acpi_compile.specs.declared.alike.Part.TheVariants.{Mark}
use Rattle.acpi_compile.proofs.alike.parts.Given as goal

abbrev pub invariant-characters : goal.invariant-characters
invariant-characters l = record {
  parts : l.parts.items ++ parts_from l.part (drop l.c-index l.kept) ≡ parts_from Mark l.kept;
  len : length l.parts.items ≡ l.c-index;
}
