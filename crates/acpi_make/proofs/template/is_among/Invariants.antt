use Rattle.std.proofs.Common.{◌≡◌, drop}
use Rattle.acpi_make.specs.Template.{is_among}
use Rattle.acpi_make.proofs.template.is_among.Given as goal

abbrev pub invariant-others : goal.invariant-others
invariant-others l = is_among l.number (drop l.other-index l.others) ≡ is_among l.number l.others
