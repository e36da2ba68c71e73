use Rattle.std.proofs.Common.{◌≡◌, ◌&&◌, drop}
use Rattle.acpi_text.specs.Label.{is_label}
use Rattle.acpi_text.proofs.space.is_label.Given as goal

abbrev pub invariant-bytes : goal.invariant-bytes
invariant-bytes l = (l.fits && is_label (drop l.byte-index l.name)) ≡ is_label l.name
