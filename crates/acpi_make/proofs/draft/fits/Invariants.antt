use Rattle.std.proofs.Common.{◌≡◌}
use Rattle.acpi_make.specs.Fits.{fits}
use Rattle.acpi_make.proofs.draft.fits.Given as goal

abbrev pub invariant-bytes : goal.invariant-bytes
invariant-bytes l = fits l.left l.rest ≡ fits l.width l.number

abbrev pub decreases-bytes : goal.decreases-bytes
decreases-bytes l = l.left
