use Rattle.std.proofs.Common.{subst, sym, arith}
use Rattle.std.specs.Str.{IsUtf8}
use Rattle.acpi_text.proofs.Offsets.{front_utf8}
use Rattle.acpi_text.proofs.offset.push_front.Goals as goal

pub from_utf8_unchecked-requires : goal.from_utf8_unchecked-requires
from_utf8_unchecked-requires c = subst IsUtf8 (sym c.requires) (front_utf8 c.args.n (omega arith))
