use Rattle.std.proofs.Common.{subst, sym, arith}
use Rattle.std.specs.Str.{IsUtf8}
use Rattle.acpi_base.proofs.Bytes.{bytes_each}
use Rattle.acpi_text.proofs.Digits.{spaced_utf8}
use Rattle.acpi_text.proofs.hex.push_digits.Goals as goal

pub from_utf8_unchecked-requires : goal.from_utf8_unchecked-requires
from_utf8_unchecked-requires c =
    subst IsUtf8 (sym c.requires) (spaced_utf8 c.args.bytes.now (bytes_each c.args.bytes.now (λ i. let h = c.type_inv.bytes i in omega arith)))
