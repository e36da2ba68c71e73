use Rattle.std.specs.Prelude.{string_bytes, codes}
use Rattle.std.specs.Fmt.{decimal}
use Rattle.acpi_read.proofs.Texts.{after_three}
use Rattle.acpi_asl.proofs.unread.push_place.Goals as goal

pub returns : goal.returns
returns c = after_three (string_bytes c.args.text.now) (codes "/*= not read, at ") (decimal c.args.place) (codes ": ") _ _ _ c.in_ok-push_str.ensures.bytes c.in_ok-push_decimal.ensures c.in_ok-push_str-2.ensures.bytes
