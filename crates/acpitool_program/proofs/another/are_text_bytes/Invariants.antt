use Rattle.std.proofs.Common.{◌≡◌, drop}
use Rattle.acpitool_program.specs.Another.{are_text_bytes}
use Rattle.acpitool_program.proofs.another.are_text_bytes.Given as goal

abbrev pub invariant-bytes : goal.invariant-bytes
invariant-bytes l = are_text_bytes (drop l.byte-index l.bytes) ≡ are_text_bytes l.bytes
