use Rattle.std.proofs.Common.{◌≡◌, ◌+◌, drop}
use Rattle.acpitool_program.specs.Offsets.{front_size}
use Rattle.acpitool_program.proofs.offsets.front_size.Given as goal

abbrev pub invariant-bytes : goal.invariant-bytes
invariant-bytes l = record {
  count : l.count ≡ l.byte-index;
  all : l.count + front_size l.kind (drop l.byte-index l.line) ≡ front_size l.kind l.line;
}
