use Rattle.std.proofs.Common.{◌≡◌, ◌≤◌, drop}
use Rattle.acpitool_program.specs.Offsets.{name_size}
use Rattle.acpitool_program.proofs.offsets.name_size.Given as goal

abbrev pub invariant-bytes : goal.invariant-bytes
invariant-bytes l = record {
  count : l.count ≡ l.byte-index;
  within : l.size ≤ l.count;
  all : name_size l.count l.size (drop l.byte-index l.name) ≡ name_size 0 0 l.name;
}
