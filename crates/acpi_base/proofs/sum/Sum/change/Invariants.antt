use Rattle.std.proofs.Common.{◌≡◌, ◌+◌, ◌%◌, true, false, take}
use Rattle.std.specs.Prelude.{sum}
use Rattle.acpi_base.proofs.sum.Sum.change.Given as goal

abbrev pub invariant-loop-byte : goal.invariant-loop-byte
invariant-loop-byte l = record {
  added : l.takes ≡ false → (l.checksum + sum (take l.byte-index l.bytes)) % 256 ≡ l.initial.checksum;
  taken : l.takes ≡ true → l.checksum ≡ (l.initial.checksum + sum (take l.byte-index l.bytes)) % 256;
  counted : l.self-inside.summed.count ≡ l.initial.self-inside.summed.count + l.byte-index;
}
