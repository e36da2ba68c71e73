use Rattle.std.proofs.Common.{◌≡◌, drop, fold, length}
use Rattle.acpi_base.specs.Bytes.{put}
use Rattle.test_support.proofs.table.with_parts.Given as goal

abbrev pub invariant-loop-at : goal.invariant-loop-at
invariant-loop-at l = record {
  size : length l.bytes.items ≡ length l.before;
  so_far : fold (λ bytes row. put row.0 row.1.now bytes) l.bytes.items (drop l.at-index l.parts)
      ≡ fold (λ bytes row. put row.0 row.1.now bytes) l.before l.parts;
}
