use Rattle.std.proofs.Common.{◌≡◌, ◌++◌, drop}
use Rattle.std.specs.List.{flat_map}
use Rattle.test_support.proofs.table.joined.Given as goal

abbrev pub invariant-loop-part : goal.invariant-loop-part
invariant-loop-part l = l.bytes.items ++ flat_map (λ part. part.now) (drop l.part-index l.parts) ≡ flat_map (λ part. part.now) l.parts
