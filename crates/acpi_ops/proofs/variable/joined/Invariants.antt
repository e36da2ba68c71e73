use Rattle.std.proofs.Common.{◌≡◌, ◌++◌, drop}
use Rattle.std.specs.List.{flat_map}
use Rattle.acpi_ops.proofs.variable.joined.Given as goal

abbrev pub invariant-parts : goal.invariant-parts
invariant-parts l = l.bytes.items ++ flat_map (λ part. part.now) (drop l.part-index l.parts) ≡ flat_map (λ part. part.now) l.parts
