use Rattle.std.proofs.Common.{◌≡◌, ◌++◌, drop, map}
use Rattle.acpi_read.specs.Pieces.{structure_kind_of}
use Rattle.acpi_c_calls.specs.Structures.{structures}
use Rattle.acpi_c_calls.proofs.structures.structures_of.Given as goal

abbrev pub invariant-pieces : goal.invariant-pieces
invariant-pieces l =
    l.found.items ++ structures (structure_kind_of l.table) (map (λ p. p.offset) (drop l.piece-index l.pieces)) (map (λ p. p.bytes.now) (drop l.piece-index l.pieces))
    ≡ structures (structure_kind_of l.table) (map (λ p. p.offset) l.pieces) (map (λ p. p.bytes.now) l.pieces)
