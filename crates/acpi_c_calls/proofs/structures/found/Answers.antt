use Rattle.std.proofs.Common.{◌≡◌, map, IfOk, rules}
use Rattle.acpi_base.specs.Table.{IsTrueTable}
use Rattle.acpi_base.specs.FurtherWalk.{AreStructuresOf}
use Rattle.acpi_read.specs.Pieces.{structure_kind_of, structure_offsets_of}
use Rattle.acpi_c_calls.specs.Structures.{structures}
use Rattle.acpi_c_calls.proofs.Found.{outcome, not_found}
use Rattle.acpi_c_calls.proofs.structures.found.Goals as goal

pub returns : goal.returns
returns c =
    let pieces = map (λ p. p.bytes.now) c.in_ok-pieces.pieces.items in
    let table : IsTrueTable c.args.bytes.now = search rules in
    let walk : AreStructuresOf c.args.bytes.now pieces = search rules in
    let ok : IfOk c.structures_of.result (λ found. found.items ≡ structures (structure_kind_of c.args.bytes.now) (structure_offsets_of c.args.bytes.now pieces) pieces) = search rules in
    outcome (λ found. found.items) c.structures_of.result c.args.bytes.now pieces table walk ok c.structures_of.ensures.err

pub returns-in_err-pieces : goal.returns-in_err-pieces
returns-in_err-pieces c =
    not_found (λ found. found.items) c.from_residual-in_err-pieces.result c.in_err-pieces.field-0.0 _ c.args.bytes.now c.in_ok-table.ensures.value (search rules) c.in_err-pieces.ensures.err c.from_residual-in_err-pieces.ensures.1
