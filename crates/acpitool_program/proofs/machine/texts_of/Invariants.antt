use Rattle.std.proofs.Common.{◌≡◌, ◌++◌, map, drop}
use Rattle.std.specs.List.{flat_map}
use Rattle.acpitool_program.specs.Machine.{kept_by, printed_across}
use Rattle.acpitool_program.proofs.machine.texts_of.Given as goal

abbrev pub invariant-tables : goal.invariant-tables
invariant-tables l =
    l.text.items ++ flat_map (printed_across l.json (map (λ table. table.now) l.all)) (map kept_by (drop l.table-index l.kept))
    ≡ flat_map (printed_across l.json (map (λ table. table.now) l.all)) (map kept_by l.kept)
