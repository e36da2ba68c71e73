use Rattle.std.proofs.Common.{◌≡◌, take, map}
use Rattle.acpitool_program.proofs.machine.bytes_of.Given as goal

abbrev pub invariant-tables : goal.invariant-tables
invariant-tables l = map (λ table. table.now) l.all.items ≡ map (λ table. table.bytes.items) (take l.table-index l.kept)
