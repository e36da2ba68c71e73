use Rattle.std.proofs.Common.{inl, rules}
use Rattle.acpitool_program.proofs.disassembly.print_terms.Goals as goal

pub returns-in_ok-write_all-in-Ok : goal.returns-in_ok-write_all-in-Ok
returns-in_ok-write_all-in-Ok g c = inl (search rules)
