use Rattle.std.proofs.Common.{◌≡◌, [], ◌++◌, drop}
use Rattle.acpitool_program.specs.Offsets.{without_offsets}
use Rattle.acpitool_program.proofs.offsets.without_offsets.Given as goal

abbrev pub invariant-bytes : goal.invariant-bytes
invariant-bytes l =
    l.bare.items ++ without_offsets l.line.items (drop l.byte-index l.text) ≡ without_offsets [] l.text
