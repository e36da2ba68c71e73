use Rattle.std.proofs.Common.{◌≡◌, drop, map, string_bytes}
use Rattle.acpitool_program.specs.Command.{forces}
use Rattle.acpitool_program.proofs.command.forces.Given as goal

abbrev pub invariant-loop-word : goal.invariant-loop-word
invariant-loop-word l =
    forces (map (λ word. string_bytes word) (drop l.word-index l.words)) ≡ forces (map (λ word. string_bytes word) l.words)
