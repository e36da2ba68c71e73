use Rattle.std.proofs.Common.{◌≡◌, drop, map, string_bytes}
use Rattle.acpitool_program.specs.Command.{option_in}
use Rattle.acpitool_program.proofs.command.option_in.Given as goal

abbrev pub invariant-loop-word : goal.invariant-loop-word
invariant-loop-word l =
    option_in l.verb (map (λ word. string_bytes word) (drop l.word-index l.words))
    ≡ option_in l.verb (map (λ word. string_bytes word) l.words)
