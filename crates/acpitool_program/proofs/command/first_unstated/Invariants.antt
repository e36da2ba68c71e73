use Rattle.std.proofs.Common.{◌≡◌, drop, map, string_bytes}
use Rattle.acpitool_program.specs.Command.{first_unstated}
use Rattle.acpitool_program.proofs.command.first_unstated.Given as goal

abbrev pub invariant-words : goal.invariant-words
invariant-words l =
    first_unstated (map (λ word. string_bytes word) (drop l.word-index l.words)) ≡ first_unstated (map (λ word. string_bytes word) l.words)
