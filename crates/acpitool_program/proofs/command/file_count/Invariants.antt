use Rattle.std.proofs.Common.{◌≡◌, ◌+◌, drop, map, string_bytes}
use Rattle.acpitool_program.specs.Command.{file_count}
use Rattle.acpitool_program.proofs.command.file_count.Given as goal

abbrev pub invariant-words : goal.invariant-words
invariant-words l =
    (l.count ≡ l.word-index)
    × (l.count + file_count (map (λ word. string_bytes word) (drop l.word-index l.words)) ≡ file_count (map (λ word. string_bytes word) l.words))
