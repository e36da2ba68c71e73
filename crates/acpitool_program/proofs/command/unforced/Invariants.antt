use Rattle.std.proofs.Common.{◌≡◌, drop, map, string_bytes}
use Rattle.std.specs.List.{slice_get}
use Rattle.acpitool_program.specs.Command.{unforced}
use Rattle.acpitool_program.proofs.command.unforced.Given as goal

abbrev pub invariant-loop-word : goal.invariant-loop-word
invariant-loop-word l =
    slice_get (unforced (map (λ word. string_bytes word) (drop l.word-index l.words))) l.left
    ≡ slice_get (unforced (map (λ word. string_bytes word) l.words)) l.index
