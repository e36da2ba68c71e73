use Rattle.std.proofs.Common.{◌≡◌, map, drop, string_bytes}
use Rattle.acpitool_program.specs.Replaced.{is_path_among}
use Rattle.acpitool_program.proofs.files.is_among.Given as goal

abbrev pub invariant-paths : goal.invariant-paths
invariant-paths g l =
    is_path_among l.word (map (λ path. string_bytes path) (drop l.path-index l.paths)) ≡ is_path_among l.word (map (λ path. string_bytes path) l.paths)
