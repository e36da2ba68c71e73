use Rattle.std.proofs.Common.{take, map, string_bytes}
use Rattle.std.specs.Io.KnownBytes.{Keeps}
use Rattle.acpitool_program.specs.Laying.{AreFiles}
use Rattle.acpitool_program.proofs.laying.read_files.Given as goal

abbrev pub invariant-paths : goal.invariant-paths
invariant-paths g l = record {
  are : AreFiles (map (λ path. string_bytes path) (take l.path-index l.paths)) (map (λ file. file.items) l.files.items);
  kept : Keeps (g.E.Write.contents l.initial.err) (g.E.Write.contents l.err);
}
