use Rattle.std.proofs.Common.{List, ℕ, String, Global, string_bytes}
use Rattle.acpitool_program.proofs.Layings.{file_then, misread_here}
use Rattle.acpitool_program.proofs.Streams.{keeps_kept}
use Rattle.acpitool_program.proofs.laying.read_files.Goals as goal

pub returns-in-Err : goal.returns-in-Err
returns-in-Err g c =
    let text : String Global → List ℕ = λ path. string_bytes path in
    misread_here text (λ file. file.items) c.args.paths.now c.paths.path-index c.path-item.result c.paths-test.true c.path-item.is
    c.paths.files.items _ _ _ _
    c.paths.invariant.are c.paths.invariant.kept (rw (c.in-Err.is, c.as_str.ensures.value) at c.in_ok-file.ensures)

pub paths-preserved : goal.paths-preserved
paths-preserved g c =
    let text : String Global → List ℕ = λ path. string_bytes path in
    let this = rw (c.in-Ok.is, c.as_str.ensures.value) at c.in_ok-file.ensures in
    record {
      are = file_then text (λ file. file.items) c.args.paths.now c.paths.path-index c.path-item.result c.paths-test.true c.path-item.is
          c.paths.files.items _ c.in-Ok.file c.in_ok-push-in-Ok.ensures.items c.paths.invariant.are this.0;
      kept = keeps_kept _ _ _ c.paths.invariant.kept this.1;
    }
