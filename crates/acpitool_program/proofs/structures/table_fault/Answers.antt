use Rattle.std.proofs.Common.{Result, Option, IfOk, sym, subst, rules}
use Rattle.std.specs.declared.alloc.AllocError.{AllocError}
use Rattle.acpitool_program.specs.Structures.{HasOrBroken}
use Rattle.acpitool_program.specs.declared.fault.Fault.{Fault}
use Rattle.acpitool_program.proofs.structures.table_fault.Goals as goal
use Rattle.acpitool_program.proofs.structures.table_fault.Goals.{in-Ok, in-Err-Memory, in-Err}

pub returns : goal.returns
returns c =
    let P : Result (Option Fault) AllocError → Type 0 = λ r. IfOk r (HasOrBroken c.args.table.now) in
    elim c.match-structures.branch [
      | in-Ok w ↦ subst P (sym w.result-is) (_, w.in-Ok.ensures.walk)
      | in-Err-Memory w ↦ subst P (sym w.result-is) tt
      | in-Err w ↦ subst P (sym w.result-is) (record {
        error = w.in-Err.error;
        no_memory = search rules;
        cause = w.in-Err.ensures.err;
        says = w.of.ensures;
      })
    ]
