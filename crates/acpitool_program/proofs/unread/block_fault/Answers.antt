use Rattle.std.proofs.Common.{Result, Option, IfOk, true, map, sym, subst, rules}
use Rattle.std.proofs.lemmas.List.{take_rest}
use Rattle.std.specs.declared.alloc.AllocError.{AllocError}
use Rattle.acpi_terms_text.specs.Objects.{callee_by}
use Rattle.acpitool_program.specs.Unread.{IsTermsFaultBy}
use Rattle.acpitool_program.specs.declared.fault.Fault.{Fault}
use Rattle.acpitool_program.proofs.unread.block_fault.Goals as goal
use Rattle.acpitool_program.proofs.unread.block_fault.Goals.{in-Ok, in-Err-Memory, in-Err}

pub returns : goal.returns
returns c =
    let further = map callee_by c.args.further.now in
    let P : Result (Option Fault) AllocError → Type 0 = λ r. IfOk r (IsTermsFaultBy true c.args.stated.now further c.args.bytes.now) in
    elim c.match-block_terms.branch [
      | in-Ok w ↦ subst P (sym w.result-is) (_, rw take_rest at w.in-Ok.ensures.ok)
      | in-Err-Memory w ↦ subst P (sym w.result-is) tt
      | in-Err w ↦ subst P (sym w.result-is) (record {
        error = w.in-Err.error;
        no_memory = search rules;
        no_terms = rw take_rest at w.in-Err.ensures.err;
        says = w.after.ensures;
      })
    ]
