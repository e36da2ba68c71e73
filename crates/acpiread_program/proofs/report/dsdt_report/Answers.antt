use Rattle.std.proofs.Common.{rules, inr}
use Rattle.std.proofs.lemmas.List.{take_rest}
use Rattle.acpiread_program.proofs.Faults.{header_memory}
use Rattle.acpiread_program.proofs.report.dsdt_report.Goals as goal

pub returns-in-Err-clause-err : goal.returns-in-Err-clause-err
returns-in-Err-clause-err c = inr (record {
  is_table = c.in_ok-text.ensures.ok.is_table;
  terms = record { error = c.in-Err.error; refusal = c.after.ensures; cause = rw take_rest at c.in-Err.ensures.err };
})

pub returns-clause-ok : goal.returns-clause-ok
returns-clause-ok c = record {
  is_table = c.in_ok-text.ensures.ok.is_table;
  terms = _;
  read = rw take_rest at c.in-Ok.ensures.ok;
  is = rw (← c.in_ok-text.ensures.ok.is, ← c.deref.ensures.value, ← c.in_ok-lines.ensures.ok, ← c.as_str.ensures.value) c.in_ok-push_str.ensures.bytes;
}

pub returns-in_err-push_str-clause-err : goal.returns-in_err-push_str-clause-err
returns-in_err-push_str-clause-err c = search (rules, header_memory)
