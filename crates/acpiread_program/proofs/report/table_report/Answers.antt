use Rattle.std.proofs.Common.{rules}
use Rattle.acpiread_program.proofs.Faults.{by_structures}
use Rattle.acpiread_program.proofs.report.table_report.Goals as goal

pub returns-in_err-report_table-clause-err : goal.returns-in_err-report_table-clause-err
returns-in_err-report_table-clause-err c =
    by_structures c.from_residual-in_err-report_table.result c.in_err-report_table.field-0.0 _ _ c.in_ok-table.ensures.value (search rules) c.in_err-report_table.ensures.err c.from_residual-in_err-report_table.ensures.1
