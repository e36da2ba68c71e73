use Rattle.std.proofs.Common.{rules}
use Rattle.acpiread_program.proofs.Faults.{memory}
use Rattle.acpiread_program.proofs.report.aml_report.Goals as goal

pub returns-in_err-report_terms-clause-err : goal.returns-in_err-report_terms-clause-err
returns-in_err-report_terms-clause-err c = search (rules, memory)
