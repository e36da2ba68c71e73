use Rattle.std.proofs.Common.{sym, ◌∙◌}
use Rattle.acpi_layout.proofs.Founds.{on_err, no_control}
use Rattle.acpi_layout.proofs.found.control.Goals as goal

pub returns-in_err-facs-clause-err : goal.returns-in_err-facs-clause-err
returns-in_err-facs-clause-err c =
    on_err _ _ (no_control _ _ _ _ _ c.contents-fields.ensures.is c.facs_address.ensures (sym c.has_no_control.ensures ∙ c.if-has_no_control.false) c.in_err-facs.ensures.err)
