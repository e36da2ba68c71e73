use Rattle.std.proofs.Common.{◌∙◌, ap, ◌%◌}
use Rattle.std.specs.Prelude.{sum}
use Rattle.acpi_base.proofs.Tables.{table_is_zero}
use Rattle.acpi_base.proofs.sdt.Sdt.as_slice.Goals as goal

pub returns-clause-zero : goal.returns-clause-zero
returns-clause-zero c = ap (λ b. sum b % 256) c.deref.ensures.value ∙ table_is_zero _ _ c.self.invariant
