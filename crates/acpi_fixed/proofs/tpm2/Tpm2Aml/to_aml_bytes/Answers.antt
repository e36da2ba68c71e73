use Rattle.std.proofs.Common.{◌≡◌, subst, sym}
use Rattle.std.specs.Prelude.{Option, Result, OnOk, IfErr}
use Rattle.acpi_base.specs.declared.error.Error.{Error}
use Rattle.acpi_base.specs.Object.{whole, Wrote, WriteRefused}
use Rattle.acpi_base.specs.Sink.{Meaning}
use Rattle.acpi_fixed.specs.declared.tpm2.LogArea.{LogArea}
use Rattle.acpi_fixed.specs.declared.tpm2.Tpm2.{Tpm2}
use Rattle.acpi_fixed.specs.Tpm2.{tpm2_with, tpm2_bytes}
use Rattle.acpi_fixed.proofs.tpm2.Tpm2Aml.to_aml_bytes.Goals as goal

module _ {T : Type 0} (r : Result T Error) (t : Tpm2) (area : Option LogArea) (m k : Meaning) (is : t.log_area ≡ area) where
  wrote : OnOk r (Wrote (whole (tpm2_with t area)) m k) → OnOk r (Wrote (whole (tpm2_bytes t)) m k)
  wrote of = subst (λ a. OnOk r (Wrote (whole (tpm2_with t a)) m k)) (sym is) of

  refused : IfErr r (λ e. WriteRefused e (whole (tpm2_with t area)) m k) → IfErr r (λ e. WriteRefused e (whole (tpm2_bytes t)) m k)
  refused of = subst (λ a. IfErr r (λ e. WriteRefused e (whole (tpm2_with t a)) m k)) (sym is) of

pub returns-in-None-clause-ok : goal.returns-in-None-clause-ok
returns-in-None-clause-ok g c = wrote _ c.args.self.now _ _ _ c.in-None.is c.write_table.ensures.ok

pub returns-in-None-clause-err : goal.returns-in-None-clause-err
returns-in-None-clause-err g c = refused _ c.args.self.now _ _ _ c.in-None.is c.write_table.ensures.err

pub returns-in-Some-clause-ok : goal.returns-in-Some-clause-ok
returns-in-Some-clause-ok g c = wrote _ c.args.self.now _ _ _ c.in-Some.is c.write_table-in-Some.ensures.ok

pub returns-in-Some-clause-err : goal.returns-in-Some-clause-err
returns-in-Some-clause-err g c = refused _ c.args.self.now _ _ _ c.in-Some.is c.write_table-in-Some.ensures.err
