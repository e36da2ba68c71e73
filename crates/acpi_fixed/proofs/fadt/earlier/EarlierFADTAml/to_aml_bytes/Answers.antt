use Rattle.std.proofs.Common.{◌≡◌, subst, sym}
use Rattle.std.specs.Prelude.{Result, OnOk, IfErr}
use Rattle.acpi_base.specs.declared.error.Error.{Error}
use Rattle.acpi_base.specs.Object.{whole, Wrote, WriteRefused}
use Rattle.acpi_base.specs.Sink.{Meaning}
use Rattle.acpi_fixed.specs.EarlierFadt.{release_size, first_bytes, earlier_fadt_bytes}
use Rattle.acpi_fixed.specs.declared.fadt.earlier.EarlierFADT.{EarlierFADT}
use Rattle.acpi_fixed.specs.declared.fadt.earlier.FadtRelease.{FadtRelease}
use Rattle.acpi_fixed.proofs.fadt.earlier.EarlierFADTAml.to_aml_bytes.Goals as goal

module _ {T : Type 0} (r : Result T Error) (t : EarlierFADT) (release : FadtRelease) (m k : Meaning) (is : t.release ≡ release) where
  wrote : OnOk r (Wrote (whole (first_bytes (release_size release) t.int_model t.table)) m k) → OnOk r (Wrote (whole (earlier_fadt_bytes t)) m k)
  wrote of = subst (λ x. OnOk r (Wrote (whole (first_bytes (release_size x) t.int_model t.table)) m k)) (sym is) of

  refused : IfErr r (λ e. WriteRefused e (whole (first_bytes (release_size release) t.int_model t.table)) m k)
      → IfErr r (λ e. WriteRefused e (whole (earlier_fadt_bytes t)) m k)
  refused of = subst (λ x. IfErr r (λ e. WriteRefused e (whole (first_bytes (release_size x) t.int_model t.table)) m k)) (sym is) of

pub returns-in-Acpi1_0-clause-ok : goal.returns-in-Acpi1_0-clause-ok
returns-in-Acpi1_0-clause-ok g c = wrote _ c.args.self.now _ _ _ c.in-Acpi1_0.is c.write_first.ensures.ok

pub returns-in-Acpi1_0-clause-err : goal.returns-in-Acpi1_0-clause-err
returns-in-Acpi1_0-clause-err g c = refused _ c.args.self.now _ _ _ c.in-Acpi1_0.is c.write_first.ensures.err

pub returns-in-Acpi2_0-clause-ok : goal.returns-in-Acpi2_0-clause-ok
returns-in-Acpi2_0-clause-ok g c = wrote _ c.args.self.now _ _ _ c.in-Acpi2_0.is c.write_first-in-Acpi2_0.ensures.ok

pub returns-in-Acpi2_0-clause-err : goal.returns-in-Acpi2_0-clause-err
returns-in-Acpi2_0-clause-err g c = refused _ c.args.self.now _ _ _ c.in-Acpi2_0.is c.write_first-in-Acpi2_0.ensures.err

pub returns-in-Acpi3_0-clause-ok : goal.returns-in-Acpi3_0-clause-ok
returns-in-Acpi3_0-clause-ok g c = wrote _ c.args.self.now _ _ _ c.in-Acpi3_0.is c.write_first-in-Acpi3_0.ensures.ok

pub returns-in-Acpi3_0-clause-err : goal.returns-in-Acpi3_0-clause-err
returns-in-Acpi3_0-clause-err g c = refused _ c.args.self.now _ _ _ c.in-Acpi3_0.is c.write_first-in-Acpi3_0.ensures.err

pub returns-in-Acpi5_0-clause-ok : goal.returns-in-Acpi5_0-clause-ok
returns-in-Acpi5_0-clause-ok g c = wrote _ c.args.self.now _ _ _ c.in-Acpi5_0.is c.write_first-in-Acpi5_0.ensures.ok

pub returns-in-Acpi5_0-clause-err : goal.returns-in-Acpi5_0-clause-err
returns-in-Acpi5_0-clause-err g c = refused _ c.args.self.now _ _ _ c.in-Acpi5_0.is c.write_first-in-Acpi5_0.ensures.err

pub returns-in-Acpi5_1-clause-ok : goal.returns-in-Acpi5_1-clause-ok
returns-in-Acpi5_1-clause-ok g c = wrote _ c.args.self.now _ _ _ c.in-Acpi5_1.is c.write_first-in-Acpi5_1.ensures.ok

pub returns-in-Acpi5_1-clause-err : goal.returns-in-Acpi5_1-clause-err
returns-in-Acpi5_1-clause-err g c = refused _ c.args.self.now _ _ _ c.in-Acpi5_1.is c.write_first-in-Acpi5_1.ensures.err
