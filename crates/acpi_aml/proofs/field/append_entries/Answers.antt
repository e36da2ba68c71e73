use Rattle.std.proofs.Common.{[]}
use Rattle.std.proofs.lemmas.List.{get_or_default}
use Rattle.acpi_base.proofs.Objects.{at_exit}
use Rattle.acpi_aml.specs.declared.field.FieldEntry.TheVariants.{Named}
use Rattle.acpi_aml.specs.Field.{entry_of}
use Rattle.acpi_aml.proofs.Fields.{joined_next, whole_next, ends_here}
use Rattle.acpi_aml.proofs.field.append_entries.Goals as goal

pub returns-in_err-append_entry-clause-err : goal.returns-in_err-append_entry-clause-err
returns-in_err-append_entry-clause-err c =
    let inside = c.loop-entry-test.true in
    let is = get_or_default _ _ (Named [] 0) _ inside in
    at_exit _ _ _ c.from_residual.ensures.1 (λ other. ends_here entry_of _ _ _ inside is _ c.loop-entry.invariant.whole (c.in_err-append_entry.ensures.err other))

pub loop-entry-preserved : goal.loop-entry-preserved
loop-entry-preserved c =
    let inside = c.loop-entry-test.true in
    let is = get_or_default _ _ (Named [] 0) _ inside in
    record {
      joined = joined_next entry_of _ _ _ inside is _ _ _ c.loop-entry.invariant.joined c.in_ok-append_entry.ensures.ok;
      whole = whole_next entry_of _ _ _ inside is c.loop-entry.invariant.whole c.in_ok-append_entry.ensures.end;
    }
