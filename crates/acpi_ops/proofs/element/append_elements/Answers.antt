use Rattle.acpi_base.proofs.Objects.{at_exit}
use Rattle.acpi_aml.proofs.Fields.{joined_next, whole_next, ends_here}
use Rattle.acpi_ops.specs.Element.{element_of}
use Rattle.acpi_ops.proofs.element.append_elements.Goals as goal

pub returns-in_err-append_element-clause-err : goal.returns-in_err-append_element-clause-err
returns-in_err-append_element-clause-err c =
    at_exit _ _ _ c.from_residual.ensures.1 (λ other. ends_here element_of _ _ _ c.loop-element-test.true c.element-item.is _ c.loop-element.invariant.whole (c.in_err-append_element.ensures.err other))

pub loop-element-preserved : goal.loop-element-preserved
loop-element-preserved c = record {
  joined = joined_next element_of _ _ _ c.loop-element-test.true c.element-item.is _ _ _ c.loop-element.invariant.joined c.in_ok-append_element.ensures.ok;
  whole = whole_next element_of _ _ _ c.loop-element-test.true c.element-item.is c.loop-element.invariant.whole c.in_ok-append_element.ensures.end;
}
