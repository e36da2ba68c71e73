use Rattle.std.proofs.Common.{Ok, Err, refl, sym, ap, ◌∙◌, subst}
use Rattle.acpi_make.specs.Draft.{fault_in}
use Rattle.acpi_make.specs.declared.fault.MakeError.TheVariants as errors
use Rattle.acpi_forms.specs.Makes.{IsHeaded}
use Rattle.acpi_forms.proofs.Layouts.{heading_found}
use Rattle.acpi_forms.proofs.make.headed.Goals as goal

pub returns-in-Some : goal.returns-in-Some
returns-in-Some c =
    let at = heading_found c.args.signature c.args.text.now c.args.items.now c.args.made c.layout_of_text-stated.result c.layout_in.result c.deref.result.now
    c.layout_of_text-stated.ensures c.layout_in.ensures c.deref.ensures.value
    c.layout_made-layout.result (fault_in c.heading_fault.result) c.heading_fault.ensures c.layout_made-layout.ensures in
    subst (λ o. IsHeaded o c.args.made (Err (errors.Fault c.in-Some.fault))) (sym (ap fault_in c.in-Some.is) ∙ at) refl

pub returns-in-None : goal.returns-in-None
returns-in-None c =
    let at = heading_found c.args.signature c.args.text.now c.args.items.now c.args.made c.layout_of_text-stated.result c.layout_in.result c.deref.result.now
    c.layout_of_text-stated.ensures c.layout_in.ensures c.deref.ensures.value
    c.layout_made-layout.result (fault_in c.heading_fault.result) c.heading_fault.ensures c.layout_made-layout.ensures in
    subst (λ o. IsHeaded o c.args.made (Ok c.args.made)) (sym (ap fault_in c.in-None.is) ∙ at) refl
