use Rattle.std.proofs.Common.{Ok, refl, sym, ◌∙◌, subst}
use Rattle.acpi_forms.specs.Makes.{IsSettled}
use Rattle.acpi_forms.proofs.Layouts.{another_found}
use Rattle.acpi_forms.proofs.make.settle.Goals as goal

pub returns-in-Some : goal.returns-in-Some
returns-in-Some c =
    let at = another_found c.args.signature c.args.text.now c.args.items.now c.args.made c.layout_of_text-stated.result c.layout_in.result c.deref.result.now
    c.layout_of_text-stated.ensures c.layout_in.ensures c.deref.ensures.value c.another_layout.result c.another_layout.ensures in
    subst (λ o. IsSettled o c.args.signature c.args.text.now c.args.items.now c.args.made c.make_again.result) (sym c.in-Some.is ∙ at) c.make_again.ensures

pub returns-in-None : goal.returns-in-None
returns-in-None c =
    let at = another_found c.args.signature c.args.text.now c.args.items.now c.args.made c.layout_of_text-stated.result c.layout_in.result c.deref.result.now
    c.layout_of_text-stated.ensures c.layout_in.ensures c.deref.ensures.value c.another_layout.result c.another_layout.ensures in
    subst (λ o. IsSettled o c.args.signature c.args.text.now c.args.items.now c.args.made (Ok c.args.made)) (sym c.in-None.is ∙ at) refl
