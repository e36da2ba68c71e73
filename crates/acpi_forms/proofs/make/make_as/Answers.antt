use Rattle.std.proofs.Common.{sym, subst}
use Rattle.acpi_forms.specs.Makes.{IsMadeIn, IsSettled, IsHeaded, Then, another_in, heading_in}
use Rattle.acpi_forms.proofs.make.make_as.Goals as goal

pub returns : goal.returns
returns c =
    let text = c.args.text.now in
    let items = c.args.items.now in
    record {
      stated = c.make_in.result;
      is = subst (λ l. IsMadeIn l c.args.signature text items c.make_in.result) c.layout_of_text-layout.ensures c.make_in.ensures;
      found = c.settle.result;
      settled =
          subst (λ o. Then o (λ made. IsSettled (another_in c.args.signature text items made) c.args.signature text items made c.settle.result) c.settle.result)
          (sym c.in_ok-stated.was) c.settle.ensures;
      headed =
          subst (λ o. Then o (λ made. IsHeaded (heading_in c.args.signature text items made) made c.headed.result) c.headed.result)
          (sym c.in_ok-found.was) c.headed.ensures;
    }
