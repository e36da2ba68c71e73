use Rattle.std.proofs.Common.{◌++◌, take, refl, ap, ◌∙◌}
use Rattle.std.proofs.lemmas.List.{map-append}
use Rattle.acpi_forms.specs.FurtherNames.{aest_kinds}
use Rattle.acpi_forms.specs.Name.{kinds}
use Rattle.acpi_forms.proofs.further.aest.aest_form.Goals as goal

pub returns : goal.returns
returns c = record {
  name = refl;
  structures =
      map-append (λ form. (form.number, form.name.now)) c.nodes.result.now c.further_nodes.result.now
      ∙ ap (λ l. l ++ kinds c.further_nodes.result.now) c.nodes.ensures
      ∙ ap (λ l. take 4 aest_kinds ++ l) c.further_nodes.ensures;
  fields = tt;
}
