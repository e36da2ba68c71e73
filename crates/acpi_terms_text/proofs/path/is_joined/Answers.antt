use Rattle.std.proofs.Common.{List, ℕ, ap, ◌∙◌}
use Rattle.std.specs.Str.{bytes_eq}
use Rattle.acpi_terms_text.proofs.Relative.{joined_is, not_joined}
use Rattle.acpi_terms_text.proofs.path.is_joined.Goals as goal

pub returns-in-Some : goal.returns-in-Some
returns-in-Some c =
    c.eq.ensures ∙ ap (λ (l : List ℕ). bytes_eq l c.args.rest.now) c.in-Some.ensures.cases.1
    ∙ joined_is c.args.rest.now c.args.front.now c.args.path.now c.in-Some.ensures.cases.0

pub returns-in-None : goal.returns-in-None
returns-in-None c = not_joined c.args.rest.now c.args.front.now c.args.path.now c.in-None.ensures.cases
