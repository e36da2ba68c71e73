use Rattle.std.proofs.Common.{List, subst, sym, rules, refl, inr}
use Rattle.acpi_term.specs.Carried.{AreCarried}
use Rattle.acpi_term.specs.View.{views}
use Rattle.acpi_term.specs.declared.read_error.ReadError.TheVariants.{Truncated}
use Rattle.acpi_term.specs.declared.term.Term.{Term}
use Rattle.acpi_terms_text.proofs.scoped.read_again.Goals as goal

pub returns-in-Err : goal.returns-in-Err
returns-in-Err c = inr record {
  is = refl;
  error = Truncated 0;
  no_memory = search rules;
  unread = λ carried. absurd (c.in-Err.ensures.err (search rules) (subst (λ (terms : List Term). AreCarried (views terms)) (sym c.deref.ensures.value) carried));
}
