-- What operators mean.
use Rattle.std.proofs.Common.{◌≡◌, ℕ, List, [], ◌∷◌, length, None, refl, sym, ap, true}
use Rattle.acpi_base.specs.Object.{Object, all_of}
use Rattle.acpi_base.proofs.Lists.{joined_whole}
use Rattle.acpi_term.specs.declared.mode.Mode.TheVariants.{Term}
use Rattle.acpi_term.specs.declared.op.Op.{Op}
use Rattle.acpi_term.specs.declared.op.Op.TheVariants.{LNot}
use Rattle.acpi_term.specs.Tree.{op, one}
use Rattle.acpi_term.specs.declared.language.Language.{Language}
use Rattle.acpi_term.specs.declared.language.Language.TheVariants.{Written}
use Rattle.acpi_term.specs.Language.{has}
use Rattle.acpi_term.specs.Operator.{operands, language_of, IsKnown}
use Rattle.acpi_term.specs.Row.{row}
use Rattle.acpi_term.proofs.Rows.{rows_mean, ended_none}
use Rattle.acpi_ops.specs.Laws.{OperatorMeans, NegationMeans}

takes_so : (o : Op) (n : ℕ) → IsKnown o n → n ≡ operands o
takes_so o n is = sym (ap (λ (x : Language × ℕ). x.1) is)

in_written : (o : Op) (n : ℕ) → IsKnown o n → has Written (language_of o) ≡ true
in_written o n is = ap (λ (x : Language × ℕ). has Written x.0) is

pub operator_means : (o : Op) (objects : List Object) → IsKnown o (length objects) → OperatorMeans o objects
operator_means o objects n = record {
  spells = λ arity m ts spell whole.
      rows_mean arity m (op o) objects ts (takes_so o (length objects) n) (in_written o (length objects) n) tt spell whole;
}

-- an object alone is whole only if it is
only_whole : (o : Object) → (all_of (o ∷ [])).end ≡ None → o.end ≡ None
only_whole o h = (joined_whole o.front o.wants_memory (all_of []) o.end h).0

pub negation_means : (o : Op) (objects : List Object) → IsKnown o (length objects) → NegationMeans o objects
negation_means o objects n = record {
  spells = λ arity m ts spell whole.
      let inside = only_whole (row (op o) objects) (ended_none (all_of (row (op o) objects ∷ [])).end _ whole).0 in
      rows_mean arity m (op LNot) (row (op o) objects ∷ []) (one (op o) 0 ts) refl refl tt ((operator_means o objects n).spells arity Term ts spell inside, tt) whole;
}
