use Rattle.std.proofs.Common.{ℕ, ◌-◌, sym, ap, ◌∙◌, arith}
use Rattle.acpi_rules.specs.Chain.{ends_within}
use Rattle.acpi_rules.proofs.Chains.{one_step}
use Rattle.acpi_rules.proofs.chain.ends_within.Goals as goal

pub steps-preserved : goal.steps-preserved
steps-preserved c =
    ap (λ (k : ℕ). ends_within (c.steps.left - 1) c.args.next.now k) c.number_at-at.ensures
    ∙ sym (one_step c.steps.left c.steps.at c.args.next.now (omega arith) (omega arith))
    ∙ c.steps.invariant
