use Rattle.std.proofs.Common.{ℕ, List, sym, ap, subst, ◌∙◌}
use Rattle.acpitool_program.specs.Repair.{set_seals}
use Rattle.acpitool_program.specs.Text.{IsKind}
use Rattle.acpitool_program.specs.declared.repair.Seal.{Seal}
use Rattle.acpitool_program.proofs.Repairs.{is_kind}
use Rattle.acpitool_program.proofs.repair.repair.Goals as goal

pub returns-clause-is : goal.returns-clause-is
returns-clause-is c =
    let same = c.set_seals.ensures ∙ ap (λ (seals : List Seal). set_seals seals c.args.bytes.now) c.seals_as-seals.ensures in
    subst (λ (l : List ℕ). IsKind c.args.kind l) (sym same) (is_kind c.args.kind c.args.bytes.now c.requires.some c.requires.counted)
