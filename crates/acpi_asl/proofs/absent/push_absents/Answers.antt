use Rattle.std.proofs.Common.{sym, refl, ◌∙◌}
use Rattle.acpi_term.specs.View.{views}
use Rattle.acpi_asl.proofs.Absents.{none_added, found_added, all_added}
use Rattle.acpi_asl.proofs.absent.push_absents.Goals as goal

pub returns-then-not-use_names : goal.returns-then-not-use_names
returns-then-not-use_names c = none_added (views c.args.terms.now) _ (sym c.use_names.ensures ∙ c.if-not-use_names.true)

pub returns-then-branch : goal.returns-then-branch
returns-then-branch c =
    found_added (views c.args.terms.now) _ _ _ _ _ _ c.in_ok-known.ensures c.in_ok-push_pass.ensures refl c.in_ok-are_found.ensures c.if-branch.true

pub returns : goal.returns
returns c =
    all_added (views c.args.terms.now) _ _ _ _ _ _ _ _ _ _ _ _ _ _ c.in_ok-known.ensures c.in_ok-push_pass.ensures c.in_ok-push_pass-2.ensures c.in_ok-push_pass-3.ensures c.in_ok-push_pass-4.ensures c.in_ok-push_pass-5.ensures c.in_ok-push_pass-6.ensures
