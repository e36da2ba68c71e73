use Rattle.std.proofs.Common.{◌≡◌, ℕ, ◌∷◌, List, ◌/◌, ◌<◌, length, map, sym, ap, subst, ◌∙◌, arith}
use Rattle.acpi_term.specs.Arity.{with_all}
use Rattle.acpi_terms_text.specs.Objects.{callee_by}
use Rattle.acpi_terms_text.specs.Scoped.{AreParents, all_below}
use Rattle.acpi_terms_text.proofs.Relative.{one_more_up, one_scope_less, relative_on}
use Rattle.acpi_terms_text.proofs.scoped.add_relative.Goals as goal

pub levels-preserved : goal.levels-preserved
levels-preserved c =
    let all = map callee_by c.args.objects.now in
    let around = c.levels.around.now in
    let more = one_more_up c.levels.up.items c.levels.invariant.0 in
    let is : c.push.new.self.items ≡ 0x5e ∷ c.levels.up.items = c.in_ok-push.ensures.items ∙ more.0 in
    let some : 0 < length around / 4 = omega (arith, c.levels-test.true) in
    let added = c.in_ok-add_all_below.ensures ∙ ap (λ (up : List ℕ). with_all c.levels.all (all_below up around all)) c.deref.ensures.value in (
      subst AreParents (sym is) more.1,
      relative_on all (length around / 4) _ c.levels.up.items _ around _ _ _ _ some (one_scope_less around _ c.parent-around.ensures) is c.parent-around.ensures added c.levels.invariant.1,
    )
