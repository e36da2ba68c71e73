use Rattle.std.proofs.Common.{rules, ◌≡◌, ℕ, ◌<◌, ◌++◌, ◌∙◌, List, map, Option, subst, sym, ap, arith}
use Rattle.std.specs.BTreeMap.{get}
use Rattle.std.specs.Ordering.{nat_cmp}
use Rattle.std.specs.Str.{bytes_eq}
use Rattle.acpi_asl.specs.Paths.{key_from, key, path_of, has, latest}
use Rattle.acpi_asl.proofs.Latest.{Looks, key_of_both, places_left, looks_first, is_inside, entry_wanted, entry_before}
use Rattle.acpi_asl.proofs.paths.Paths.has.Goals as goal

pub paths-init : goal.paths-init
paths-init c =
    let all = map path_of c.self.inside.all.items in
    let w = c.args.front.now ++ c.args.rest.now in
    let by_key : c.key_from-key.result ≡ key w =
    c.key_from-key.ensures ∙ ap (λ (k : ℕ). key_from k c.args.rest.now) c.key_from.ensures ∙ key_of_both 0 c.args.front.now c.args.rest.now
    in
    let first : c.copied-next.result ≡ get nat_cmp c.self.inside.latest c.key_from-key.result = search rules in
    subst (λ (o : Option ℕ). Looks all w o) (sym (first ∙ c.self.invariant.found c.key_from-key.result ∙ ap (latest all) by_key)) (looks_first all w)

pub index-entry-requires : goal.index-entry-requires
index-entry-requires c =
    let inside = is_inside c.self.inside.all.items ((c.args.front.now ++ c.args.rest.now)) c.in-Some.place c.paths.next c.in-Some.is c.paths.invariant in
    omega (arith, inside, c.self.inside.all.ok)

pub returns-then-is_joined : goal.returns-then-is_joined
returns-then-is_joined c =
    let w = c.args.front.now ++ c.args.rest.now in
    let all = c.self.inside.all.items in
    let inside = is_inside all w c.in-Some.place c.paths.next c.in-Some.is c.paths.invariant in
    let looks = subst (Looks (map path_of all) w) c.in-Some.is c.paths.invariant in
    let yes = ap (λ (p : List ℕ). bytes_eq p w) (sym c.deref.ensures.value) ∙ sym c.is_joined.ensures ∙ c.if-is_joined.true in
    entry_wanted all w c.in-Some.place c.index-entry.result.now inside c.index-entry.ensures looks yes ∙ ap (λ (l : List (List ℕ)). has l w) c.self.view_is

pub paths-smaller : goal.paths-smaller
paths-smaller c =
    let w = c.args.front.now ++ c.args.rest.now in
    let all = c.self.inside.all.items in
    let inside = is_inside all w c.in-Some.place c.paths.next c.in-Some.is c.paths.invariant in
    let looks = subst (Looks (map path_of all) w) c.in-Some.is c.paths.invariant in
    let no = ap (λ (p : List ℕ). bytes_eq p w) (sym c.deref.ensures.value) ∙ sym c.is_joined.ensures ∙ c.if-is_joined.false in
    subst (λ (o : Option ℕ). places_left c.index-entry.result.now.before < places_left o) (sym c.in-Some.is)
    (entry_before all w c.in-Some.place c.index-entry.result.now inside c.index-entry.ensures looks c.self.invariant.linked no).1

pub paths-preserved : goal.paths-preserved
paths-preserved c =
    let w = c.args.front.now ++ c.args.rest.now in
    let all = c.self.inside.all.items in
    let inside = is_inside all w c.in-Some.place c.paths.next c.in-Some.is c.paths.invariant in
    let looks = subst (Looks (map path_of all) w) c.in-Some.is c.paths.invariant in
    let no = ap (λ (p : List ℕ). bytes_eq p w) (sym c.deref.ensures.value) ∙ sym c.is_joined.ensures ∙ c.if-is_joined.false in
    (entry_before all w c.in-Some.place c.index-entry.result.now inside c.index-entry.ensures looks c.self.invariant.linked no).0

pub returns : goal.returns
returns c =
    let w = c.args.front.now ++ c.args.rest.now in
    let all = c.self.inside.all.items in
    let none = subst (Looks (map path_of all) w) c.in_default.is c.paths.invariant in
    sym (ap (λ (l : List (List ℕ)). has l w) (sym c.self.view_is) ∙ none)
