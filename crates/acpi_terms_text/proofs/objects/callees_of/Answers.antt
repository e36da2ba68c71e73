use Rattle.std.proofs.Common.{◌≡◌, ◌++◌, ℕ, Option, List, [], map, subst, sym, ap, ◌∙◌, unwrap_or, IfOk}
use Rattle.acpi_term.specs.Arity.{with_all}
use Rattle.acpi_term.specs.View.{views}
use Rattle.acpi_terms_text.specs.Objects.{callee_by, objects, segments, all_among}
use Rattle.acpi_terms_text.proofs.Segments.{among_none}
use Rattle.acpi_terms_text.proofs.objects.callees_of.Goals as goal

pub returns-in-Some : goal.returns-in-Some
returns-in-Some c =
    let all = objects [] (views c.args.terms.now) ++ map callee_by c.args.further.now in
    let among : c.in-Some.among ≡ with_all [] (segments all) =
    ap (λ (o : Option (List (List ℕ × ℕ))). unwrap_or o []) (sym c.in-Some.is) ∙ c.in_ok-among.ensures
    in
    subst (λ (l : List (List ℕ × ℕ)). IfOk c.all_among.result (λ found. map callee_by found.items ≡ all_among l all)) among c.all_among.ensures

pub returns-in-None : goal.returns-in-None
returns-in-None c =
    let all = objects [] (views c.args.terms.now) ++ map callee_by c.args.further.now in
    let none : [] ≡ with_all [] (segments all) =
    ap (λ (o : Option (List (List ℕ × ℕ))). unwrap_or o []) (sym c.in-None.is) ∙ c.in_ok-among.ensures
    in
    ap (map callee_by) c.new.ensures.items ∙ sym (among_none all) ∙ ap (λ (l : List (List ℕ × ℕ)). all_among l all) none
