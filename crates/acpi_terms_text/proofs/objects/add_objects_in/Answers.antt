use Rattle.std.proofs.Common.{◌≡◌, ℕ, List, [], map, refl, subst, sym, ap, ◌∙◌}
use Rattle.acpi_read.specs.InPart.{AreReadInPart}
use Rattle.acpi_term.specs.Arity.{grammar_by}
use Rattle.acpi_term.specs.View.{views}
use Rattle.acpi_term.specs.declared.language.Language.TheVariants.{Standard}
use Rattle.acpi_term.specs.declared.term.Term.{Term}
use Rattle.acpi_terms_text.specs.Objects.{alias_by, aliases, first_numbers}
use Rattle.acpi_terms_text.proofs.Aliases.{block_added}
use Rattle.acpi_terms_text.proofs.Segments.{all_added}
use Rattle.acpi_terms_text.proofs.objects.add_objects_in.Goals as goal

pub returns : goal.returns
returns c =
    let ts = views c.deref.result.now in
    let first = first_numbers c.args.stated.now in
    let by_first : AreReadInPart (grammar_by Standard first) c.args.bytes.now (views c.in_ok-terms.terms.items) =
    subst (λ (l : List (List ℕ × ℕ)). AreReadInPart (grammar_by Standard l) c.args.bytes.now (views c.in_ok-terms.terms.items)) c.in_ok-first.ensures c.in_ok-terms.ensures
    in
    let read : AreReadInPart (grammar_by Standard first) c.args.bytes.now ts =
    subst (λ (l : List Term). AreReadInPart (grammar_by Standard first) c.args.bytes.now (views l)) (sym c.deref.ensures.value) by_first
    in
    let before = all_added ts _ _ _ refl c.in_ok-push_terms.ensures in
    let same : views c.deref-2.result.now ≡ ts = ap views (c.deref-2.ensures.value ∙ sym c.deref.ensures.value) in
    let list : map alias_by c.deref-3.result.now ≡ aliases [] (views c.deref-2.result.now) =
    ap (map alias_by) c.deref-3.ensures.value ∙ c.in_ok-aliases.ensures
    in
    record { terms = ts; read = read; added = block_added ts _ _ _ _ _ same before list c.in_ok-add_aliases.ensures }
