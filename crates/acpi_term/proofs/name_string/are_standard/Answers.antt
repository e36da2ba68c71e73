use Rattle.std.proofs.Common.{◌≡◌, [], ◌∷◌, get_or, sym, ◌∙◌, arith}
use Rattle.acpi_term.proofs.NameTexts.{cut, step, last}
use Rattle.acpi_term.proofs.name_string.are_standard.Goals as goal

pub returns-in_default-split_first : goal.returns-in_default-split_first
returns-in_default-split_first c =
    let r = c.loop-rest.rest.now in
    let e = cut r c.in-len4-up.len_at_least in
    let is : c.loop-rest.rest.now ≡ get_or r 0 0 ∷ get_or r 1 0 ∷ get_or r 2 0 ∷ get_or r 3 0 ∷ [] = grind (arith, e) in
    sym (last _ _ _ _ r is (sym c.is_segment.ensures ∙ c.if-not-is_segment.false)) ∙ c.loop-rest.invariant

pub loop-rest-preserved : goal.loop-rest-preserved
loop-rest-preserved c =
    let r = c.loop-rest.rest.now in
    let e = cut r c.in-len4-up.len_at_least in
    let is : c.loop-rest.rest.now ≡ get_or r 0 0 ∷ get_or r 1 0 ∷ get_or r 2 0 ∷ get_or r 3 0 ∷ c.in-Some.x.now ∷ c.in-Some.more.now = grind (arith, e) in
    sym (step _ _ _ _ r c.in-Some.x.now c.in-Some.more.now is c.if-x-ne46.false (sym c.is_segment.ensures ∙ c.if-not-is_segment.false)) ∙ c.loop-rest.invariant
