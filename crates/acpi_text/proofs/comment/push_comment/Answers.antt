use Rattle.std.proofs.Common.{◌≡◌, ℕ, ◌<◌, ◌==◌, List, subst, ◌∷◌, [], ◌++◌, length, ap, sym, ◌∙◌, string_bytes, codes, rules, arith}
use Rattle.std.specs.List.{position_or_len, before_first, after_first}
use Rattle.std.specs.Result.{OnOk}
use Rattle.acpi_text.specs.Comment.{comment}
use Rattle.acpi_text.proofs.Comments.{comment_goes_on, one_comment}
use Rattle.acpi_text.proofs.comment.push_comment.Goals as goal

pub lines-preserved : goal.lines-preserved
lines-preserved c =
    let cut : (c.in-Some.line.now ≡ before_first (λ b. b == 10) c.lines.rest.now) × (c.in-Some.more.now ≡ after_first (λ b. b == 10) c.lines.rest.now) × (position_or_len (λ b. b == 10) c.lines.rest.now < length c.lines.rest.now) = search rules in
    (search rules, comment_goes_on c.lines.rest.now c.in-Some.line.now c.in-Some.more.now _ _ _ cut.0 cut.1 cut.2 c.in_ok-push_line.ensures c.lines.invariant.1)

pub returns : goal.returns
returns c =
    let whole : position_or_len (λ b. b == 10) c.lines.rest.now ≡ length c.lines.rest.now = search rules in
    let some : 0 < length c.lines.rest.now = grind (arith, c.is_empty.ensures, c.if-is_empty.false) in
    let is : comment c.lines.rest.now ≡ codes "// " ++ (c.lines.rest.now ++ 10 ∷ []) = one_comment c.lines.rest.now whole some in
    let P = λ (l : List ℕ). OnOk c.push_line-2.result (string_bytes c.push_line-2.new.text ≡ l) in
    subst P (ap (λ (l : List ℕ). string_bytes c.lines.text ++ l) (sym is) ∙ c.lines.invariant.1) c.push_line-2.ensures
