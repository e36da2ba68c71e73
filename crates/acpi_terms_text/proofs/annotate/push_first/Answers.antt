use Rattle.std.proofs.Common.{◌≡◌, ◌<◌, ◌==◌, length, rules}
use Rattle.std.specs.List.{position_or_len, before_first, after_first}
use Rattle.acpi_terms_text.proofs.Woven.{first_added, nothing_added}
use Rattle.acpi_terms_text.proofs.annotate.push_first.Goals as goal

pub returns-in_default : goal.returns-in_default
returns-in_default c =
    let whole : position_or_len (λ b. b == 10) c.args.lines.now ≡ length c.args.lines.now = search rules in
    nothing_added c.args.lines.now c.args.note.now _ whole

pub returns : goal.returns
returns c =
    let cut : (c.in-Some.line.now ≡ before_first (λ b. b == 10) c.args.lines.now) × (c.in-Some.rest.now ≡ after_first (λ b. b == 10) c.args.lines.now) × (position_or_len (λ b. b == 10) c.args.lines.now < length c.args.lines.now) = search rules in
    first_added c.args.lines.now c.in-Some.line.now c.in-Some.rest.now c.args.note.now _ _ cut.0 cut.1 cut.2 c.in_ok-push_line.ensures
