use Rattle.std.proofs.Common.{◌≡◌, ◌+◌, ◌-◌, ◌*◌, ◌++◌, sym, ap, ◌∙◌, append-nil, string_bytes, arith}
use Rattle.acpi_text.specs.Line.{spaces}
use Rattle.acpi_text.proofs.Spaces.{level_added}
use Rattle.acpi_text.proofs.space.push_level.Goals as goal

pub levels-preserved : goal.levels-preserved
levels-preserved c =
    level_added (2 * (c.levels.left - 1)) _ _ c.in_ok-push_str.ensures.bytes
    ∙ ap (λ n. string_bytes c.levels.text ++ spaces n) (let e : 2 * (c.levels.left - 1) + 2 ≡ 2 * c.levels.left = omega arith in e)
    ∙ c.levels.invariant

pub returns : goal.returns
returns c =
    sym (append-nil (string_bytes c.levels.text))
    ∙ ap (λ n. string_bytes c.levels.text ++ spaces n) (let e : 0 ≡ 2 * c.levels.left = omega arith in e)
    ∙ c.levels.invariant
