use Rattle.std.proofs.Common.{◌+◌, ◌*◌, ◌∙◌, ap, get_or, ℕ, List, arith}
use Rattle.acpi_text.proofs.Digits.{digits_at}
use Rattle.acpi_text.specs.declared.hex.TheConstants.{DIGITS}
use Rattle.acpi_text.proofs.hex.low.Goals as goal

pub returns : goal.returns
returns c =
    ap (λ (l : List ℕ). get_or l (2 * c.from.result + 1) 0) c.as_bytes.ensures.value
    ∙ ap (λ n. get_or DIGITS.now (2 * n + 1) 0) c.from.ensures ∙ (digits_at c.args.byte (omega arith)).1
