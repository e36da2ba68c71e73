use Rattle.std.proofs.Common.{ℕ, ◌/◌, ◌%◌, [], ◌∷◌, ◌∙◌, ap, arith}
use Rattle.acpi_text.proofs.Digits.{digit_ascii, pair_added}
use Rattle.acpi_text.proofs.hex.push_hex_byte.Goals as goal

pub returns : goal.returns
returns c =
    let b = c.args.byte in
    let one = c.from.ensures ∙ c.high.ensures in
    let two = c.from-2.ensures ∙ c.low.ensures in
    pair_added b _ _ _ _ _ c.in_ok-push.ensures.bytes
    (c.in_ok-push.ensures.ascii (omega (arith, one, digit_ascii (b / 16) (omega arith))) ∙ ap (λ (d : ℕ). d ∷ []) one)
    c.in_ok-push-2.ensures.bytes
    (c.in_ok-push-2.ensures.ascii (omega (arith, two, digit_ascii (b % 16) (omega arith))) ∙ ap (λ (d : ℕ). d ∷ []) two)
