use Rattle.std.proofs.Common.{ℕ, ◌++◌, [], ◌∷◌, sym, ap, ◌∙◌, arith}
use Rattle.acpi_dump.specs.Line.{bytes_in}
use Rattle.acpi_dump.proofs.Bytes.{one_more, no_byte, none_left, stops}
use Rattle.acpi_dump.proofs.line.push_bytes.Goals as goal

pub bytes-preserved : goal.bytes-preserved
bytes-preserved c =
    one_more c.bytes.left _ c.bytes.rest.now c.bytes.table.items _ _ (omega arith)
    (sym c.is_byte.ensures ∙ c.if-is_byte.true)
    (c.in_ok-push.ensures.items ∙ ap (λ (b : ℕ). c.bytes.table.items ++ b ∷ [])
    (omega (arith, c.digit.ensures, c.digit-in-bytes.ensures)))
    c.bytes.invariant

pub returns-else-is_byte : goal.returns-else-is_byte
returns-else-is_byte c =
    stops _ _ _ (no_byte c.bytes.left c.bytes.rest.now (sym c.is_byte.ensures ∙ c.if-is_byte.false)) c.bytes.invariant

pub returns-after-bytes : goal.returns-after-bytes
returns-after-bytes c =
    stops _ _ _ (ap (λ (n : ℕ). bytes_in n c.bytes.rest.now) (omega arith) ∙ none_left c.bytes.rest.now) c.bytes.invariant
