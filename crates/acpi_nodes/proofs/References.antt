-- References to nodes, read back from a node's bytes.
use Rattle.std.proofs.Common.{◌≡◌, ℕ, ◌+◌, ◌<◌, ◌^◌, List, [], ◌++◌, length, take, drop, sym, ap, ◌∙◌, append_assoc, arith, length-append}
use Rattle.std.proofs.lemmas.List.{append-nil, take_at, drop_at}
use Rattle.acpi_base.specs.Bytes.{le, carried, field_at}
use Rattle.acpi_base.proofs.Bytes.{carried_le, length_le}

-- a number at the end of a node, after its head and other numbers
pub last_number : (head before : List ℕ) (at w n : ℕ) → length head + length before ≡ at → n < 256 ^ w → field_at at w (head ++ (before ++ le w n)) ≡ n
last_number head before at w n is small =
    let front = head ++ before in
    ap (field_at at w) (sym (append_assoc head before (le w n)))
    ∙ ap (λ l. carried (take w l)) (drop_at front (le w n) at (length-append head before ∙ is))
    ∙ ap (λ l. carried (take w l)) (sym (append-nil (le w n)))
    ∙ ap carried (take_at (le w n) [] w (length_le w n))
    ∙ carried_le w n small
