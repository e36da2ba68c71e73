use Rattle.std.proofs.Common.{◌*◌, ◌∙◌, ap, get_or, ℕ, List}
use Rattle.acpi_text.proofs.Offsets.{pair_at}
use Rattle.acpi_text.proofs.offset.tens.Goals as goal

pub returns : goal.returns
returns c =
    ap (λ (l : List ℕ). get_or l (2 * c.args.n) 0) c.as_bytes.ensures.value
    ∙ (pair_at c.args.n c.requires).0
