use Rattle.std.proofs.Common.{◌∷◌, ap, List, ℕ}
use Rattle.acpi_text.proofs.Digits.{eight_bytes}
use Rattle.acpi_text.proofs.hex.qword_text.Goals as goal

pub returns : goal.returns
returns c =
    rw (c.high.ensures, c.low.ensures, c.high-2.ensures, c.low-2.ensures, c.high-3.ensures, c.low-3.ensures, c.high-4.ensures, c.low-4.ensures, c.high-5.ensures, c.low-5.ensures, c.high-6.ensures, c.low-6.ensures, c.high-7.ensures, c.low-7.ensures, c.high-8.ensures, c.low-8.ensures)
    (ap (λ (l : List ℕ). 32 ∷ l) (eight_bytes c.args.bytes.now c.requires))
