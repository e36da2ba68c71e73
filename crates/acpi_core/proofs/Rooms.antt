-- Bytes after those that are held.
use Rattle.std.proofs.Common.{◌≡◌, ◌+◌, ◌≤◌, ℕ, List, ◌++◌, length, take, drop, ap, sym, ◌∙◌, arith}
use Rattle.std.proofs.Math.Seq.{take-append-add, take-append_seam}
use Rattle.std.proofs.lemmas.List.{length-take-le}
use Rattle.acpi_base.specs.Bytes.{put}

-- what is put after the first bytes stands after them
pub take_put : (n : ℕ) (e b : List ℕ) → n + length e ≤ length b → take (n + length e) (put n e b) ≡ take n b ++ e
unfolding put
take_put n e b room =
    let front : length (take n b) ≡ n = length-take-le n b (omega (arith, room)) in
    ap (λ k. take (k + length e) (take n b ++ (e ++ drop (n + length e) b))) (sym front)
    ∙ take-append-add (take n b) (e ++ drop (n + length e) b) (length e)
    ∙ ap (λ l. take n b ++ l) (take-append_seam e (drop (n + length e) b))
