-- Tables with a header and a checksum.
use Rattle.std.proofs.Common.{◌≡◌, ℕ, ◌+◌, ◌≤◌, List, [], ◌∷◌, ◌++◌, length, refl, ap, ◌∙◌}
use Rattle.std.specs.Prelude.{sum}
use Rattle.std.proofs.lemmas.List.{append-nil}
use Rattle.acpi_base.specs.Bytes.{le, put, complement}
use Rattle.acpi_base.specs.Table.{with_checksum}
use Rattle.acpi_base.proofs.Puts.{put-put}
use Rattle.test_support.specs.Expected.{makers, expected}

-- a checksum that is cleared and then set
pub checksum_set : (old cleared new : List ℕ) (k : ℕ) → 10 ≤ length old → cleared ≡ put 9 (0 ∷ []) old → k ≡ complement (sum cleared)
    → new ≡ put 9 (k ∷ []) cleared → new ≡ with_checksum old
checksum_set old cleared new k long is value set =
    let is_k : k ≡ complement (sum (put 9 (0 ∷ []) old)) = value ∙ ap (λ (l : List ℕ). complement (sum l)) is in
    set
    ∙ ap (λ (n : ℕ). put 9 (n ∷ []) cleared) is_k
    ∙ ap (put 9 (complement (sum (put 9 (0 ∷ []) old)) ∷ [])) is
    ∙ put-put 9 (complement (sum (put 9 (0 ∷ []) old)) ∷ []) (0 ∷ []) old refl long

-- the parts of a table, joined and with a checksum
pub table_is : (signature size body parts before after : List ℕ) (revision n : ℕ) → body ≡ parts → n ≡ 36 + length body → size ≡ le 4 n
    → before ≡ signature ++ (size ++ (revision ∷ 0 ∷ (makers ++ (body ++ [])))) → after ≡ with_checksum before
    → after ≡ expected signature revision parts
table_is signature size body parts before after revision n same long told is sealed =
    sealed
    ∙ ap with_checksum
    (is
    ∙ ap (λ (l : List ℕ). signature ++ (l ++ (revision ∷ 0 ∷ (makers ++ (body ++ []))))) (told ∙ ap (le 4) long)
    ∙ ap (λ (l : List ℕ). signature ++ (le 4 (36 + length body) ++ (revision ∷ 0 ∷ (makers ++ l)))) (append-nil body))
    ∙ ap (expected signature revision) same

-- the parts of a table of equal structures
pub many_are : (signature fixed copies all bytes : List ℕ) (revision : ℕ) → bytes ≡ expected signature revision (fixed ++ (copies ++ []))
    → copies ≡ all → bytes ≡ expected signature revision (fixed ++ all)
many_are signature fixed copies all bytes revision is same =
    is ∙ ap (λ (l : List ℕ). expected signature revision (fixed ++ l)) (append-nil copies ∙ same)
