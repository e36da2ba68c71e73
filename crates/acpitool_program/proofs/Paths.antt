-- The paths of files.
use Rattle.std.proofs.Common.{◌≡◌, ℕ, ◌++◌, List, [], ◌∷◌, Bool, true, false, if◌then◌else◌, map, slice_index_or, nat_eq, ap, refl, ◌∙◌, append_assoc, codes, arith}
use Rattle.std.proofs.lemmas.Bool.Decides.{nat_tests}
use Rattle.std.specs.List.{starts_with}
use Rattle.acpi_read.specs.Report.{printable}
use Rattle.acpi_tree.specs.Image.{letter}
use Rattle.acpitool_program.specs.Unpacking.{stem, count, number, path_of}

letter_prints : (c : ℕ) → printable (letter c) ≡ letter c
letter_prints c = grind (arith, nat_tests)

-- letters print as they are
pub stem_prints : (table : List ℕ) → map printable (stem table) ≡ stem table
stem_prints table =
    elim (starts_with nat_eq table (codes "RSD ")) as (λ (b : Bool).
    map printable (if b then codes "RSDP" else map (λ i. letter (slice_index_or table i 95)) (0 ∷ 1 ∷ 2 ∷ 3 ∷ []))
    ≡ (if b then codes "RSDP" else map (λ i. letter (slice_index_or table i 95)) (0 ∷ 1 ∷ 2 ∷ 3 ∷ []))) [
      | true ↦ refl
      | false ↦ rw (letter_prints (slice_index_or table 0 95), letter_prints (slice_index_or table 1 95), letter_prints (slice_index_or table 2 95), letter_prints (slice_index_or table 3 95)) refl
    ]

pub path_is : (folder table a b d e f : List ℕ) (earlier : List (List ℕ)) → a ≡ folder → b ≡ a ++ codes "/" → d ≡ b ++ map printable (stem table)
    → e ≡ d ++ number (count (stem table) earlier) → f ≡ e ++ codes ".aml" → f ≡ path_of folder earlier table
path_is folder table a b d e f earlier one two three four five =
    let n = number (count (stem table) earlier) in
    five
    ∙ ap (λ l. l ++ codes ".aml") (four ∙ ap (λ l. l ++ n) (three ∙ ap (λ l. l ++ map printable (stem table)) (two ∙ ap (λ l. l ++ codes "/") one)
    ∙ ap (λ l. (folder ++ codes "/") ++ l) (stem_prints table)))
    ∙ simp append_assoc
