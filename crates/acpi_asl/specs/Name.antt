-- Names of ASL (ACPI 6.5, 19.2.2).
use Rattle.std.specs.Prelude.{ℕ, ◌==◌, ◌&&◌, Bool, true, false, if◌then◌else◌, List, [], ◌∷◌, ◌++◌, codes}
use Rattle.std.specs.Str.{bytes_eq}
use Rattle.acpi_read.specs.Lines.{segments_of}
use Rattle.acpi_read.specs.Report.{printable}

-- The characters of a segment. ASL adds underscores to a segment of less than four characters, so those at its end are left out,
-- but for the first character.
abbrev pub fourth : ℕ → List ℕ
fourth d = if d == 95 then [] else printable d ∷ []

abbrev pub third : ℕ → ℕ → List ℕ
third c d = if c == 95 && d == 95 then [] else printable c ∷ fourth d

abbrev pub second : ℕ → ℕ → ℕ → List ℕ
second b c d = if b == 95 && c == 95 && d == 95 then [] else printable b ∷ third c d

-- Segments that keep their underscores: without them they would be words of ASL (ACPI 6.5, 19.2.5 and 19.2.7). All end with one.
abbrev pub kept_segments : List (List ℕ)
kept_segments =
    codes "HZ__" ∷ codes "IF__" ∷ codes "OR__" ∷ codes "ADD_" ∷ codes "AND_" ∷ codes "FOR_" ∷ codes "KHZ_" ∷ codes "LOR_"
    ∷ codes "MEQ_" ∷ codes "MGE_" ∷ codes "MGT_" ∷ codes "MHZ_" ∷ codes "MID_" ∷ codes "MLE_" ∷ codes "MLT_" ∷ codes "MOD_"
    ∷ codes "MTR_" ∷ codes "NOR_" ∷ codes "NOT_" ∷ codes "ONE_" ∷ codes "PCC_" ∷ codes "XOR_" ∷ []

abbrev pub is_among : List (List ℕ) → List ℕ → Bool
is_among [] s = false
is_among (word ∷ words) s = if bytes_eq s word then true else is_among words s

unfoldable pub is_kept : ℕ → ℕ → ℕ → ℕ → Bool
is_kept a b c d = d == 95 && is_among kept_segments (a ∷ b ∷ c ∷ d ∷ [])

abbrev pub pair_text : ℕ → ℕ → List ℕ
pair_text a b = printable a ∷ printable b ∷ []

unfoldable pub segment_text : ℕ → ℕ → ℕ → ℕ → List ℕ
segment_text a b c d = if is_kept a b c d then pair_text a b ++ pair_text c d else printable a ∷ second b c d

abbrev pub dot_text : Bool → List ℕ
dot_text follows = if follows then codes "." else []

-- segments with dots between them, and one before the first if it follows another
abbrev pub segments_text : Bool → List ℕ → List ℕ
segments_text follows (a ∷ b ∷ c ∷ d ∷ rest) =
    dot_text follows ++ segment_text a b c d ++ segments_text true rest
segments_text follows _ = []

-- the text of a name that these bytes spell (ACPI 6.5, 20.2.2)
abbrev pub asl_name : List ℕ → List ℕ
asl_name [] = []
asl_name (b ∷ rest) =
    if b == 92 then 92 ∷ segments_text false (segments_of rest)
    else (if b == 94 then 94 ∷ asl_name rest else segments_text false (segments_of (b ∷ rest)))
