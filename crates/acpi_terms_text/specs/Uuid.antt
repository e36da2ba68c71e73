-- The texts of UUIDs (ACPI 6.5, 19.6.142).
use Rattle.std.specs.Prelude.{ℕ, List, [], ◌∷◌, ◌++◌}
use Rattle.acpi_read.specs.Lines.{hex_bytes}

-- The text aabbccdd-eeff-gghh-iijj-kkllmmnnoopp of a buffer whose bytes are dd, cc, bb, aa, ff, ee, hh, gg, ii, jj, kk and so on.
abbrev pub uuid_text : List ℕ → List ℕ
uuid_text (d ∷ c ∷ b ∷ a ∷ f ∷ e ∷ h ∷ g ∷ i ∷ j ∷ node) =
    hex_bytes (a ∷ b ∷ c ∷ d ∷ []) ++ (0x2d ∷ [])
    ++ hex_bytes (e ∷ f ∷ []) ++ (0x2d ∷ [])
    ++ hex_bytes (g ∷ h ∷ []) ++ (0x2d ∷ [])
    ++ hex_bytes (i ∷ j ∷ []) ++ (0x2d ∷ [])
    ++ hex_bytes node
uuid_text _ = []
