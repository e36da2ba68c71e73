-- Strings of AML (ACPI 6.5, 20.2.3, String).
use Rattle.std.specs.Prelude.{ℕ, List, [], ◌∷◌, ◌++◌}

-- StringPrefix, the text and a zero
abbrev pub text : List ℕ → List ℕ
text s = 0x0d ∷ s ++ 0 ∷ []
