-- Runs of characters that leave a state as it is.
use Rattle.std.specs.Prelude.{◌≡◌, ℕ, ◌==◌, nat_le, ◌&&◌, not, Bool, if◌then◌else◌, List, [], ◌∷◌}
use Rattle.acpi_make.specs.Meaning.{read}
use Rattle.acpi_make.specs.declared.state.State.{State}

-- whether a character of ASCII prints, and isn't this one
abbrev pub is_plain : ℕ → ℕ → Bool
is_plain end c = nat_le 32 c && nat_le c 126 && not (c == end)

-- what stands after the plain characters that a text begins with
abbrev pub after_plain : ℕ → List ℕ → List ℕ
after_plain end [] = []
after_plain end (c ∷ text) = if is_plain end c then after_plain end text else c ∷ text

-- From this state on the two texts have the same parts, whatever number is being read.
abbrev pub MeansSame : State → List ℕ → List ℕ → Type 0
MeansSame state text rest = (number : List ℕ) → read state number text ≡ read state number rest
