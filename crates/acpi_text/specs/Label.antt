-- Names, and bytes that print.
use Rattle.std.specs.Prelude.{ℕ, ◌==◌, nat_le, not, ◌&&◌, Bool, true, if◌then◌else◌, List, [], ◌∷◌, codes}

-- whether a byte prints
abbrev pub prints : ℕ → Bool
prints b = nat_le 32 b && nat_le b 126

abbrev pub all_print : List ℕ → Bool
all_print [] = true
all_print (b ∷ bytes) = prints b && all_print bytes

-- whether all bytes print, and none is a colon
abbrev pub is_label : List ℕ → Bool
is_label [] = true
is_label (b ∷ name) = (prints b && not (b == 58)) && is_label name

-- a name, or a question mark where it can't stand in a line
abbrev pub label : List ℕ → List ℕ
label name = if is_label name then name else codes "?"
