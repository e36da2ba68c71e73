-- What is derived for a type.
use Rattle.std.specs.Prelude.{◌≡◌, ◌↔◌, Bool, IsTrue}

-- two values are equal if and only if they are the same
abbrev pub IsEquality : {T : Type 0} → (T → T → Bool) → Type 0
IsEquality {T} eq = (a b : T) → IsTrue (eq a b) ↔ (a ≡ b)

-- this value alone is a default
abbrev pub IsDefault : {T : Type 0} → (T → Type 0) → T → Type 0
IsDefault {T} is_default value = (v : T) → is_default v → v ≡ value
