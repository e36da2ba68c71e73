-- Structures, one after another.
use Rattle.std.specs.Prelude.{◌≡◌, ℕ, zero, suc, ◌+◌, ◌≤◌, List, ◌++◌, length, take, drop, Option, Some, None}
use Rattle.acpi_text.specs.Form.{parts_slots}
use Rattle.acpi_text.specs.Slot.{nameless, slots_text}
use Rattle.acpi_text.specs.declared.form.Part.{Part}

-- how long the structure is with which bytes begin, if one does
abbrev pub SizeOf : Type 0
SizeOf = List ℕ → Option ℕ

-- what is made of bytes at an offset: a text, fields, ..
abbrev pub OfBytes : Type 0 → Type 0
OfBytes X = ℕ → List ℕ → List X

abbrev pub TextOf : Type 0
TextOf = OfBytes ℕ

-- what is made of one structure of this size, and of what comes after it; or of bytes with which none begins
abbrev pub piece_and : {X : Type 0} → Option ℕ → OfBytes X → OfBytes X → OfBytes X → ℕ → List ℕ → List X
piece_and {X} (Some size) one others none at bytes = one at (take size bytes) ++ others (at + size) (drop size bytes)
piece_and {X} None one others none at bytes = none at bytes

-- what is made of n structures, and of what comes after them; or of those that there are, and of bytes with which none begins
abbrev pub pieces_then : {X : Type 0} → ℕ → SizeOf → OfBytes X → OfBytes X → OfBytes X → ℕ → List ℕ → List X
pieces_then {X} zero size one none after at bytes = after at bytes
pieces_then {X} (suc n) size one none after at bytes =
    piece_and (size bytes) one (λ k rest. pieces_then n size one none after k rest) none at bytes

-- As many structures as stand one after another. What is left has no names. Each structure has a byte at least.
abbrev pub pieces_text : SizeOf → TextOf → ℕ → List ℕ → List ℕ
pieces_text size one at bytes = pieces_then (length bytes) size one nameless nameless at bytes

-- what is made of the bytes before an index, and of those from there on
abbrev pub front_then : {X : Type 0} → OfBytes X → ℕ → OfBytes X → ℕ → List ℕ → List X
front_then {X} first start others at bytes =
    let front = take start bytes in
    first at front ++ others (at + length front) (drop start bytes)

abbrev pub parts_text : List Part → TextOf
parts_text parts at piece = slots_text at (parts_slots 0 at piece parts) piece

-- what n structures have was added, and it is that of the first k of the bytes
pub record PiecesShowed {X : Type 0} (n : ℕ) (size : SizeOf) (one none : OfBytes X)
    (at : ℕ) (bytes : List ℕ) (old new : List X) (k : ℕ) : Type 0 where
  pub within : k ≤ length bytes
  pub more : (after : OfBytes X) → old ++ pieces_then n size one none after at bytes ≡ new ++ after (at + k) (drop k bytes)

-- what all bytes have was added, since there are fewer structures
abbrev pub AllShowed : {X : Type 0} → ℕ → SizeOf → OfBytes X → OfBytes X → ℕ → List ℕ → List X → List X → Type 0
AllShowed {X} n size one none at bytes old new =
    (after : OfBytes X) → old ++ pieces_then n size one none after at bytes ≡ new
