-- Texts without the offsets at the front of their lines.
use Rattle.std.specs.Prelude.{ℕ, ◌+◌, ◌-◌, ◌==◌, nat_le, not, ◌&&◌, Bool, if◌then◌else◌}
use Rattle.std.specs.Prelude.{List, [], ◌∷◌, ◌++◌, take, drop}
use Rattle.acpi_text.specs.Line.{spaces}
use Rattle.acpitool_program.specs.declared.offsets.Front.{Front}
use Rattle.acpitool_program.specs.declared.offsets.Front.TheVariants.{Spaces, Digits, Name}

-- whether a byte is a space, a decimal digit, or one before a colon
abbrev pub is_of : Front → ℕ → Bool
is_of Spaces c = c == 32
is_of Digits c = nat_le 48 c && nat_le c 57
is_of Name c = not (c == 58)

-- how many of these a line begins with
abbrev pub front_size : Front → List ℕ → ℕ
front_size kind [] = 0
front_size kind (c ∷ line) = if is_of kind c then 1 + front_size kind line else 0

-- How many bytes a name has without the spaces after it. `n` bytes were before, and `size` without the spaces after them.
abbrev pub name_size : ℕ → ℕ → List ℕ → ℕ
name_size n size [] = size
name_size n size (c ∷ name) = name_size (n + 1) (if c == 32 then size else n + 1) name

-- what stands after digits and a space
abbrev pub after_digits : List ℕ → List ℕ
after_digits text = drop (front_size Digits text + 1) text

-- a name, the numbers after its colon, and spaces between, so that the colon of a line that begins with `indent` spaces is in
-- column 40, or after a longer name
abbrev pub with_numbers : ℕ → List ℕ → List ℕ → List ℕ
with_numbers indent name [] = name
with_numbers indent name (c ∷ numbers) =
    take (name_size 0 0 name) name ++ (spaces ((40 - indent) - name_size 0 0 name) ++ c ∷ numbers)

-- what stands after an offset
abbrev pub aligned : ℕ → List ℕ → List ℕ
aligned indent named = with_numbers indent (take (front_size Name named) named) (drop (front_size Name named) named)

-- A line without its offset: the spaces before the offset, and what stands after it. A line without an offset stays as it is.
abbrev pub bare_line : List ℕ → List ℕ
bare_line line =
    let n = front_size Spaces line in
    if front_size Digits (drop n line) == 0 then line else take n line ++ aligned n (after_digits (drop n line))

-- The text without the offsets of its lines. `line` is what stands before the text in its first line.
abbrev pub without_offsets : List ℕ → List ℕ → List ℕ
without_offsets line [] = bare_line line
without_offsets line (c ∷ text) =
    if c == 10 then bare_line line ++ 10 ∷ without_offsets [] text else without_offsets (line ++ c ∷ []) text
