-- The groups in which the digits of a line stand.
use Rattle.std.specs.Prelude.{ℕ, ◌+◌, ◌-◌, ◌==◌, nat_lt, not, ◌&&◌, ◌||◌, Bool, true, false, if◌then◌else◌}
use Rattle.std.specs.Prelude.{List, [], ◌∷◌, length, take, drop, Option, Some, None}
use Rattle.acpi_base.specs.Digit.{digit_value}
use Rattle.acpi_make.specs.Entry.{next_number}
use Rattle.acpi_make.specs.Text.{is_white, if_some}
use Rattle.acpi_make.specs.declared.groups.Scan.{Scan}

-- how many groups there are, and how many digits the largest of them has
abbrev pub Groups : Type 0
Groups = ℕ × ℕ

abbrev pub greater : ℕ → ℕ → ℕ
greater a b = if nat_lt a b then b else a

-- What is known of the groups of a value up to a character: how many digits the last group has, so far, how many groups there
-- are, how many digits the largest of them has, and whether a digit isn't 0.
abbrev pub no_digits : Scan
no_digits = record { digits = 0; count = 0; largest = 0; any = false }

-- with white space
abbrev pub with_space : Scan → Scan
with_space scan = record { digits = 0; count = scan.count; largest = scan.largest; any = scan.any }

-- with a further digit
abbrev pub with_digit : Scan → ℕ → Scan
with_digit scan digit = record {
  digits = next_number scan.digits;
  count = if scan.digits == 0 then next_number scan.count else scan.count;
  largest = greater scan.largest (next_number scan.digits);
  any = scan.any || not (digit == 0);
}

-- with a further character, which is a digit or white space
abbrev pub with_character : Scan → ℕ → Option Scan
with_character scan c =
    if is_white c then Some (with_space scan) else if_some (digit_value c) (λ digit. Some (with_digit scan digit))

-- whether a value ends: at the end of its line, or at a comment
abbrev pub is_end : ℕ → Bool
is_end c = c == 10 || c == 47

-- The groups of a whole value. The order of zeros alone says nothing.
abbrev pub all_groups : Scan → Option Groups
all_groups scan = if scan.any then Some (scan.count, scan.largest) else None

-- the groups of characters that are digits and white space alone
abbrev pub groups_from : Scan → List ℕ → Option Groups
groups_from scan [] = all_groups scan
groups_from scan (c ∷ text) = if_some (with_character scan c) (λ next. groups_from next text)

-- how many characters a value has before its end
abbrev pub value_size : List ℕ → ℕ
value_size [] = 0
value_size (c ∷ text) = if is_end c then 0 else 1 + value_size text

-- the groups of a value, if it has digits alone
abbrev pub groups_in : List ℕ → Option Groups
groups_in value = groups_from no_digits (take (value_size value) value)

-- the groups after the name of a line, which a colon ends
abbrev pub after_colon : List ℕ → Option Groups
after_colon [] = None
after_colon (c ∷ value) = if c == 58 then groups_in value else None

-- the groups of a line whose name ends at a place
abbrev pub groups_at : ℕ → List ℕ → Option Groups
groups_at to text = after_colon (drop (length text - to) text)

-- whether digits stand in the same groups, if both lines have them
abbrev pub are_same_groups : Option Groups → Option Groups → Bool
are_same_groups (Some one) (Some other) = one.0 == other.0 && one.1 == other.1
are_same_groups (Some one) None = true
are_same_groups None other = true

-- how many digits the largest group has
abbrev pub largest_of : Option Groups → ℕ
largest_of (Some groups) = groups.1
largest_of None = 0
