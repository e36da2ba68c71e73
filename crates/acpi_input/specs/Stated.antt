-- The numbers of arguments that words state.
use Rattle.std.specs.Prelude.{◌≡◌, ℕ, ◌-◌, ◌==◌, ◌&&◌, nat_le, if◌then◌else◌, List, [], ◌∷◌, Option, Some, None}
use Rattle.std.specs.List.{before_first, after_first}
use Rattle.std.specs.Option.{option_map}
use Rattle.acpi_term.specs.Arity.{are_arities}
use Rattle.acpi_term.specs.PathText.{is_name_text, path_spelling}
use Rattle.acpi_input.specs.declared.stated.Unstated.{Unstated}
use Rattle.acpi_input.specs.declared.stated.Unstated.TheVariants.{Word, Memory}

-- a number of arguments: one digit from `0` to `7`
abbrev pub argument_count : List ℕ → Option ℕ
argument_count (b ∷ []) = if nat_le 48 b && nat_le b 55 then Some (b - 48) else None
argument_count _ = None

-- the name and the number of a word `NAME=N`, cut at its first `=`: the bytes that spell the name, and the number
abbrev pub stated_by : List ℕ → Option (List ℕ × ℕ)
stated_by word =
    if is_name_text (before_first (λ b. b == 61) word)
    then option_map (λ n. (path_spelling (before_first (λ b. b == 61) word), n))
    (argument_count (after_first (λ b. b == 61) word))
    else None

abbrev pub joined : Option (List ℕ × ℕ) → Option (List (List ℕ × ℕ)) → Option (List (List ℕ × ℕ))
joined (Some a) (Some all) = Some (a ∷ all)
joined _ _ = None

-- the names and numbers of words, or nothing if one of the words has none
abbrev pub all_stated : List (List ℕ) → Option (List (List ℕ × ℕ))
all_stated [] = Some []
all_stated (word ∷ words) = joined (stated_by word) (all_stated words)

abbrev pub fitting : Option (List (List ℕ × ℕ)) → Option (List (List ℕ × ℕ))
fitting None = None
fitting (Some all) = if are_arities all then Some all else None

-- the names and numbers of words, or nothing, also if a name is there twice
abbrev pub stated : List (List ℕ) → Option (List (List ℕ × ℕ))
stated words = fitting (all_stated words)

-- it is because of a word, and then the fact holds, or memory ran out
abbrev pub IsUnstatedWhere : Type 0 → Unstated → Type 0
IsUnstatedWhere fact Word = fact
IsUnstatedWhere fact Memory = Unit {0}
