-- How many arguments names take.
use Rattle.std.specs.Prelude.{ℕ, ◌&&◌, ◌||◌, not, nat_le, Bool, true, false, if◌then◌else◌, List, [], ◌∷◌, ◌++◌}
use Rattle.std.specs.Str.{bytes_eq}
use Rattle.acpi_term.specs.declared.language.Language.{Language}
use Rattle.acpi_term.specs.declared.language.Language.TheVariants.{Written, Standard}
use Rattle.acpi_term.specs.Language.{Grammar, grammar_of}
use Rattle.acpi_term.specs.Name.{without_parents}

-- whether a list states a number for a name
abbrev pub is_stated : List (List ℕ × ℕ) → List ℕ → Bool
is_stated [] name = false
is_stated (a ∷ all) name = bytes_eq a.0 name || is_stated all name

-- each name once, with a number from 0 to 7 (ACPI 6.5, 20.2.5.2, MethodFlags)
abbrev pub are_arities : List (List ℕ × ℕ) → Bool
are_arities [] = true
are_arities (a ∷ all) = nat_le a.1 7 && not (is_stated all a.0) && are_arities all

-- how many arguments a name takes: none if it isn't listed
abbrev pub arity : List (List ℕ × ℕ) → List ℕ → ℕ
arity [] name = 0
arity (a ∷ all) name = if bytes_eq a.0 name then a.1 else arity all name

-- how many arguments a name takes that may begin with `^`: what is stated for it, or what is for the name without them
abbrev pub arity_above : List (List ℕ × ℕ) → List ℕ → ℕ
arity_above all name = if is_stated all name then arity all name else arity all (without_parents name)

-- how many a name of a language takes: names that begin with `^` are in the standard alone
abbrev pub arity_in : Language → List (List ℕ × ℕ) → List ℕ → ℕ
arity_in Written all = arity all
arity_in Standard all = arity_above all

-- the grammar of a language with these numbers
abbrev pub grammar_by : Language → List (List ℕ × ℕ) → Grammar
grammar_by l all = grammar_of l (arity_in l all)

-- a list with the number of a further name, unless it states one for this name
abbrev pub with_new : List (List ℕ × ℕ) → List ℕ × ℕ → List (List ℕ × ℕ)
with_new all a = if is_stated all a.0 then all else all ++ (a ∷ [])

-- a list with the numbers of further names in order, each unless there is one for its name
abbrev pub with_all : List (List ℕ × ℕ) → List (List ℕ × ℕ) → List (List ℕ × ℕ)
with_all all [] = all
with_all all (a ∷ more) = with_all (with_new all a) more
