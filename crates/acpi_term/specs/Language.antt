-- Languages of AML. A grammar is a language, and how many arguments names take.
use Rattle.std.specs.Prelude.{ℕ, Bool, true, false, List}
use Rattle.acpi_term.specs.declared.language.Language.{Language}
use Rattle.acpi_term.specs.declared.language.Language.TheVariants.{Written, Standard}

abbrev pub is_standard : Language → Bool
is_standard Written = false
is_standard Standard = true

-- a language has what another has: the standard has all that this library writes
abbrev pub has : Language → Language → Bool
has l Written = true
has l Standard = is_standard l

pub record Grammar : Type 0 where
  pub language : Language
  pub arity : List ℕ → ℕ

abbrev pub grammar_of : Language → (List ℕ → ℕ) → Grammar
grammar_of l count = record { language = l; arity = count }

-- the grammar of what this library writes
abbrev pub written_grammar : (List ℕ → ℕ) → Grammar
written_grammar count = grammar_of Written count
