-- The commands of words.
use Rattle.std.specs.Prelude.{◌≡◌, ◌≢◌, ℕ, List, [], ◌∷◌, Some, None, codes}
use Rattle.acpi_input.specs.Stated.{stated}
use Rattle.acpiread_program.specs.declared.command.Command.{Command}
use Rattle.acpiread_program.specs.declared.command.Command.TheVariants.{Table, Aml, Dsdt}

-- the words are this command
abbrev pub Asks : List (List ℕ) → Command → Type 0
Asks words (Table file) = words ≡ codes "table" ∷ file.now ∷ []
Asks words (Aml file arities) = (named : List (List ℕ)) × (words ≡ codes "aml" ∷ file.now ∷ named) × (stated named ≡ Some arities)
Asks words (Dsdt file arities) = (named : List (List ℕ)) × (words ≡ codes "dsdt" ∷ file.now ∷ named)
    × (stated named ≡ Some arities)

-- the words are no command
pub record IsNoCommand (words : List (List ℕ)) : Type 0 where
  pub no_table : (file : List ℕ) → words ≢ codes "table" ∷ file ∷ []
  pub no_aml : (file : List ℕ) (named : List (List ℕ)) → words ≡ codes "aml" ∷ file ∷ named → stated named ≡ None
  pub no_dsdt : (file : List ℕ) (named : List (List ℕ)) → words ≡ codes "dsdt" ∷ file ∷ named → stated named ≡ None
