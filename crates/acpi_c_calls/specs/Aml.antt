-- Bytes that spell terms, and how many arguments names take by a text.
use Rattle.std.specs.Prelude.{◌≡◌, ◌⊎◌, ℕ, ◌==◌, if◌then◌else◌, List, [], ◌∷◌, Some}
use Rattle.std.specs.Str.{IsUtf8}
use Rattle.acpi_read.specs.Terms.{AreReadIn, IsUnreadIn}
use Rattle.acpi_term.specs.Arity.{grammar_by}
use Rattle.acpi_term.specs.Tree.{Terms}
use Rattle.acpi_term.specs.declared.language.Language.TheVariants.{Standard}
use Rattle.acpi_term.specs.declared.read_error.ReadError.{ReadError}
use Rattle.acpi_input.specs.Stated.{stated}
use Rattle.acpi_c_calls.specs.Refused.{by_memory, by_read}
use Rattle.acpi_c_calls.specs.declared.fault.Fault.TheVariants.{Arities}
use Rattle.acpi_c_calls.specs.declared.refused.Refused.{Refused}

-- ---- the numbers of arguments

-- words with a byte before the first
abbrev pub begun : ℕ → List (List ℕ) → List (List ℕ)
begun b [] = (b ∷ []) ∷ []
begun b (word ∷ words) = (b ∷ word) ∷ words

-- the words of a text, each of which ends at a space or with the text
abbrev pub words : List ℕ → List (List ℕ)
words [] = []
words (b ∷ text) = if b == 32 then [] ∷ words text else begun b (words text)

-- a text in UTF-8 states these numbers of arguments, by words `NAME=N`
pub record AreStated (text : List ℕ) (arities : List (List ℕ × ℕ)) : Type 0 where
  pub is_text : IsUtf8 text
  pub are : stated (words text) ≡ Some arities

-- a text states no numbers of arguments, or memory ran out
abbrev pub AreNotStated : List ℕ → Refused → Type 0
AreNotStated text refused =
    (refused ≡ by_memory)
    ⊎ ((refused ≡ record { fault = Arities; place = 0 }) × ((arities : List (List ℕ × ℕ)) → ¬ AreStated text arities))

-- ---- terms

-- bytes spell terms, if names take these numbers of arguments
abbrev pub SpellTerms : List (List ℕ × ℕ) → List ℕ → Type 0
SpellTerms arities bytes = (terms : Terms) × AreReadIn (grammar_by Standard arities) bytes terms

-- why bytes spell no terms that can be read
pub record IsTermsRefusal (arities : List (List ℕ × ℕ)) (bytes : List ℕ) (refused : Refused) : Type 0 where
  pub error : ReadError
  pub is : refused ≡ by_read error
  pub why : IsUnreadIn (grammar_by Standard arities) bytes error

-- the text states numbers of arguments, and with these the bytes spell terms
pub record AreTerms (text bytes : List ℕ) : Type 0 where
  pub arities : List (List ℕ × ℕ)
  pub stated : AreStated text arities
  pub spelled : SpellTerms arities bytes

-- the text states numbers of arguments, and with these the bytes spell no terms
pub record AreNoTerms (text bytes : List ℕ) (refused : Refused) : Type 0 where
  pub arities : List (List ℕ × ℕ)
  pub stated : AreStated text arities
  pub why : IsTermsRefusal arities bytes refused

abbrev pub IsAmlRefusal : List ℕ → List ℕ → Refused → Type 0
IsAmlRefusal text bytes refused = AreNotStated text refused ⊎ AreNoTerms text bytes refused
