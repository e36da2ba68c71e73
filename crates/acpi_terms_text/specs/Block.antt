-- The terms of a definition block (ACPI 6.5, 5.2.11 and 5.3).
use Rattle.std.specs.Prelude.{◌≡◌, ◌⊎◌, ℕ, List}
use Rattle.acpi_read.specs.InPart.{AreReadInPart}
use Rattle.acpi_read.specs.Terms.{AreReadIn, IsUnreadIn}
use Rattle.acpi_term.specs.Arity.{grammar_by}
use Rattle.acpi_term.specs.Tree.{Terms}
use Rattle.acpi_term.specs.declared.language.Language.TheVariants.{Standard}
use Rattle.acpi_term.specs.declared.read_error.ReadError.{ReadError}
use Rattle.acpi_term.specs.declared.read_error.ReadError.TheVariants.{Memory}
use Rattle.acpi_terms_text.specs.Objects.{Callee, AreOwn}
use Rattle.acpi_terms_text.specs.Scoped.{AreInScopes}

-- The bytes are those of these terms. Names take the stated numbers of arguments, or else those of the objects of the block and
-- of further blocks: in a method those of the nearest ones.
pub record AreBlockTerms (stated : List (List ℕ × ℕ)) (further : List Callee) (bytes : List ℕ) (terms : Terms) : Type 0 where
  pub own : List (List ℕ × ℕ)
  pub methods : AreOwn stated further bytes own
  pub whole : Terms
  pub read : AreReadIn (grammar_by Standard own) bytes whole
  pub scoped : AreInScopes stated further own whole terms

-- The same of the terms that can be read.
pub record AreBlockTermsInPart (stated : List (List ℕ × ℕ)) (further : List Callee) (bytes : List ℕ) (terms : Terms)
    : Type 0 where
  pub own : List (List ℕ × ℕ)
  pub methods : AreOwn stated further bytes own
  pub whole : Terms
  pub read : AreReadInPart (grammar_by Standard own) bytes whole
  pub scoped : AreInScopes stated further own whole terms

-- Why bytes aren't terms with these numbers, or memory ran out.
pub record AreNoTerms (stated : List (List ℕ × ℕ)) (further : List Callee) (bytes : List ℕ) (error : ReadError) : Type 0 where
  pub own : List (List ℕ × ℕ)
  pub methods : (error ≡ Memory) ⊎ AreOwn stated further bytes own
  pub unread : IsUnreadIn (grammar_by Standard own) bytes error
