-- The terms that are read from bytes.
use Rattle.std.specs.Prelude.{ℕ, ◌<◌, ◌≤◌, List, length}
use Rattle.acpi_term.specs.declared.mode.Mode.TheVariants.{Term}
use Rattle.acpi_term.specs.declared.read_error.ReadError.{ReadError}
use Rattle.acpi_term.specs.declared.read_error.ReadError.TheVariants as errors
use Rattle.acpi_term.specs.Language.{Grammar, written_grammar}
use Rattle.acpi_term.specs.Tree.{Terms, depth}
use Rattle.acpi_term.specs.Spelling.{SpellsIn}

-- The bytes spell these terms, which are nested at most `MAX_DEPTH` deep.
pub record AreReadIn (g : Grammar) (bytes : List ℕ) (ts : Terms) : Type 0 where
  pub spelled : SpellsIn g Term bytes ts
  pub shallow : depth ts ≤ 255

-- The bytes spell terms that are nested too deep, or no terms. The offset is at most the number of bytes.
pub record AreTooDeep (g : Grammar) (bytes : List ℕ) (offset : ℕ) : Type 0 where
  pub within : offset ≤ length bytes
  pub deep : (ts : Terms) → SpellsIn g Term bytes ts → 255 < depth ts

-- The bytes spell no terms of any depth.
pub record AreRefused (g : Grammar) (bytes : List ℕ) (offset : ℕ) : Type 0 where
  pub within : offset ≤ length bytes
  pub no_terms : (ts : Terms) → SpellsIn g Term bytes ts → ⊥

-- why bytes can't be read; `Memory` says nothing about them
abbrev pub IsUnreadIn : Grammar → List ℕ → ReadError → Type 0
IsUnreadIn g bytes errors.Memory = Unit {0}
IsUnreadIn g bytes (errors.TooDeep offset) = AreTooDeep g bytes offset
IsUnreadIn g bytes (errors.Truncated offset) = AreRefused g bytes offset
IsUnreadIn g bytes (errors.Opcode offset) = AreRefused g bytes offset
IsUnreadIn g bytes (errors.Length offset) = AreRefused g bytes offset
IsUnreadIn g bytes (errors.Count offset) = AreRefused g bytes offset
IsUnreadIn g bytes (errors.Flags offset) = AreRefused g bytes offset
IsUnreadIn g bytes (errors.Text offset) = AreRefused g bytes offset
IsUnreadIn g bytes _ = ⊥

-- ---- the same in the language that this library writes

abbrev pub AreRead : (List ℕ → ℕ) → List ℕ → Terms → Type 0
AreRead arity bytes ts = AreReadIn (written_grammar arity) bytes ts

abbrev pub IsUnread : (List ℕ → ℕ) → List ℕ → ReadError → Type 0
IsUnread arity bytes e = IsUnreadIn (written_grammar arity) bytes e
