-- Operators whose operands are names.
use Rattle.std.proofs.Common.{◌≡◌, ℕ, List, [], ◌∷◌, ◌++◌, Option, Some, None, Result, Ok, Err, sym, ap, ◌∙◌}
use Rattle.std.proofs.lemmas.List.{append-nil}
use Rattle.acpi_base.specs.Object.{whole, ended}
use Rattle.acpi_base.specs.declared.error.Error.{Error}
use Rattle.acpi_term.specs.Operator.{opcode}
use Rattle.acpi_term.specs.PathText.{parts, unrooted, parts_end, path_spelling, path_of}
use Rattle.acpi_term.specs.Row.{row}
use Rattle.acpi_term.specs.Tree.{op}
use Rattle.acpi_term.specs.declared.op.Op.{Op}
use Rattle.acpi_term.specs.declared.op.Op.TheVariants.{Alias, Event}
use Rattle.acpi_c_calls.specs.Writer.{IsDone, Writes, adds, piece_of}
use Rattle.acpi_c_calls.specs.declared.fault.Fault.{Fault}
use Rattle.acpi_c_calls.specs.declared.state.State.{State}

abbrev Piece : Type 0
Piece = Result (List ℕ) Fault

abbrev name_of : Option Error → List ℕ → Piece
name_of e bytes = piece_of (ended e (whole bytes))

same : (a b : List ℕ) → ◌≡◌ {A = Piece} (Ok a) (Ok b) → a ≡ b
same a b is = cc

one : (o : Op) (e : Option Error) (bytes held : List ℕ) → ◌≡◌ {A = Piece} (Ok held) (name_of e bytes)
    → piece_of (row (op o) (ended e (whole bytes) ∷ [])) ≡ Ok (opcode o ++ held)
one o None bytes held is = ap (λ (l : List ℕ). Ok (opcode o ++ l)) (append-nil bytes ∙ sym (same held bytes is))
one o (Some e) bytes held is = absurd cc

none : (o : Op) (e : Option Error) (bytes : List ℕ) (f : Fault) → ◌≡◌ {A = Piece} (Err f) (name_of e bytes)
    → piece_of (row (op o) (ended e (whole bytes) ∷ [])) ≡ Err f
none o None bytes f is = absurd cc
none o (Some e) bytes f is = sym is

pub of_name : (text held : List ℕ) → ◌≡◌ {A = Piece} (Ok held) (piece_of (path_of text))
    → piece_of (row (op Event) (path_of text ∷ [])) ≡ Ok (0x5b ∷ 0x02 ∷ held)
of_name text held is = one Event (parts_end (parts (unrooted text))) (path_spelling text) held is

pub of_no_name : (text : List ℕ) (f : Fault) → ◌≡◌ {A = Piece} (Err f) (piece_of (path_of text))
    → piece_of (row (op Event) (path_of text ∷ [])) ≡ Err f
of_no_name text f is = none Event (parts_end (parts (unrooted text))) (path_spelling text) f is

two : (o : Op) (e f : Option Error) (a b first second : List ℕ) → ◌≡◌ {A = Piece} (Ok first) (name_of e a)
    → ◌≡◌ {A = Piece} (Ok second) (name_of f b)
    → piece_of (row (op o) (ended e (whole a) ∷ ended f (whole b) ∷ [])) ≡ Ok (opcode o ++ (first ++ second))
two o None None a b first second is that =
    ap (λ (l : List ℕ). Ok (opcode o ++ (a ++ l))) (append-nil b ∙ sym (same second b that))
    ∙ ap (λ (l : List ℕ). Ok (opcode o ++ (l ++ second))) (sym (same first a is))
two o None (Some f) a b first second is that = absurd cc
two o (Some e) f a b first second is that = absurd cc

no_first : (o : Op) (e f : Option Error) (a b : List ℕ) (wrong : Fault) → ◌≡◌ {A = Piece} (Err wrong) (name_of e a)
    → piece_of (row (op o) (ended e (whole a) ∷ ended f (whole b) ∷ [])) ≡ Err wrong
no_first o None f a b wrong is = absurd cc
no_first o (Some e) f a b wrong is = sym is

no_second : (o : Op) (e f : Option Error) (a b first : List ℕ) (wrong : Fault) → ◌≡◌ {A = Piece} (Ok first) (name_of e a)
    → ◌≡◌ {A = Piece} (Err wrong) (name_of f b)
    → piece_of (row (op o) (ended e (whole a) ∷ ended f (whole b) ∷ [])) ≡ Err wrong
no_second o (Some e) f a b first wrong is that = absurd cc
no_second o None None a b first wrong is that = absurd cc
no_second o None (Some f) a b first wrong is that = sym that

module _ (source name : List ℕ) where
  pub of_names : (first second : List ℕ) → ◌≡◌ {A = Piece} (Ok first) (piece_of (path_of source))
      → ◌≡◌ {A = Piece} (Ok second) (piece_of (path_of name))
      → piece_of (row (op Alias) (path_of source ∷ path_of name ∷ [])) ≡ Ok (0x06 ∷ (first ++ second))
  of_names first second is that =
      two Alias (parts_end (parts (unrooted source))) (parts_end (parts (unrooted name))) (path_spelling source) (path_spelling name) first second is that

  pub of_no_first : (f : Fault) → ◌≡◌ {A = Piece} (Err f) (piece_of (path_of source))
      → piece_of (row (op Alias) (path_of source ∷ path_of name ∷ [])) ≡ Err f
  of_no_first f is =
      no_first Alias (parts_end (parts (unrooted source))) (parts_end (parts (unrooted name))) (path_spelling source) (path_spelling name) f is

  pub of_no_second : (first : List ℕ) (f : Fault) → ◌≡◌ {A = Piece} (Ok first) (piece_of (path_of source))
      → ◌≡◌ {A = Piece} (Err f) (piece_of (path_of name))
      → piece_of (row (op Alias) (path_of source ∷ path_of name ∷ [])) ≡ Err f
  of_no_second first f is that =
      no_second Alias (parts_end (parts (unrooted source))) (parts_end (parts (unrooted name))) (path_spelling source) (path_spelling name) first f is that

-- a call that writes a piece with this fault
pub fails : (piece : Piece) (f : Fault) (old new : List ℕ) (before after : State) (number : ℕ) → before.fault ≡ 0 → piece ≡ Err f
    → IsDone (Err f) old before new after number → Writes (adds piece) old before new after number
fails piece f old new before after number none is done = rw (none, is) done
