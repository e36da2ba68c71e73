-- Operators: what is read is written so.
use Rattle.std.proofs.Common.{◌≡◌, ℕ, ◌<◌, ◌≤◌, Bool, true, false, cond, List, [], ◌∷◌, ◌++◌, length, Option, Some, None, refl, sym, ap, subst, ◌∙◌, arith}
use Rattle.std.specs.Prelude.{slice_index}
use Rattle.std.specs.List.{find}
use Rattle.std.specs.Str.{bytes_eq}
use Rattle.std.proofs.lemmas.Slice.Eq.{bytes_eq-Decides}
use Rattle.acpi_term.specs.declared.op.Op.{Op}
use Rattle.acpi_term.specs.declared.language.Language.TheVariants.{Standard}
use Rattle.acpi_term.specs.declared.mode.Mode.{Mode}
use Rattle.acpi_term.specs.declared.mode.Mode.TheVariants.{Acquired, Released}
use Rattle.acpi_term.specs.declared.op.Op.TheVariants.{CreateField, Acquire, Release}
use Rattle.acpi_term.specs.Operator.{opcode, operators, op_of, place}
use Rattle.acpi_term.specs.Reading.{names_first}
use Rattle.acpi_term.specs.Spelling.{BeginsNoName, IsUnnamed, takes_names}

module _ {X : Type 0} (p : X → Bool) where
  first_passes : (x y : X) (rest : Option X) (b : Bool) → p x ≡ b → (rest ≡ Some y → p y ≡ true) → cond b (Some x) rest ≡ Some y → p y ≡ true
  first_passes x y rest true passes later is = let same : x ≡ y = cc in rw (← same) passes
  first_passes x y rest false passes later is = later is

  found_passes : (xs : List X) (y : X) → find p xs ≡ Some y → p y ≡ true
  found_passes [] y is = absurd cc
  found_passes (x ∷ xs) y is = first_passes x y (find p xs) (p x) refl (found_passes xs y) is

pub op_is : (code : List ℕ) (o : Op) → op_of code ≡ Some o → opcode o ≡ code
unfolding op_of
op_is code o is = (bytes_eq-Decides (opcode o) code).0 (found_passes (λ x. bytes_eq (opcode x) code) operators o is)

-- ---- opcodes that no operator has

code_short : (o : Op) → length (opcode o) ≤ 2
code_short CreateField = omega arith
code_short o = omega arith

none_or : (code : List ℕ) (found : Option Op) → op_of code ≡ found → ((o : Op) → found ≡ Some o → ⊥) → None ≡ op_of code
none_or code None is other = sym is
none_or code (Some o) is other = absurd (other o refl)

pub none_so_long : (code : List ℕ) → 3 ≤ length code → None ≡ op_of code
none_so_long code long = none_or code (op_of code) refl (λ o is. omega (arith, code_short o, ap length (op_is code o is), long))

pub none_empty : (code : List ℕ) → length code ≤ 0 → None ≡ op_of code
unfolding op_of
none_empty [] short = refl
none_empty (b ∷ code) short = absurd (omega arith)

lead_of_two : (o : Op) → length (opcode o) ≡ 2 → slice_index (opcode o) 0 ≡ 91
lead_of_two CreateField two = refl
lead_of_two o two = grind arith

pub none_of_two : (code : List ℕ) → length code ≡ 2 → (slice_index code 0 ≡ 91 → ⊥) → None ≡ op_of code
none_of_two code two other =
    none_or code (op_of code) refl (λ o is.
    let same : opcode o ≡ code = op_is code o is in
    other (ap (λ (l : List ℕ). slice_index l 0) (sym same) ∙ lead_of_two o (ap length same ∙ two)))

-- ---- operators over what is no name

-- an Acquire and a Release alone
pub plain_op : (o : Op) → (opcode o ≡ 91 ∷ 35 ∷ [] → ⊥) → (opcode o ≡ 91 ∷ 39 ∷ [] → ⊥) → takes_names (place Standard o) ≡ true
plain_op Acquire p q = absurd (p refl)
plain_op Release p q = absurd (q refl)
plain_op o p q = refl

pub any_inside : (m : Mode) (inside : List ℕ) → takes_names m ≡ true → IsUnnamed m inside
any_inside Acquired inside h = absurd cc
any_inside Released inside h = absurd cc
any_inside m inside h = tt

-- bytes that begin as these do, which begin no name
pub first_unnamed : (rest inside after : List ℕ) → names_first rest ≡ false → rest ≡ inside ++ after → 0 < length inside → BeginsNoName inside
first_unnamed rest [] after none is some = absurd (omega arith)
first_unnamed rest (b ∷ inside) after none is some = subst (λ l. names_first l ≡ false) is none

pub unnamed_first : (inside after : List ℕ) → BeginsNoName inside → names_first (inside ++ after) ≡ false
unnamed_first [] after none = absurd none
unnamed_first (b ∷ inside) after none = none
