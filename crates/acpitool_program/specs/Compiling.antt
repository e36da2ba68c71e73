-- What is printed when a text of ASL is made into a definition block.
use Rattle.std.specs.Prelude.{◌≡◌, ◌≢◌, ◌⊎◌, ℕ, Bool, true, false, List, [], ◌∷◌, ◌++◌, Option, Some, None, codes}
use Rattle.std.specs.Io.KnownBytes.{Keeps, Appends}
use Rattle.acpi_compile.specs.Compiled.{IsCompiled}
use Rattle.acpi_compile.specs.Fault.{explained}
use Rattle.acpi_compile.specs.declared.fault.AslFault.{AslFault}
use Rattle.acpi_compile.specs.declared.fault.Why.{Why}
use Rattle.acpitool_program.specs.Held.{held_line}

-- the line on a text that says what is wrong after this many kept characters
abbrev pub asl_line : List ℕ → List ℕ → ℕ → Why → List ℕ
asl_line name text at why = name ++ codes ": " ++ explained at why text ++ 10 ∷ []

-- the lines on doubts
abbrev pub doubt_lines : List ℕ → List ℕ → List AslFault → List ℕ
doubt_lines name text [] = []
doubt_lines name text (doubt ∷ doubts) = asl_line name text doubt.at doubt.why ++ doubt_lines name text doubts

-- there are doubts about the text, and a line says each
pub record Doubted (name text : List ℕ) (err err' : Option (List ℕ)) : Type 0 where
  pub doubts : List AslFault
  pub some : doubts ≢ []
  pub told : Appends err err' (doubt_lines name text doubts)

-- The block of a text is to be written: there are no doubts, or it is written by force.
abbrev pub BlockPasses : Bool → List ℕ → List ℕ → Option (List ℕ) → Option (List ℕ) → Type 0
BlockPasses force name text err err' = Keeps err err' ⊎ ((force ≡ true) × Doubted name text err err')

-- The block of a text isn't to be written, since there are doubts.
pub record BlockStays (force : Bool) (name text : List ℕ) (err err' : Option (List ℕ)) : Type 0 where
  pub no_force : force ≡ false
  pub between : Option (List ℕ)
  pub doubted : Doubted name text err between
  pub held : Appends between err' (held_line name)

-- whether it is to be written
abbrev pub IsBlockJudged : Bool → List ℕ → List ℕ → Option (List ℕ) → Option (List ℕ) → Bool → Type 0
IsBlockJudged force name text err err' true = BlockPasses force name text err err'
IsBlockJudged force name text err err' false = BlockStays force name text err err'

-- the text is made into a block that isn't to be written
pub record HeldBlock (force : Bool) (name text : List ℕ) (err err' : Option (List ℕ)) : Type 0 where
  pub bytes : List ℕ
  pub compiled : IsCompiled text bytes
  pub judged : IsBlockJudged force name text err err' false

-- the text isn't made into a block, and a line says where it is wrong
pub record NotCompiled (name text : List ℕ) (err err' : Option (List ℕ)) : Type 0 where
  pub at : ℕ
  pub why : Why
  pub complained : Appends err err' (asl_line name text at why)

-- the bytes of a block, if there are any to be written
abbrev pub CompiledOrNot : Bool → List ℕ → List ℕ → Option (List ℕ) → Option (List ℕ) → Option (List ℕ) → Type 0
CompiledOrNot force name text (Some bytes) err err' = IsCompiled text bytes × IsBlockJudged force name text err err' true
CompiledOrNot force name text None err err' = HeldBlock force name text err err' ⊎ NotCompiled name text err err'
