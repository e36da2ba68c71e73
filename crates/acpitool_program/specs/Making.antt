-- What is printed when a text is made into a table.
use Rattle.std.specs.Prelude.{◌≡◌, ◌≢◌, ◌⊎◌, ℕ, Bool, true, false, List, [], ◌∷◌, ◌++◌, Option, Some, None, Ok, Err, codes}
use Rattle.std.specs.Io.KnownBytes.{Keeps, Appends}
use Rattle.acpi_forms.specs.Makes.{IsMade}
use Rattle.acpi_make.specs.Fault.{fault_of, explained}
use Rattle.acpi_make.specs.declared.fault.Fault as texts
use Rattle.acpi_make.specs.declared.fault.MakeError.TheVariants as errors
use Rattle.acpi_make.specs.declared.make.Made.{Made}
use Rattle.acpi_make.specs.declared.extent.Own.{Own}
use Rattle.acpi_compile.specs.Compiled.{is_asl}
use Rattle.acpitool_program.specs.Compiling.{CompiledOrNot}
use Rattle.acpitool_program.specs.Held.{held_line}
use Rattle.acpitool_program.specs.Hint.{meant_in, hint}
use Rattle.acpitool_program.specs.Listing.{NotRead}
use Rattle.acpitool_program.specs.Noted.{AreNotes}
use Rattle.acpitool_program.specs.Outcome.{fault_line}
use Rattle.acpitool_program.specs.Structures.{IsSoundOr}
use Rattle.acpitool_program.specs.declared.fault.Fault.{Fault}

-- what is wrong with a table whose numbers are right
abbrev pub IsChecked : List Own → List ℕ → Option Fault → Type 0
IsChecked [] bytes fault = IsSoundOr bytes fault
IsChecked (one ∷ owns) bytes fault = fault ≡ None

-- The notes on a table of these bytes are printed, and what is wrong with it.
pub record Warns (name : List ℕ) (owns : List Own) (bytes : List ℕ) (fault : Option Fault)
    (err err' : Option (List ℕ)) : Type 0 where
  pub text : List ℕ
  pub are : AreNotes name bytes owns text
  pub printed : Appends err err' (text ++ fault_line name fault)

-- A made table is to be written. A line says of each number that isn't right which would be, or what is wrong with the table:
-- there is none, unless such a table is written by force.
pub record Passes (force : Bool) (name : List ℕ) (owns : List Own) (bytes : List ℕ) (err err' : Option (List ℕ)) : Type 0 where
  pub fault : Option Fault
  pub checked : IsChecked owns bytes fault
  pub right : (force ≡ true) ⊎ ((owns ≡ []) × (fault ≡ None))
  pub noted : Warns name owns bytes fault err err'

-- A made table isn't to be written: its numbers are wrong, or it is wrong itself, and lines say so.
pub record Stays (force : Bool) (name : List ℕ) (owns : List Own) (bytes : List ℕ) (err err' : Option (List ℕ)) : Type 0 where
  pub fault : Option Fault
  pub checked : IsChecked owns bytes fault
  pub wrong : (owns ≢ []) ⊎ (fault ≢ None)
  pub no_force : force ≡ false
  pub between : Option (List ℕ)
  pub noted : Warns name owns bytes fault err between
  pub held : Appends between err' (held_line name)

-- whether it is to be written
abbrev pub IsJudged : Bool → List ℕ → List Own → List ℕ → Option (List ℕ) → Option (List ℕ) → Bool → Type 0
IsJudged force name owns bytes err err' true = Passes force name owns bytes err err'
IsJudged force name owns bytes err err' false = Stays force name owns bytes err err'

-- the text is made into a table of these bytes, which is to be written
pub record MadeText (force : Bool) (name text bytes : List ℕ) (err err' : Option (List ℕ)) : Type 0 where
  pub made : Made
  pub is : IsMade text (Ok made)
  pub same : made.bytes.items ≡ bytes
  pub judged : IsJudged force name made.untrue.items made.bytes.items err err' true

-- the text is made into a table that isn't to be written
pub record Held (force : Bool) (name text : List ℕ) (err err' : Option (List ℕ)) : Type 0 where
  pub made : Made
  pub is : IsMade text (Ok made)
  pub judged : IsJudged force name made.untrue.items made.bytes.items err err' false

-- why a text isn't made into a table, and which signature was probably meant
abbrev pub not_made : texts.Fault → List ℕ → List ℕ
not_made wrong text = explained (fault_of wrong) text ++ hint (meant_in wrong.wanted text)

-- the text isn't made into a table, and a line says why
pub record NotMade (name text : List ℕ) (err err' : Option (List ℕ)) : Type 0 where
  pub wrong : texts.Fault
  pub is : IsMade text (Err (errors.Fault wrong))
  pub complained : Appends err err' (name ++ codes ": " ++ not_made wrong text ++ 10 ∷ [])

-- the bytes of a table, if there are any to be written
abbrev pub MadeOrNot : Bool → List ℕ → List ℕ → Option (List ℕ) → Option (List ℕ) → Option (List ℕ) → Type 0
MadeOrNot force name text (Some bytes) err err' = MadeText force name text bytes err err'
MadeOrNot force name text None err err' = Held force name text err err' ⊎ NotMade name text err err'

-- a file was written
pub record Saved (err err' : Option (List ℕ)) (status : ℕ) : Type 0 where
  pub silent : Keeps err err'
  pub is : status ≡ 0

-- a file can't be written, and a line says why
pub record NotSaved (file : List ℕ) (err err' : Option (List ℕ)) (status : ℕ) : Type 0 where
  pub why : List ℕ
  pub complained : Appends err err' (file ++ codes ": " ++ why ++ 10 ∷ [])
  pub is : status ≡ 1

-- Bytes go to standard output if the file is `-`, and otherwise to the file, of which no contract can say what it has.
abbrev pub IsWritten : List ℕ → List ℕ → Option (List ℕ) → Option (List ℕ) → Option (List ℕ) → Option (List ℕ) → ℕ → Type 0
IsWritten bytes file out out' err err' status =
    ((file ≡ codes "-") × Appends out out' bytes × Saved err err' status)
    ⊎ ((file ≢ codes "-") × Keeps out out' × (Saved err err' status ⊎ NotSaved file err err' status))

-- the text is made into a table, and its bytes are written
pub record MadeFile (force : Bool) (name text file : List ℕ) (out out' err err' : Option (List ℕ)) (status : ℕ) : Type 0 where
  pub bytes : List ℕ
  pub between : Option (List ℕ)
  pub made : MadeText force name text bytes err between
  pub wrote : IsWritten bytes file out out' between err' status

-- no table is written
pub record NoTable (force : Bool) (name text : List ℕ) (out out' err err' : Option (List ℕ)) (status : ℕ) : Type 0 where
  pub not : Held force name text err err' ⊎ NotMade name text err err'
  pub silent : Keeps out out'
  pub is : status ≡ 1

-- the text is made into a definition block, and its bytes are written
pub record MadeBlock (force : Bool) (name text file : List ℕ) (out out' err err' : Option (List ℕ)) (status : ℕ) : Type 0 where
  pub bytes : List ℕ
  pub between : Option (List ℕ)
  pub compiled : CompiledOrNot force name text (Some bytes) err between
  pub wrote : IsWritten bytes file out out' between err' status

-- no block is written
pub record NoBlock (force : Bool) (name text : List ℕ) (out out' err err' : Option (List ℕ)) (status : ℕ) : Type 0 where
  pub not : CompiledOrNot force name text None err err'
  pub silent : Keeps out out'
  pub is : status ≡ 1

-- what comes of a text, which is ASL or not
abbrev pub MakesOf : Bool → Bool → List ℕ → List ℕ → List ℕ
    → Option (List ℕ) → Option (List ℕ) → Option (List ℕ) → Option (List ℕ) → ℕ → Type 0
MakesOf true force name text file out out' err err' status =
    MadeBlock force name text file out out' err err' status ⊎ NoBlock force name text out out' err err' status
MakesOf false force name text file out out' err err' status =
    MadeFile force name text file out out' err err' status ⊎ NoTable force name text out out' err err' status

abbrev pub MakesText : Bool → List ℕ → List ℕ → List ℕ
    → Option (List ℕ) → Option (List ℕ) → Option (List ℕ) → Option (List ℕ) → ℕ → Type 0
MakesText force name text file out out' err err' status =
    MakesOf (is_asl text) force name text file out out' err err' status

-- the system says which text is in a file, or it can't be read and a line says why
abbrev pub MakesWord : Bool → List ℕ → List ℕ → Option (List ℕ) → Option (List ℕ) → Option (List ℕ) → Option (List ℕ) → ℕ → Type 0
MakesWord force name file out out' err err' status =
    ((text : List ℕ) × MakesText force name text file out out' err err' status) ⊎ NotRead name out out' err err' status

abbrev pub same_line : List ℕ → List ℕ
same_line name = name ++ codes ": the table would replace its text\n"

-- The words or the system say that the text and the table are to be one file, which isn't touched.
pub record IsItsText (name file : List ℕ) (out out' err err' : Option (List ℕ)) (status : ℕ) : Type 0 where
  pub other : file ≢ codes "-"
  pub complained : Appends err err' (same_line name)
  pub silent : Keeps out out'
  pub is : status ≡ 1

-- what comes of `make TEXT FILE`, with `--force` or without it
abbrev pub Makes : Bool → List ℕ → List ℕ → Option (List ℕ) → Option (List ℕ) → Option (List ℕ) → Option (List ℕ) → ℕ → Type 0
Makes force name file out out' err err' status =
    IsItsText name file out out' err err' status ⊎ MakesWord force name file out out' err err' status
