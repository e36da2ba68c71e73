-- The structures of a table, or the tables of an image, drawn as a tree or as a graph.
use Rattle.std.specs.Prelude.{◌≡◌, ◌⊎◌, ℕ, Bool, true, false, List, [], ◌∷◌, ◌++◌, Option, Some, None, codes}
use Rattle.std.specs.Io.KnownBytes.{Keeps, Appends}
use Rattle.acpi_base.specs.Bytes.{field_at}
use Rattle.acpi_base.specs.Table.{IsTrueTable}
use Rattle.acpi_base.specs.declared.walk.Walk.{Walk}
use Rattle.acpi_forms.specs.Layout.{walk_in}
use Rattle.acpi_layout.specs.declared.located.Located.{Located}
use Rattle.acpi_tree.specs.Dot.{dot_text}
use Rattle.acpi_tree.specs.Image.{image_tree, image_dot}
use Rattle.acpi_tree.specs.Tree.{tree_text}
use Rattle.acpitool_program.specs.Fault.{line_of, Says}
use Rattle.acpitool_program.specs.Headed.{IsNoTable}
use Rattle.acpitool_program.specs.Image.{IsFoundImage}
use Rattle.acpitool_program.specs.Listing.{NotListed, NotRead}
use Rattle.acpitool_program.specs.Outcome.{fault_line, fault_status}
use Rattle.acpitool_program.specs.Placed.{IsPlaced}
use Rattle.acpitool_program.specs.Structures.{HasOrBroken}
use Rattle.acpitool_program.specs.declared.fault.Fault.{Fault}

-- the graph of a table, or its tree
abbrev pub drawn : Bool → Walk → List ℕ → List ℕ
drawn true walk table = dot_text walk table
drawn false walk table = tree_text walk table

-- the bytes are a table that has structures
pub record HasWalk (bytes : List ℕ) (walk : Walk) : Type 0 where
  pub table : IsTrueTable bytes
  pub is : walk_in (field_at 0 4 bytes) bytes ≡ Some walk

-- they are a table without structures
pub record HasNoWalk (bytes : List ℕ) (fault : Fault) : Type 0 where
  pub none : walk_in (field_at 0 4 bytes) bytes ≡ None
  pub says : Says (Some 0) (codes "a table without structures") fault

abbrev pub IsUndrawn : List ℕ → Fault → Type 0
IsUndrawn bytes fault = IsNoTable bytes fault ⊎ HasNoWalk bytes fault

-- a line says what is wrong with the structures of a table, if they can't all be found
pub record TellsBroken (name table : List ℕ) (err err' : Option (List ℕ)) (status : ℕ) : Type 0 where
  pub fault : Option Fault
  pub found : HasOrBroken table fault
  pub told : Appends err err' (fault_line name fault)
  pub is : status ≡ fault_status fault

-- the structures of a table were drawn that can be found
pub record IsDrawn (dot : Bool) (name bytes : List ℕ) (out out' err err' : Option (List ℕ)) (status : ℕ) : Type 0 where
  pub walk : Walk
  pub has : HasWalk bytes walk
  pub wrote : Appends out out' (drawn dot walk bytes)
  pub told : TellsBroken name bytes err err' status

-- nothing was drawn, and a line says why
pub record IsNotDrawn (name bytes : List ℕ) (out out' err err' : Option (List ℕ)) (status : ℕ) : Type 0 where
  pub fault : Fault
  pub cause : IsUndrawn bytes fault
  pub complained : Appends err err' (name ++ codes ": " ++ line_of fault ++ 10 ∷ [])
  pub silent : Keeps out out'
  pub is : status ≡ 1

abbrev pub DrawsBytes : Bool → List ℕ → List ℕ → Option (List ℕ) → Option (List ℕ) → Option (List ℕ) → Option (List ℕ) → ℕ
    → Type 0
DrawsBytes dot name bytes out out' err err' status =
    IsDrawn dot name bytes out out' err err' status ⊎ IsNotDrawn name bytes out out' err err' status

-- what comes of the table in a file: the system says which bytes the file has
abbrev pub DrawsFile : Bool → List ℕ → Option (List ℕ) → Option (List ℕ) → Option (List ℕ) → Option (List ℕ) → ℕ → Type 0
DrawsFile dot name out out' err err' status =
    ((bytes : List ℕ) × DrawsBytes dot name bytes out out' err err' status) ⊎ NotRead name out out' err err' status

-- ---- an image

-- the graph of the tables of an image, or their tree
abbrev pub image_drawn : Bool → List Located → List ℕ
image_drawn true tables = image_dot tables
image_drawn false tables = image_tree tables

-- the tables of an image were drawn
pub record IsImageDrawn (dot : Bool) (base : ℕ) (bytes : List ℕ) (out out' err err' : Option (List ℕ)) (status : ℕ) : Type 0 where
  pub tables : List Located
  pub found : IsFoundImage base bytes tables
  pub wrote : Appends out out' (image_drawn dot tables)
  pub silent : Keeps err err'
  pub is : status ≡ 0

abbrev pub DrawsImageBytes : Bool → List ℕ → ℕ → List ℕ
    → Option (List ℕ) → Option (List ℕ) → Option (List ℕ) → Option (List ℕ) → ℕ → Type 0
DrawsImageBytes dot name base bytes out out' err err' status =
    IsImageDrawn dot base bytes out out' err err' status ⊎ NotListed name base bytes out out' err err' status

-- what comes of the image in a file: the system says which bytes the file has
abbrev pub DrawsImage : Bool → List ℕ → ℕ → Option (List ℕ) → Option (List ℕ) → Option (List ℕ) → Option (List ℕ) → ℕ → Type 0
DrawsImage dot name base out out' err err' status =
    ((bytes : List ℕ) × DrawsImageBytes dot name base bytes out out' err err' status) ⊎ NotRead name out out' err err' status

-- that of a word FILE@BASE
abbrev pub DrawsPlaced : Bool → List ℕ → Option (List ℕ) → Option (List ℕ) → Option (List ℕ) → Option (List ℕ) → ℕ → Type 0
DrawsPlaced dot word out out' err err' status =
    (file : List ℕ) × (base : ℕ) × IsPlaced word file base × DrawsImage dot file base out out' err err' status

-- what comes of `tree WORD`: the word is a file with a table, or FILE@BASE
abbrev pub Draws : Bool → List ℕ → Option (List ℕ) → Option (List ℕ) → Option (List ℕ) → Option (List ℕ) → ℕ → Type 0
Draws dot word out out' err err' status =
    DrawsFile dot word out out' err err' status ⊎ DrawsPlaced dot word out out' err err' status
