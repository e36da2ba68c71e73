-- What is printed when a table is repaired.
use Rattle.std.specs.Prelude.{◌≡◌, ◌⊎◌, ℕ, ◌==◌, if◌then◌else◌, List, [], ◌∷◌, ◌++◌, Option, Some, None, codes}
use Rattle.std.specs.Fmt.{decimal}
use Rattle.std.specs.Io.KnownBytes.{Keeps, Appends}
use Rattle.acpi_base.specs.Walk.{place_offset}
use Rattle.acpi_base.specs.declared.walk.Place.{Place}
use Rattle.acpi_base.specs.declared.walk.Place.TheVariants.{Byte, DWord}
use Rattle.acpi_forms.specs.Kind.{kind_of}
use Rattle.acpi_text.specs.Form.{number_at}
use Rattle.acpitool_program.specs.Listing.{NotRead}
use Rattle.acpitool_program.specs.Making.{IsWritten}
use Rattle.acpitool_program.specs.Repair.{seals_as, unfit_of, why_unfit, repaired}
use Rattle.acpitool_program.specs.Text.{IsKind}
use Rattle.acpitool_program.specs.declared.repair.Seal.{Seal}
use Rattle.acpitool_program.specs.declared.repair.Seal.TheVariants.{Length, Checksum, FrontChecksum}
use Rattle.acpitool_program.specs.declared.repair.Unfit.{Unfit}

-- the place of a field
abbrev pub place_of : Seal → Place
place_of (Length at) = DWord at
place_of (Checksum at) = Byte at
place_of (FrontChecksum at) = Byte at

-- what it is
abbrev pub seal_name : Seal → List ℕ
seal_name (Length at) = codes "length"
seal_name (Checksum at) = codes "checksum"
seal_name (FrontChecksum at) = codes "checksum"

abbrev pub value_at : Seal → List ℕ → ℕ
value_at seal bytes = number_at (place_of seal) bytes

-- what a field was and is, unless this is the same
abbrev pub change : List ℕ → List ℕ → List ℕ → Seal → List ℕ
change name old new seal =
    if value_at seal old == value_at seal new then []
    else name
    ++ (codes ": the "
    ++ (seal_name seal
    ++ (codes " at "
    ++ (decimal (place_offset (place_of seal))
    ++ (codes " was "
    ++ (decimal (value_at seal old)
    ++ (codes ", and is "
    ++ (decimal (value_at seal new)
    ++ 10 ∷ []))))))))

abbrev pub changes : List ℕ → List ℕ → List ℕ → List Seal → List ℕ
changes name old new [] = []
changes name old new (seal ∷ seals) = change name old new seal ++ changes name old new seals

-- those of bytes that are repaired
abbrev pub changes_of : List ℕ → List ℕ → List ℕ
changes_of name bytes = changes name bytes (repaired bytes) (seals_as (kind_of bytes) bytes)

-- the bytes are what their signature says once they are repaired, and are written
pub record IsRepaired (name bytes file : List ℕ) (out out' err err' : Option (List ℕ)) (status : ℕ) : Type 0 where
  pub fit : unfit_of bytes ≡ None
  pub is : IsKind (kind_of bytes) (repaired bytes)
  pub between : Option (List ℕ)
  pub told : Appends err between (changes_of name bytes)
  pub wrote : IsWritten (repaired bytes) file out out' between err' status

-- the bytes are no table, and a line says why
pub record NotRepaired (name bytes : List ℕ) (out out' err err' : Option (List ℕ)) (status : ℕ) : Type 0 where
  pub why : Unfit
  pub cause : unfit_of bytes ≡ Some why
  pub complained : Appends err err' (name ++ codes ": " ++ why_unfit why ++ 10 ∷ [])
  pub silent : Keeps out out'
  pub is : status ≡ 1

abbrev pub RepairsBytes : List ℕ → List ℕ → List ℕ
    → Option (List ℕ) → Option (List ℕ) → Option (List ℕ) → Option (List ℕ) → ℕ → Type 0
RepairsBytes name bytes file out out' err err' status =
    IsRepaired name bytes file out out' err err' status ⊎ NotRepaired name bytes out out' err err' status

-- what comes of `repair FILE OUT`: the system says which bytes the first file has
abbrev pub Repairs : List ℕ → List ℕ → Option (List ℕ) → Option (List ℕ) → Option (List ℕ) → Option (List ℕ) → ℕ → Type 0
Repairs name file out out' err err' status =
    ((bytes : List ℕ) × RepairsBytes name bytes file out out' err err' status) ⊎ NotRead name out out' err err' status
