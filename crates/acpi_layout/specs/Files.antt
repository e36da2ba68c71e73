-- The image of the tables in files. A file is what its first four bytes say.
use Rattle.std.specs.Prelude.{◌≡◌, ◌≢◌, ℕ, ◌+◌, ◌%◌, ◌<◌, ◌≤◌, ◌||◌, nat_eq, Bool, not, false, true, List, [], ◌∷◌, ◌++◌}
use Rattle.std.specs.Prelude.{length, take, drop, codes, Option, Some, None, slice_index_or}
use Rattle.std.specs.List.{filter, starts_with}
use Rattle.acpi_base.specs.declared.oem.Oem.{Oem}
use Rattle.acpi_base.specs.Bytes.{le, put, zeros, field_at}
use Rattle.acpi_base.specs.Table.{with_checksum}
use Rattle.acpi_layout.specs.declared.layout.Image.{Image}
use Rattle.acpi_layout.specs.declared.lay_fault.LayFault.{LayFault}
use Rattle.acpi_layout.specs.declared.lay_fault.LayFault.TheVariants as faults
use Rattle.acpi_layout.specs.Image.{Laid, Picture, all_placed, control_bytes, control_address, with_pointer, has_place}
use Rattle.acpi_layout.specs.Found.{is_reduced}

-- ---- which file is which

-- whether a file begins with a signature
abbrev pub has : List ℕ → List ℕ → Bool
has signature file = starts_with nat_eq file signature

-- the files that begin with a signature, in order
abbrev pub named : List ℕ → List (List ℕ) → List (List ℕ)
named signature files = filter (has signature) files

-- Whether a file is a table that the XSDT lists besides the FADT (5.2.8). An RSDP, an RSDT and an XSDT are those of another
-- image.
abbrev pub is_other : List ℕ → Bool
is_other file =
    not (has (codes "FACS") file || has (codes "DSDT") file || has (codes "FACP") file
    || has (codes "RSD ") file || has (codes "RSDT") file || has (codes "XSDT") file)

-- these tables, in order
abbrev pub others : List (List ℕ) → List (List ℕ)
others files = filter is_other files

-- a file, if there is one
abbrev pub if_some : Option (List ℕ) → List (List ℕ)
if_some None = []
if_some (Some file) = file ∷ []

-- The FACS, if there is one, the DSDT and the FADT. There is no second one of them.
pub record Main (files : List (List ℕ)) (facs : Option (List ℕ)) (dsdt fadt : List ℕ) : Type 0 where
  pub facs_is : named (codes "FACS") files ≡ if_some facs
  pub dsdt_is : named (codes "DSDT") files ≡ dsdt ∷ []
  pub fadt_is : named (codes "FACP") files ≡ fadt ∷ []

-- ---- the image

-- The FADT with the addresses of the FACS and of the DSDT in its fields of 64 bits, X_FIRMWARE_CTRL and X_DSDT (5.2.9). Those of
-- 32 bits, FIRMWARE_CTRL and DSDT, are 0, and the checksum is new.
abbrev pub pointing : ℕ → ℕ → List ℕ → List ℕ
pointing facs_at dsdt_at fadt = with_checksum (put 140 (le 8 dsdt_at) (put 132 (le 8 facs_at) (put 36 (zeros 8) fadt)))

-- the same where the FACS, if there is one, is at base, and the DSDT after it
abbrev pub pointed : ℕ → Option (List ℕ) → List ℕ → List ℕ
pointed base facs fadt = pointing (control_address base facs) (base + length (control_bytes facs)) fadt

-- The maker of the FADT, which is that of the XSDT (5.2.8): the OEM ID, the OEM Table ID and the OEM Revision.
abbrev pub oem_of : List ℕ → Oem
oem_of fadt = record { id = take 6 (drop 10 fadt); table_id = take 8 (drop 16 fadt); revision = field_at 24 4 fadt }

-- the FACS if there is one, the DSDT after it, and then the FADT and the tables in order
abbrev pub files_laid : ℕ → Option (List ℕ) → List ℕ → List ℕ → List (List ℕ) → Laid
files_laid base facs dsdt fadt tables =
    all_placed (pointed base facs fadt ∷ tables) (record { bytes = control_bytes facs ++ dsdt; places = [] })

-- the same, the XSDT and the RSDP
abbrev pub files_image : ℕ → Option (List ℕ) → List ℕ → List ℕ → List (List ℕ) → Picture
files_image base facs dsdt fadt tables = with_pointer base (oem_of fadt) (files_laid base facs dsdt fadt tables)

-- The image of files for an address, a multiple of 64. Each byte has an address below 2^64, and the XSDT's length is below 2^32.
pub record IsLaid (base : ℕ) (files : List (List ℕ)) (image : Image) : Type 0 where
  pub facs : Option (List ℕ)
  pub dsdt : List ℕ
  pub fadt : List ℕ
  pub aligned : base % 64 ≡ 0
  pub main : Main files facs dsdt fadt
  pub has_fields : 148 ≤ length fadt
  pub has_space : has_place base (files_image base facs dsdt fadt (others files)) (length (others files)) ≡ true
  pub bytes : image.bytes.items ≡ (files_image base facs dsdt fadt (others files)).bytes
  pub rsdp : image.rsdp ≡ (files_image base facs dsdt fadt (others files)).rsdp

-- ---- why there is none

-- a file isn't the first that begins with a signature
pub record IsSecond (signature : List ℕ) (index : ℕ) (files : List (List ℕ)) : Type 0 where
  pub inside : index < length files
  pub has_it : has signature (slice_index_or files index []) ≡ true
  pub earlier : named signature (take index files) ≢ []

-- Each line is a cause, and ends with the fault for it.
pub data IsLayFault (base : ℕ) (files : List (List ℕ)) : LayFault → Type 0 where
  base_is_odd : base % 64 ≢ 0 → IsLayFault base files faults.Base
  second_facs : (i : ℕ) → IsSecond (codes "FACS") i files → IsLayFault base files (faults.Second i)
  second_dsdt : (i : ℕ) → IsSecond (codes "DSDT") i files → IsLayFault base files (faults.Second i)
  second_fadt : (i : ℕ) → IsSecond (codes "FACP") i files → IsLayFault base files (faults.Second i)
  no_fadt : named (codes "FACP") files ≡ [] → IsLayFault base files faults.NoFadt
  no_dsdt : named (codes "DSDT") files ≡ [] → IsLayFault base files faults.NoDsdt
  fadt_is_short : (fadt : List ℕ) → named (codes "FACP") files ≡ fadt ∷ [] → length fadt < 148
      → IsLayFault base files faults.ShortFadt
  no_facs : (fadt : List ℕ) → named (codes "FACP") files ≡ fadt ∷ [] → named (codes "FACS") files ≡ []
      → is_reduced (field_at 112 4 fadt) ≡ false → IsLayFault base files faults.NoFacs
  no_space : (facs : Option (List ℕ)) (dsdt fadt : List ℕ) → Main files facs dsdt fadt
      → has_place base (files_image base facs dsdt fadt (others files)) (length (others files)) ≡ false
      → IsLayFault base files faults.NoSpace
