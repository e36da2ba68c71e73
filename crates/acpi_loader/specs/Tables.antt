-- The tables of an image, and its RSDP, as `lay_files` of `acpi_layout` lays them for an address.
use Rattle.std.specs.Prelude.{ℕ, ◌+◌, List, ◌++◌, length, Option}
use Rattle.acpi_fixed.specs.Rsdp.{rsdp_bytes, rsdp_for}
use Rattle.acpi_layout.specs.Files.{oem_of, files_laid}
use Rattle.acpi_layout.specs.Image.{Laid, padded, control_bytes, with_xsdt}

-- the FACS, if there is one, the DSDT, the FADT, and the other tables that the XSDT lists
pub record Tables : Type 0 where
  pub facs : Option (List ℕ)
  pub dsdt : List ℕ
  pub fadt : List ℕ
  pub others : List (List ℕ)

-- the FACS, the DSDT, the FADT and the others, laid for an address
abbrev pub laid : ℕ → Tables → Laid
laid base tables = files_laid base tables.facs tables.dsdt tables.fadt tables.others

-- where the FADT is, counted from this address
abbrev pub fadt_place : Tables → ℕ
fadt_place tables = length (padded 8 (control_bytes tables.facs ++ tables.dsdt))

-- where the XSDT is
abbrev pub xsdt_place : ℕ → Tables → ℕ
xsdt_place base tables = length (padded 8 (laid base tables).bytes)

-- all bytes up to the RSDP
abbrev pub tables_at : ℕ → Tables → List ℕ
tables_at base tables = padded 16 (with_xsdt base (oem_of tables.fadt) (laid base tables))

-- the RSDP
abbrev pub rsdp_at : ℕ → Tables → List ℕ
rsdp_at base tables = rsdp_bytes (rsdp_for (oem_of tables.fadt).id (base + xsdt_place base tables))
