-- Which signatures have a form, and which signature is meant by a name that is none.
use Rattle.std.specs.Prelude.{ℕ, ◌==◌, ◌&&◌, ◌||◌, not, Bool, if◌then◌else◌, List, length, map, Option, Some, None, codes}
use Rattle.std.specs.Char.{to_ascii_uppercase}
use Rattle.std.specs.Str.{bytes_eq}
use Rattle.acpi_base.specs.Bytes.{carried}
use Rattle.acpi_base.specs.Walk.{named}
use Rattle.acpi_forms.specs.Named.{names_of, unknown}

-- whether a signature, which is given as a number, is that of the pointer, of a table without a standard header (CDAT has no
-- other signature than its name), or of a table that has a name
abbrev pub has_form : ℕ → Bool
has_form signature =
    signature == named (codes "RSD ")
    || signature == named (codes "CDAT")
    || signature == named (codes "S3PT")
    || not (bytes_eq (names_of signature).name unknown.name)

-- whether a text is such a signature
abbrev pub is_known : List ℕ → Bool
is_known signature = length signature == 4 && has_form (carried signature)

-- The signature that a name in upper case means. The standard calls three tables otherwise than their signatures (ACPI 6.5,
-- 5.2.12, 5.2.9 and 5.2.5.3).
abbrev pub meant_by : List ℕ → Option (List ℕ)
meant_by name =
    if bytes_eq name (codes "MADT") then Some (codes "APIC")
    else (if bytes_eq name (codes "FADT") then Some (codes "FACP")
    else (if bytes_eq name (codes "RSDP") then Some (codes "RSD ")
    else (if is_known name then Some name
    else None)))

-- the signature that a name means, in upper or lower case
abbrev pub meant : List ℕ → Option (List ℕ)
meant name = if length name == 4 then meant_by (map to_ascii_uppercase name) else None
