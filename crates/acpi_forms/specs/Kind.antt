-- What bytes are by their signature.
use Rattle.std.specs.Prelude.{ℕ, nat_eq, ◌==◌, ◌&&◌, ◌||◌, not, Bool, List, take, if◌then◌else◌, codes}
use Rattle.std.specs.List.{starts_with}
use Rattle.acpi_base.specs.declared.walk.Place.TheVariants.{Byte, Word, DWord}
use Rattle.acpi_make.specs.declared.file_kind.FileKind.{FileKind}
use Rattle.acpi_make.specs.declared.file_kind.FileKind.TheVariants.{Rsdp, Facs, Cdat, S3pt, Table}
use Rattle.acpi_text.specs.Form.{number_at}
use Rattle.acpi_text.specs.Label.{all_print}

-- A Coherent Device Attribute Table has no signature (CDAT 1.03). It begins with its length, and four bytes that print, as those
-- of a signature, would be the length of a table of more than 2^29 bytes. Its revision is 1 or 2, and the six bytes after its
-- checksum are reserved.
abbrev pub is_coherent : List ℕ → Bool
is_coherent bytes =
    not (all_print (take 4 bytes))
    && (number_at (Byte 4) bytes == 1 || number_at (Byte 4) bytes == 2)
    && number_at (Word 6) bytes == 0
    && number_at (DWord 8) bytes == 0

abbrev pub kind_of : List ℕ → FileKind
kind_of bytes =
    if starts_with nat_eq bytes (codes "RSD PTR ") then Rsdp
    else (if starts_with nat_eq bytes (codes "FACS") then Facs
    else (if starts_with nat_eq bytes (codes "S3PT") then S3pt
    else (if is_coherent bytes then Cdat
    else Table)))

-- what bytes of a kind are called: their first four bytes, which are the signature, or CDAT in place of the length
abbrev pub title_by : FileKind → List ℕ → List ℕ
title_by Cdat bytes = codes "CDAT"
title_by kind bytes = take 4 bytes

abbrev pub title_of : List ℕ → List ℕ
title_of bytes = title_by (kind_of bytes) bytes
