-- What is wrong with bytes that are read, in words.
use Rattle.std.specs.Prelude.{ℕ, List, codes}
use Rattle.acpi_make.specs.declared.file_kind.FileKind.{FileKind}
use Rattle.acpi_make.specs.declared.file_kind.FileKind.TheVariants.{Rsdp, Facs, Cdat, S3pt, Table}
use Rattle.acpi_term.specs.ReadError.{message_of}
use Rattle.acpi_term.specs.declared.read_error.ReadError.{ReadError}
use Rattle.acpi_term.specs.declared.read_error.ReadError.TheVariants.{ShortHeader, TableLength, Sum}

-- of a table, its structures or its terms: the text of the error without its offset
abbrev pub words : ReadError → List ℕ
words error = message_of error

-- of a Root System Description Pointer (ACPI 6.5, 5.2.5.3)
abbrev pub rsdp_words : ReadError → List ℕ
rsdp_words (ShortHeader count) = codes "an RSDP has 20 bytes, or at least 36 from revision 2 on"
rsdp_words (TableLength offset) = codes "the length of an RSDP isn't the number of its bytes"
rsdp_words (Sum offset) = codes "the bytes of an RSDP don't sum to zero"
rsdp_words error = words error

-- of a Firmware ACPI Control Structure (ACPI 6.5, 5.2.10)
abbrev pub facs_words : ReadError → List ℕ
facs_words (ShortHeader count) = codes "a FACS has at least 64 bytes"
facs_words (TableLength offset) = codes "the length of a FACS isn't the number of its bytes"
facs_words error = words error

-- of a Coherent Device Attribute Table (CDAT 1.03)
abbrev pub cdat_words : ReadError → List ℕ
cdat_words (ShortHeader count) = codes "a CDAT has at least 16 bytes"
cdat_words (TableLength offset) = codes "the length of a CDAT isn't the number of its bytes"
cdat_words (Sum offset) = codes "the bytes of a CDAT don't sum to zero"
cdat_words error = words error

-- of an S3 Performance Table (ACPI 6.5, 5.2.24)
abbrev pub s3pt_words : ReadError → List ℕ
s3pt_words (ShortHeader count) = codes "an S3PT has at least 8 bytes"
s3pt_words (TableLength offset) = codes "the length of an S3PT isn't the number of its bytes"
s3pt_words error = words error

-- of bytes that are of a kind
abbrev pub words_by : FileKind → ReadError → List ℕ
words_by Rsdp error = rsdp_words error
words_by Facs error = facs_words error
words_by Cdat error = cdat_words error
words_by S3pt error = s3pt_words error
words_by Table error = words error
