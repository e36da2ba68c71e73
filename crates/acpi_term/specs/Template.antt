-- Buffers of bytes, and of resource descriptors (ACPI 6.5, 6.4 and 20.2.5.4).
use Rattle.std.specs.Prelude.{ℕ, List, [], ◌∷◌, ◌++◌, length}
use Rattle.acpi_base.specs.Number.{number}
use Rattle.acpi_base.specs.Object.{Object, whole, all_of, ended}
use Rattle.acpi_term.specs.Tree.{def_buffer}
use Rattle.acpi_term.specs.Row.{row}

-- the buffer of these bytes, with their number as its size
abbrev pub buffer_of_bytes : List ℕ → Object
buffer_of_bytes bytes = row (def_buffer bytes) (whole (number (length bytes)) ∷ [])

-- End Tag (ACPI 6.5, 6.4.2.9), whose checksum is 0
abbrev pub end_tag : List ℕ
end_tag = 0x79 ∷ 0x00 ∷ []

-- the bytes of descriptors, and the end tag
abbrev pub template_bytes : List ℕ → List ℕ
template_bytes descriptors = descriptors ++ end_tag

-- the buffer of descriptors and the end tag, up to the first error
abbrev pub template : List Object → Object
template descriptors = ended (all_of descriptors).end (buffer_of_bytes (template_bytes (all_of descriptors).front))
