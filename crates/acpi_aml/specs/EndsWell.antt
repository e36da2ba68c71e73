-- Objects whose error comes from their own value or their length never return `Memory`.
use Rattle.std.specs.Prelude.{◌≢◌, ℕ, List, nat_lt, nat_le, ◌+◌, ◌^◌, length, [], ◌∷◌, ◌++◌, Some}
use Rattle.acpi_base.specs.declared.error.Error.TheVariants.{Memory, ArgNumber, LocalNumber, PkgLength}
use Rattle.acpi_base.specs.Object.{provided_ends_well}
use Rattle.acpi_base.specs.Number.{number}
use Rattle.acpi_term.specs.Tree.{arg, local}
use Rattle.acpi_term.specs.Row.{row, frame}
use Rattle.acpi_term.specs.Length.{with_length, least_width}
use Rattle.acpi_term.specs.Template.{buffer_of_bytes}

pub arg_ends_well : (k : ℕ) → (row (arg k) []).end ≢ Some Memory
arg_ends_well k = provided_ends_well (nat_le k 6) ArgNumber (((0x68 + k) ∷ []) ++ []) (λ is. cc)

pub local_ends_well : (k : ℕ) → (row (local k) []).end ≢ Some Memory
local_ends_well k = provided_ends_well (nat_le k 7) LocalNumber (((0x60 + k) ∷ []) ++ []) (λ is. cc)

pub frame_ends_well : (code content : List ℕ) → (frame code content).end ≢ Some Memory
frame_ends_well code content =
    let bytes = code ++ with_length (least_width (length content)) content in
    provided_ends_well (nat_lt (4 + length content) (2 ^ 28)) PkgLength bytes (λ is. cc)

pub bytes_end_well : (bytes : List ℕ) → (buffer_of_bytes bytes).end ≢ Some Memory
bytes_end_well bytes = frame_ends_well (0x11 ∷ []) ((number (length bytes) ++ []) ++ bytes)
