-- The texts of faults.
use Rattle.std.specs.Prelude.{ℕ, List, ◌++◌, codes, false}
use Rattle.std.specs.Fmt.{digits}
use Rattle.acpi_layout.specs.declared.fault.ImageFault.{ImageFault}
use Rattle.acpi_layout.specs.declared.fault.ImageFault.TheVariants as faults

-- an address in hexadecimal
abbrev pub hexadecimal : ℕ → List ℕ
hexadecimal address = codes "0x" ++ digits 16 false address

-- what is wrong at an address
abbrev pub wrong_at : ℕ → List ℕ → List ℕ
wrong_at address text = codes "at " ++ (hexadecimal address ++ (codes ": " ++ text))

-- its text
abbrev pub text_of : ImageFault → List ℕ
text_of faults.Memory = codes "out of memory"
text_of (faults.Outside address) = wrong_at address (codes "the table isn't in the image")
text_of (faults.Signature address) = wrong_at address (codes "the signature is wrong")
text_of (faults.Length address) = wrong_at address (codes "the length is wrong")
text_of (faults.Revision address) = wrong_at address (codes "the revision is wrong")
text_of (faults.Sum address) = wrong_at address (codes "the bytes don't sum to zero")
text_of (faults.Entries address) = wrong_at address (codes "the list of tables doesn't end after a whole entry")
text_of (faults.NoFadt address) = wrong_at address (codes "no FADT is listed")
text_of (faults.SecondFadt address) = wrong_at address (codes "this is a second FADT")
text_of (faults.Overlap address other) = wrong_at address (codes "the table overlaps the one at " ++ hexadecimal other)
