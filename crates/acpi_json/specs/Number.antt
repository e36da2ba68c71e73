-- Numbers of JSON (RFC 8259, section 6).
use Rattle.std.specs.Prelude.{ℕ, zero, suc, ◌^◌, nat_le, ◌&&◌, Bool, false, if◌then◌else◌}
use Rattle.std.specs.Prelude.{List, [], ◌++◌, length, take, drop, codes}
use Rattle.std.specs.Fmt.{decimal}
use Rattle.acpi_base.specs.Bytes.{carried}
use Rattle.acpi_text.specs.Hex.{number_text}
use Rattle.acpi_json.specs.Text.{separator}

-- whether readers of JSON agree on the number that bytes have, lowest first: it is 2^53 or less
abbrev pub is_small : List ℕ → Bool
is_small bytes = nat_le (length bytes) 8 && nat_le (carried bytes) (2 ^ 53)

-- The number that bytes have, lowest first: a number, or if it is above 2^53 a string with all of its hexadecimal digits.
abbrev pub number : List ℕ → List ℕ
number bytes = if is_small bytes then decimal (carried bytes) else codes "\"0x" ++ number_text bytes ++ codes "\""

-- this many numbers of w bytes as the elements of a list
abbrev pub numbers : Bool → ℕ → ℕ → List ℕ → List ℕ
numbers first w zero bytes = []
numbers first w (suc n) bytes = separator first ++ (number (take w bytes) ++ numbers false w n (drop w bytes))
