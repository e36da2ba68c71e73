-- Objects that are short, and take no memory.
use Rattle.std.proofs.Common.{◌≡◌, ℕ, ◌+◌, ◌*◌, ◌≤◌, Bool, true, false, List, ◌∷◌, length, refl, ap, arith}
use Rattle.std.specs.Str.{IsUtf8, is_utf8}
use Rattle.std.proofs.lemmas.Str.{IsUtf8-from_is_utf8, is_utf8-from_IsUtf8}
use Rattle.std.proofs.lemmas.Bool.Decides.{nat_tests}
use Rattle.acpi_base.specs.Number.{number}
use Rattle.acpi_aml.specs.Uuid.{IsUuid}
use Rattle.acpi_aml.proofs.Buffers.{sixteen}
use Rattle.acpi_term.specs.Template.{buffer_of_bytes}
use Rattle.acpi_base.specs.declared.error.Error.{Error}
use Rattle.acpi_base.specs.declared.error.Error.TheVariants.{AddressRange}
use Rattle.acpi_base.specs.Object.{whole, provided}
use Rattle.acpi_ops.specs.declared.address_space.AddressSpace.{AddressSpace}
use Rattle.acpi_ops.specs.AddressSpace.{is_range, space_bytes, space}
use Rattle.acpi_ops.proofs.Spaces.{space_length}

provided_few : (test : Bool) (e : Error) (bytes : List ℕ) → length bytes ≤ 1024 → length (provided test e (whole bytes)).front ≤ 1024
provided_few true e bytes few = few
provided_few false e bytes few = omega arith

provided_dry : (test : Bool) (e : Error) (bytes : List ℕ) → (provided test e (whole bytes)).wants_memory ≡ false
provided_dry true e bytes = refl
provided_dry false e bytes = refl

module _ {T : Type 0} (number : T → ℕ) (tag w : ℕ) (a : AddressSpace T) where
  pub space_few : w ≤ 8 → length (space number tag w a).front ≤ 1024
  space_few narrow =
      let size : length (space_bytes number tag w a) ≡ 6 + 5 * w = space_length number tag w a (space_bytes number tag w a) refl in
      provided_few (is_range number w a) AddressRange (space_bytes number tag w a) (omega (arith, size, narrow))

  pub space_dry : (space number tag w a).wants_memory ≡ false
  space_dry = provided_dry (is_range number w a) AddressRange (space_bytes number tag w a)

-- ---- numbers, and texts

pub number_few : (v : ℕ) → length (number v) ≤ 9
number_few v = grind (arith, nat_tests)

no_text : (test : Bool) (bytes : List ℕ) → is_utf8 bytes ≡ test → ¬ (IsUtf8 bytes) → is_utf8 bytes ≡ false
no_text true bytes is none = absurd (none (IsUtf8-from_is_utf8 bytes is))
no_text false bytes is none = is

pub is_text : (bytes : List ℕ) → IsUtf8 bytes → is_utf8 bytes ≡ true
is_text bytes is = is_utf8-from_IsUtf8 bytes is

pub is_no_text : (bytes : List ℕ) → ¬ (IsUtf8 bytes) → is_utf8 bytes ≡ false
is_no_text bytes none = no_text (is_utf8 bytes) bytes refl none

-- ---- buffers of 16 bytes

pub uuid_few : (u : List ℕ) → IsUuid u → length (buffer_of_bytes u).front ≤ 1024
uuid_few u is =
    let n : length (buffer_of_bytes u).front ≡ length (17 ∷ 19 ∷ 10 ∷ 16 ∷ u) = ap (λ o. length o.front) (sixteen u is.size) in
    omega (arith, n, is.size)

pub uuid_dry : (u : List ℕ) → IsUuid u → (buffer_of_bytes u).wants_memory ≡ false
uuid_dry u is = ap (λ o. o.wants_memory) (sixteen u is.size)
