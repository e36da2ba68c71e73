-- Address spaces: their size, and when they are refused.
use Rattle.std.proofs.Common.{◌≡◌, ℕ, ◌+◌, ◌*◌, List, [], ◌++◌, length, Bool, true, false, Some, refl, sym, ap, ◌∙◌, arith}
use Rattle.std.proofs.lemmas.List.{length-append}
use Rattle.acpi_base.specs.declared.error.Error.{Error}
use Rattle.acpi_base.specs.declared.error.Error.TheVariants.{AddressRange}
use Rattle.acpi_base.specs.Bytes.{le}
use Rattle.acpi_base.specs.Sink.{Meaning}
use Rattle.acpi_base.specs.Object.{whole, provided, WriteRefused}
use Rattle.acpi_base.proofs.Objects.{refused_unprovided, provided_front}
use Rattle.acpi_base.proofs.Bytes.{length_le}
use Rattle.acpi_ops.specs.declared.address_space.AddressSpace.{AddressSpace}
use Rattle.acpi_ops.specs.AddressSpace.{or_zero, granularity_in, size_of, is_range, spaced, space_bytes, space}

tested : (test : Bool) (bytes : List ℕ) (e : Error) → (provided test AddressRange (whole bytes)).end ≡ Some e → test ≡ false
tested true bytes e h = absurd cc
tested false bytes e h = refl

pub numbers : (w a b c d e : ℕ) → length (le w a ++ (le w b ++ (le w c ++ (le w d ++ (le w e ++ []))))) ≡ 5 * w
numbers w a b c d e =
    omega (
      arith,
      length_le w a,
      length_le w b,
      length_le w c,
      length_le w d,
      length_le w e,
      length-append (le w a) (le w b ++ (le w c ++ (le w d ++ (le w e ++ [])))),
      length-append (le w b) (le w c ++ (le w d ++ (le w e ++ []))),
      length-append (le w c) (le w d ++ (le w e ++ [])),
      length-append (le w d) (le w e ++ []),
      length-append (le w e) [],
    )

module _ {T : Type 0} (number : T → ℕ) (tag w : ℕ) (a : AddressSpace T) where
  pub spaced_length : (size : ℕ) (fields : List ℕ) → fields ≡ spaced number size tag w a → length fields ≡ 6 + 5 * w
  spaced_length size fields is =
      let n = numbers w (granularity_in number a.movable) (number a.min) (number a.max) (or_zero number a.translation) (size_of number a) in
      ap length is ∙ omega (arith, n)

  pub space_length : (fields : List ℕ) → fields ≡ space_bytes number tag w a → length fields ≡ 6 + 5 * w
  space_length fields is = spaced_length (3 + 5 * w) fields is

  pub space_refused : (e : Error) (m : Meaning) → e ≡ AddressRange → (space number tag w a).end ≡ Some e → WriteRefused e (space number tag w a) m m
  space_refused e m is end = refused_unprovided e AddressRange _ _ m (λ memory. cc) (tested (is_range number w a) (space_bytes number tag w a) e end) is

  pub space_front : (fields : List ℕ) → is_range number w a ≡ true → fields ≡ space_bytes number tag w a → (space number tag w a).front ≡ fields
  space_front fields range is = provided_front AddressRange (is_range number w a) (whole (space_bytes number tag w a)) range ∙ sym is
