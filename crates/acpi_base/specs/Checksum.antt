-- Checksums as sinks.
use Rattle.std.specs.Prelude.{◌≡◌, ℕ, ◌+◌, ◌%◌, List, [], ◌∷◌, sum, true, false, IsTrue, refl}
use Rattle.acpi_base.specs.Sink.{Meaning}

-- a checksum as a sink: it shows one byte, its sum
unfoldable pub checksum_of : ℕ → Meaning
checksum_of value = record {
  shows = λ more. (value + sum more) % 256 ∷ [];
  takes = λ _. true;
  tells = λ _. false;
  wants_memory = false;
}

pub checksum_takes : (value : ℕ) (bytes : List ℕ) → IsTrue ((checksum_of value).takes bytes)
unfolding checksum_of
checksum_takes value bytes = refl

pub checksum_wants_none : (value : ℕ) → (checksum_of value).wants_memory ≡ false
unfolding checksum_of
checksum_wants_none value = refl
