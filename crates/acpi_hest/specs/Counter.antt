-- Counters as sinks.
use Rattle.std.specs.Prelude.{◌≡◌, ℕ, ◌+◌, List, [], ◌∷◌, length, min, true, false, IsTrue, refl}
use Rattle.acpi_base.specs.Sink.{Meaning}

-- the greatest number of 64 bits
abbrev pub most_of_64_bits : ℕ
most_of_64_bits = 18446744073709551615

-- a counter as a sink: it shows the number of bytes that it took
unfoldable pub counter_of : ℕ → Meaning
counter_of count = record {
  shows = λ more. min (count + length more) most_of_64_bits ∷ [];
  takes = λ _. true;
  tells = λ _. false;
  wants_memory = false;
}

pub counter_takes : (count : ℕ) (bytes : List ℕ) → IsTrue ((counter_of count).takes bytes)
unfolding counter_of
counter_takes count bytes = refl

pub counter_wants_none : (count : ℕ) → (counter_of count).wants_memory ≡ false
unfolding counter_of
counter_wants_none count = refl
