-- Bytes that are held as a sink.
use Rattle.std.specs.Prelude.{◌≡◌, ℕ, List, ◌++◌, take, true, false, IsTrue, refl}
use Rattle.acpi_base.specs.Sink.{Meaning}

-- held bytes as a sink: it takes all bytes, and shows the first 1024
unfoldable pub held_of : List ℕ → Meaning
held_of held = record {
  shows = λ more. take 1024 (held ++ more);
  takes = λ _. true;
  tells = λ _. false;
  wants_memory = false;
}

pub held_takes : (held bytes : List ℕ) → IsTrue ((held_of held).takes bytes)
unfolding held_of
held_takes held bytes = refl

pub held_wants_none : (held : List ℕ) → (held_of held).wants_memory ≡ false
unfolding held_of
held_wants_none held = refl
