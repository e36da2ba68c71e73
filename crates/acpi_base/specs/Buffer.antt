-- Vectors of bytes as sinks.
use Rattle.std.specs.Prelude.{ℕ, List, ◌++◌, true, false, IsTrue, refl, Vec}
use Rattle.std.specs.declared.alloc.Global.{Global}
use Rattle.acpi_base.specs.Sink.{Meaning}

-- a vector as a sink: it shows all its bytes, and `Memory` is its only error
unfoldable pub buffer_of : Vec ℕ Global → Meaning
buffer_of held = record {
  shows = λ more. held.items ++ more;
  takes = λ _. true;
  tells = λ _. false;
  wants_memory = true;
}

pub buffer_takes : (held : Vec ℕ Global) (bytes : List ℕ) → IsTrue ((buffer_of held).takes bytes)
unfolding buffer_of
buffer_takes held bytes = refl
