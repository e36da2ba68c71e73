-- Sinks: what their contracts say.
use Rattle.std.specs.Prelude.{◌≡◌, ◌≢◌, ℕ, List, ◌++◌, Bool, false, IsTrue}
use Rattle.acpi_base.specs.declared.error.Error.{Error}
use Rattle.acpi_base.specs.declared.error.Error.TheVariants.{Memory}

-- The meaning of a sink: what it shows after it took a list of further bytes, whether it takes that list, which errors other than
-- `Memory` it returns for bytes that it doesn't take, and whether it may run out of memory.
pub record Meaning : Type 0 where
  pub shows : List ℕ → List ℕ
  pub takes : List ℕ → Bool
  pub tells : Error → Bool
  pub wants_memory : Bool

-- A sink after it took bytes. What a further list does to it is what both lists joined did before.
abbrev pub after : Meaning → List ℕ → Meaning
after sink bytes = record {
  shows = λ more. sink.shows (bytes ++ more);
  takes = λ more. sink.takes (bytes ++ more);
  tells = sink.tells;
  wants_memory = sink.wants_memory;
}

-- The sink took all bytes.
pub record Took (old : Meaning) (bytes : List ℕ) (new : Meaning) : Type 0 where
  pub moved : new ≡ after old bytes

-- The sink took a prefix of the bytes. The prefix may be empty, and may be all of them.
pub record TookBeginning (old : Meaning) (bytes : List ℕ) (new : Meaning) : Type 0 where
  pub part : List ℕ
  pub rest : List ℕ
  pub joined : part ++ rest ≡ bytes
  pub took : Took old part new

-- An error of the sink for bytes that it doesn't take. It doesn't depend on the bytes that follow.
pub record IsTold (error : Error) (sink : Meaning) (bytes : List ℕ) : Type 0 where
  pub told : IsTrue (sink.tells error)
  pub untaken : (more : List ℕ) → sink.takes (bytes ++ more) ≡ false

-- The sink returned an error and took a prefix of the bytes. The error is `Memory` only if the sink may run out of memory.
-- Any other error is one that the sink returns for bytes that it doesn't take.
pub record Refused (error : Error) (old : Meaning) (bytes : List ℕ) (new : Meaning) : Type 0 where
  pub beginning : TookBeginning old bytes new
  pub memory : error ≡ Memory → IsTrue old.wants_memory
  pub cause : error ≢ Memory → IsTold error old bytes
