-- Objects: what they write.
use Rattle.std.specs.Prelude.{◌≡◌, ◌≢◌, ℕ, List, [], ◌∷◌, ◌++◌, Bool, true, false, if◌then◌else◌, ◌||◌, ◌⊎◌, IsTrue, Option, Some}
use Rattle.std.specs.Prelude.{None, Result, Ok, Err}
use Rattle.acpi_base.specs.declared.error.Error.{Error}
use Rattle.acpi_base.specs.declared.error.Error.TheVariants.{Memory}
use Rattle.acpi_base.specs.Sink.{Meaning, Took, TookBeginning, IsTold}

-- What an object writes: its bytes; the error that it returns after them, if any; and whether it may itself run out of memory.
pub record Object : Type 0 where
  pub front : List ℕ
  pub end : Option Error
  pub wants_memory : Bool

-- an object that writes these bytes and returns no error
abbrev pub whole : List ℕ → Object
whole bytes = record { front = bytes; end = None; wants_memory = false }

pub whole_ends_well : (bytes : List ℕ) → (whole bytes).end ≢ Some Memory
whole_ends_well bytes is = cc

-- an object that returns this error before it writes anything; without an error, the other object
abbrev pub ended : Option Error → Object → Object
ended None object = object
ended (Some e) object = record { front = []; end = Some e; wants_memory = false }

-- an object if the test holds; otherwise one that returns this error
abbrev pub provided : Bool → Error → Object → Object
provided test e object = ended (if test then None else Some e) object

pub provided_ends_well : (test : Bool) (e : Error) (bytes : List ℕ) → e ≢ Memory
    → (provided test e (whole bytes)).end ≢ Some Memory
provided_ends_well true e bytes other is = whole_ends_well bytes is
provided_ends_well false e bytes other is = other cc

-- an object and then another, unless the first returns an error
abbrev pub joined_by : List ℕ → Bool → Object → Option Error → Object
joined_by front wants_memory next None = record {
  front = front ++ next.front;
  end = next.end;
  wants_memory = wants_memory || next.wants_memory;
}
joined_by front wants_memory next (Some e) = record {
  front = front;
  end = Some e;
  wants_memory = wants_memory || next.wants_memory;
}

abbrev pub chain : Object → Object → Object
chain first next = joined_by first.front first.wants_memory next first.end

-- objects in order, up to the first error
abbrev pub all_of : List Object → Object
all_of [] = whole []
all_of (o ∷ os) = chain o (all_of os)

-- The sink took all bytes of the object, and the object has no error.
pub record Wrote (object : Object) (old new : Meaning) : Type 0 where
  pub is_whole : object.end ≡ None
  pub took : Took old object.front new

-- The sink took all bytes of the object, and the object then returned its error.
pub record EndsIn (error : Error) (object : Object) (old new : Meaning) : Type 0 where
  pub end : object.end ≡ Some error
  pub took : Took old object.front new

-- The call returned an error, and the sink took a prefix of the bytes. `Memory` is returned only if the object or the sink
-- may run out of memory. Any other error is the object's own, after all of its bytes, or one of the sink, which doesn't take
-- these bytes.
pub record WriteRefused (error : Error) (object : Object) (old new : Meaning) : Type 0 where
  pub beginning : TookBeginning old object.front new
  pub memory : error ≡ Memory → IsTrue (object.wants_memory || old.wants_memory)
  pub cause : error ≢ Memory → EndsIn error object old new ⊎ IsTold error old object.front

-- An error of the object, and not of a sink: `Memory`, if the object may run out of it, or the object's own error.
pub record IsOwnRefusal (error : Error) (object : Object) : Type 0 where
  pub memory : error ≡ Memory → IsTrue object.wants_memory
  pub cause : error ≢ Memory → object.end ≡ Some error

-- The object's own error, or `Memory`.
pub record IsOwnEnd (error : Error) (object : Object) : Type 0 where
  pub cause : error ≢ Memory → object.end ≡ Some error

-- All bytes of an object without an error were written at the end of a list.
pub record Appended (object : Object) (old new : List ℕ) : Type 0 where
  pub is_whole : object.end ≡ None
  pub joined : new ≡ old ++ object.front

-- The object has no error, and these are its bytes.
pub record Built (object : Object) (bytes : List ℕ) : Type 0 where
  pub is_whole : object.end ≡ None
  pub is : bytes ≡ object.front

-- The result is the object's bytes if it has no error, and its error otherwise. Or memory ran out.
abbrev pub Builds : Result (List ℕ) Error → Object → Type 0
Builds (Ok bytes) object = Built object bytes
Builds (Err e) object = IsOwnEnd e object
