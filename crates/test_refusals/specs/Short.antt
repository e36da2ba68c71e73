-- The sink of the tests, which has little room, and the objects that are written to it.
use Rattle.std.specs.Prelude.{ℕ, List, [], ◌++◌, ◌≡◌, length, nat_le, ◌==◌, Bool, true, false, IsTrue, None}
use Rattle.std.proofs.Common.{arith, length-append}
use Rattle.std.proofs.lemmas.Bool.Decides.{nat_tests}
use Rattle.acpi_base.specs.declared.error.Error.{Error}
use Rattle.acpi_base.specs.declared.error.Error.TheVariants.{Sink}
use Rattle.acpi_base.specs.Object.{Object}
use Rattle.acpi_base.specs.Sink.{Meaning}

-- an object without an error, of this many bytes
abbrev pub IsOfSize : ℕ → Object → Type 0
IsOfSize size object = (object.end ≡ None) × (length object.front ≡ size)

abbrev pub is_seventh : Error → Bool
is_seventh (Sink n) = n == 7
is_seventh _ = false

-- a sink that has some bytes, has room for this many more, and returns Sink(7) for others
unfoldable pub short_of : List ℕ → ℕ → Meaning
short_of held room =
    record { shows = λ more. held ++ more; takes = λ more. nat_le (length more) room; tells = is_seventh; wants_memory = true }

pub short_takes_nothing : (held : List ℕ) (room : ℕ) → IsTrue ((short_of held room).takes [])
unfolding short_of
short_takes_nothing held room = grind (arith, nat_tests)

pub short_takes_beginning : (held : List ℕ) (room : ℕ) (a b : List ℕ) → IsTrue ((short_of held room).takes (a ++ b))
    → IsTrue ((short_of held room).takes a)
unfolding short_of
short_takes_beginning held room a b taken = grind (arith, nat_tests, length-append a b, taken)
