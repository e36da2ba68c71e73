-- Packages to which elements are added.
use Rattle.std.specs.Prelude.{ℕ, ◌+◌, nat_lt, List, [], ◌∷◌, ◌++◌, true, false, IsTrue, refl}
use Rattle.acpi_base.specs.declared.error.Error.TheVariants.{PackageElements}
use Rattle.acpi_base.specs.Sink.{Meaning}
use Rattle.acpi_base.specs.Object.{Object, whole, provided}
use Rattle.acpi_term.specs.Tree.{def_package}
use Rattle.acpi_term.specs.Row.{layout, around}

-- the bytes of the elements, and the number of elements
pub record Builder : Type 0 where
  pub bytes : List ℕ
  pub elements : ℕ

abbrev pub new_builder : Builder
new_builder = record { bytes = []; elements = 0 }

-- an element, or `PackageElements` if there are 255 already
abbrev pub element_of : Builder → Object → Object
element_of b object = provided (nat_lt b.elements 255) PackageElements object

abbrev pub with_element : Builder → Object → Builder
with_element b object = record { bytes = b.bytes ++ object.front; elements = b.elements + 1 }

abbrev pub with_elements : Builder → List Object → Builder
with_elements b [] = b
with_elements b (object ∷ objects) = with_elements (with_element b object) objects

-- the package that a builder writes
abbrev pub package_of : Builder → Object
package_of b = around (layout def_package 0 b.elements) (whole b.bytes)

-- As a sink it shows its count and then all its bytes, and counts no element.
unfoldable pub builder_of : Builder → Meaning
builder_of b = record {
  shows = λ more. b.elements ∷ b.bytes ++ more;
  takes = λ _. true;
  tells = λ _. false;
  wants_memory = true;
}

pub builder_takes : (b : Builder) (bytes : List ℕ) → IsTrue ((builder_of b).takes bytes)
unfolding builder_of
builder_takes b bytes = refl
