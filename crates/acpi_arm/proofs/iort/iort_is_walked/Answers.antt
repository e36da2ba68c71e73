use Rattle.std.proofs.Common.{◌≡◌, ℕ, List, [], ◌∷◌, rules}
use Rattle.std.specs.Prelude.{None}
use Rattle.acpi_base.specs.declared.error.Error.TheVariants.{FieldWidth}
use Rattle.acpi_base.specs.Object.{whole}
use Rattle.acpi_base.proofs.Objects.{is_provided, provided_front}
use Rattle.acpi_core.specs.Offset.{StandIn}
use Rattle.acpi_core.specs.Structure.{structure_of, fits_word}
use Rattle.acpi_arm.specs.IortNodes.{its_group_bytes, component_bytes, root_complex_bytes, earlier_root_complex_bytes}
use Rattle.acpi_arm.specs.IortSmmus.{smmu_bytes, smmu_v3_bytes}
use Rattle.acpi_arm.proofs.iort.iort_is_walked.Goals as goal

-- a structure that isn't refused begins as its bytes do
begins : (bytes kind : List ℕ) → StandIn bytes 0 kind → (structure_of bytes).end ≡ None → StandIn (structure_of bytes).front 0 kind
begins bytes kind stands is_whole =
    let holds = is_provided FieldWidth (fits_word bytes) bytes is_whole in
    rw (provided_front FieldWidth (fits_word bytes) (whole bytes) holds) stands

-- each node begins with its type
pub returns-clause-nodes : goal.returns-clause-nodes
returns-clause-nodes c =
    let holds = c.is_walked.ensures.nodes.holds in
    record {
      its_groups = λ g. holds (whole (its_group_bytes g)) (0 ∷ []) (search rules);
      named_components = λ g. holds (structure_of (component_bytes g)) (1 ∷ []) (begins (component_bytes g) (1 ∷ []) (search rules));
      root_complexes = λ g. holds (whole (root_complex_bytes g)) (2 ∷ []) (search rules);
      earlier_root_complexes = λ g. holds (whole (earlier_root_complex_bytes g)) (2 ∷ []) (search rules);
      smmus = λ g. holds (structure_of (smmu_bytes g)) (3 ∷ []) (begins (smmu_bytes g) (3 ∷ []) (search rules));
      smmus_v3 = λ g. holds (whole (smmu_v3_bytes g)) (4 ∷ []) (search rules);
    }
