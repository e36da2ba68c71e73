use Rattle.acpi_base.proofs.Bytes.{carried_le}
use Rattle.acpi_arm.proofs.iort.iort_identifiers_are_read.Goals as goal

pub returns : goal.returns
returns c = record {
  its_groups = λ g small. carried_le 4 g.identifier small;
  named_components = λ n small. carried_le 4 n.identifier small;
  root_complexes = λ n small. carried_le 4 n.identifier small;
  earlier_root_complexes = λ n small. carried_le 4 n.root_complex.identifier small;
  smmus = λ s small. carried_le 4 s.identifier small;
  smmus_v3 = λ s small. carried_le 4 s.identifier small;
  monitors = λ p small. carried_le 4 p.identifier small;
  reserved = λ m small. carried_le 4 m.identifier small;
}
