use Rattle.std.proofs.Common.{◌≡◌, ◌<◌, ◌^◌, ◌++◌, [], length, ap, arith}
use Rattle.acpi_nodes.specs.Entries.{records_joined}
use Rattle.acpi_nodes.specs.Rimt.{wire_fields, wire_bytes, iommu_head, iommu_bytes}
use Rattle.acpi_nodes.proofs.EntryLists.{head_and_entries}
use Rattle.acpi_nodes.proofs.Rimts.{iommu_size}
use Rattle.acpi_nodes.proofs.Told.{wrote_structure, refused_structure, refused_length}
use Rattle.acpi_nodes.proofs.rimt.IommuAml.to_aml_bytes.Goals as goal

written : (g : _) (c : goal.After-write_with_entries g) → (c.head.result ++ []) ++ records_joined wire_fields c.entries_of-wires.result.now ≡ iommu_bytes c.args.self.now
written g c = head_and_entries wire_bytes _ (iommu_head c.args.self.now) _ _ c.head.ensures c.entries_of-wires.ensures

small : (g : _) (c : goal.After-write_with_entries g) → length (iommu_bytes c.args.self.now) < 2 ^ 16
small g c = omega (arith, iommu_size c.args.self.now, ap length c.entries_of-wires.ensures, c.in_ok-size.ensures.ok)

pub returns-clause-ok : goal.returns-clause-ok
returns-clause-ok g c = wrote_structure _ (iommu_bytes c.args.self.now) _ _ _ (small g c) (written g c) c.write_with_entries.ensures.ok

pub returns-clause-err : goal.returns-clause-err
returns-clause-err g c = refused_structure _ (iommu_bytes c.args.self.now) _ _ _ (small g c) (written g c) c.write_with_entries.ensures.err

pub returns-in_err-size-clause-err : goal.returns-in_err-size-clause-err
returns-in_err-size-clause-err g c =
    refused_length _ (iommu_bytes c.args.self.now) _ _ _ (omega (arith, iommu_size c.args.self.now, ap length c.entries_of-wires.ensures)) c.from_residual.ensures.1 c.in_err-size.ensures.err
