use Rattle.std.proofs.Common.{◌≡◌, ◌<◌, ◌^◌, ◌++◌, [], length, ap, arith}
use Rattle.acpi_nodes.specs.Entries.{records_joined}
use Rattle.acpi_nodes.specs.Rimt.{mapping_fields, mapping_bytes, root_complex_head, root_complex_bytes}
use Rattle.acpi_nodes.proofs.EntryLists.{head_and_entries}
use Rattle.acpi_nodes.proofs.Rimts.{root_complex_size}
use Rattle.acpi_nodes.proofs.Told.{wrote_structure, refused_structure, refused_length}
use Rattle.acpi_nodes.proofs.rimt.PcieRootComplexAml.to_aml_bytes.Goals as goal

written : (g : _) (c : goal.After-write_with_entries g) → (c.head.result ++ []) ++ records_joined mapping_fields c.entries_of-mappings.result.now ≡ root_complex_bytes c.args.self.now
written g c = head_and_entries mapping_bytes _ (root_complex_head c.args.self.now) _ _ c.head.ensures c.entries_of-mappings.ensures

small : (g : _) (c : goal.After-write_with_entries g) → length (root_complex_bytes c.args.self.now) < 2 ^ 16
small g c = omega (arith, root_complex_size c.args.self.now, ap length c.entries_of-mappings.ensures, c.in_ok-size.ensures.ok)

pub returns-clause-ok : goal.returns-clause-ok
returns-clause-ok g c = wrote_structure _ (root_complex_bytes c.args.self.now) _ _ _ (small g c) (written g c) c.write_with_entries.ensures.ok

pub returns-clause-err : goal.returns-clause-err
returns-clause-err g c = refused_structure _ (root_complex_bytes c.args.self.now) _ _ _ (small g c) (written g c) c.write_with_entries.ensures.err

pub returns-in_err-size-clause-err : goal.returns-in_err-size-clause-err
returns-in_err-size-clause-err g c =
    refused_length _ (root_complex_bytes c.args.self.now) _ _ _ (omega (arith, root_complex_size c.args.self.now, ap length c.entries_of-mappings.ensures)) c.from_residual.ensures.1 c.in_err-size.ensures.err
