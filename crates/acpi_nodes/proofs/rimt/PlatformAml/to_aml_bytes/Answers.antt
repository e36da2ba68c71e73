use Rattle.std.proofs.Common.{◌≡◌, ◌<◌, ◌^◌, ◌++◌, [], ◌∷◌, length, ap, arith}
use Rattle.acpi_nodes.specs.Entries.{records_joined}
use Rattle.acpi_nodes.specs.Rimt.{mapping_fields, mapping_bytes, platform_head, platform_bytes}
use Rattle.acpi_nodes.proofs.EntryLists.{text_and_entries}
use Rattle.acpi_nodes.proofs.Rimts.{platform_size}
use Rattle.acpi_nodes.proofs.Told.{wrote_structure, refused_structure, refused_length}
use Rattle.acpi_nodes.proofs.rimt.PlatformAml.to_aml_bytes.Goals as goal

written : (g : _) (c : goal.After-write_with_entries g) → (c.head-head.result ++ (c.as_bytes-name.result.now ++ 0 ∷ [])) ++ records_joined mapping_fields c.entries_of-mappings.result.now ≡ platform_bytes c.args.self.now
written g c = text_and_entries mapping_bytes _ (platform_head c.args.self.now) _ _ _ _ c.head-head.ensures c.as_bytes-name.ensures.value c.entries_of-mappings.ensures

small : (g : _) (c : goal.After-write_with_entries g) → length (platform_bytes c.args.self.now) < 2 ^ 16
small g c =
    omega (arith, platform_size c.args.self.now, ap length c.as_bytes-name.ensures.value, ap length c.entries_of-mappings.ensures, c.in_ok-start.ensures.ok, c.in_ok-size.ensures.ok)

pub returns-clause-ok : goal.returns-clause-ok
returns-clause-ok g c = wrote_structure _ (platform_bytes c.args.self.now) _ _ _ (small g c) (written g c) c.write_with_entries.ensures.ok

pub returns-clause-err : goal.returns-clause-err
returns-clause-err g c = refused_structure _ (platform_bytes c.args.self.now) _ _ _ (small g c) (written g c) c.write_with_entries.ensures.err

pub returns-in_err-start-clause-err : goal.returns-in_err-start-clause-err
returns-in_err-start-clause-err g c =
    refused_length _ (platform_bytes c.args.self.now) _ _ _ (omega (arith, platform_size c.args.self.now, ap length c.as_bytes-name.ensures.value)) c.from_residual.ensures.1 c.in_err-start.ensures.err

pub returns-in_err-size-clause-err : goal.returns-in_err-size-clause-err
returns-in_err-size-clause-err g c =
    refused_length _ (platform_bytes c.args.self.now) _ _ _
    (omega (arith, platform_size c.args.self.now, ap length c.as_bytes-name.ensures.value, ap length c.entries_of-mappings.ensures, c.in_ok-start.ensures.ok))
    c.from_residual-in_err-size.ensures.1 c.in_err-size.ensures.err
