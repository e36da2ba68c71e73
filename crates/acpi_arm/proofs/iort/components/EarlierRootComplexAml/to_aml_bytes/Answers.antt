use Rattle.std.proofs.Common.{◌≡◌, ◌++◌, []}
use Rattle.acpi_base.proofs.Objects.{wrote_whole, refused_whole}
use Rattle.acpi_core.proofs.Parts.{two_parts}
use Rattle.acpi_arm.specs.IortNodes.{earlier_root_complex_head, earlier_root_complex_bytes}
use Rattle.acpi_arm.proofs.iort.components.EarlierRootComplexAml.to_aml_bytes.Goals as goal

written : (g : _) (c : goal.After-write_parts g) → c.head.result ++ (c.as_slice.result.now ++ []) ≡ earlier_root_complex_bytes c.args.self.now
written g c = two_parts _ _ (earlier_root_complex_head c.args.self.now) _ c.head.ensures c.as_slice.ensures.is

pub returns-clause-ok : goal.returns-clause-ok
returns-clause-ok g c = wrote_whole _ _ _ _ _ (written g c) c.write_parts.ensures.ok

pub returns-clause-err : goal.returns-clause-err
returns-clause-err g c = refused_whole _ _ _ _ _ (written g c) c.write_parts.ensures.err
