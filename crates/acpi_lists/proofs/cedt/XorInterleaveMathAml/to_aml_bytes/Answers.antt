use Rattle.std.proofs.Common.{◌≡◌, ◌++◌, [], ap, ◌∙◌}
use Rattle.acpi_base.proofs.Objects.{wrote_whole, refused_whole}
use Rattle.acpi_lists.specs.Cedt.{maps_head, maps_bytes}
use Rattle.acpi_core.proofs.Parts.{two_parts}
use Rattle.acpi_lists.proofs.cedt.XorInterleaveMathAml.to_aml_bytes.Goals as goal

written : (g : _) (c : goal.After-write_parts g) → c.head.result ++ (c.as_slice.result.now ++ []) ≡ maps_bytes c.args.self.now
written g c = two_parts _ _ (maps_head c.args.self.now) _ c.head.ensures c.as_slice.ensures.is ∙ ap (λ x. maps_head c.args.self.now ++ x.maps) c.self.view_is

pub returns-clause-ok : goal.returns-clause-ok
returns-clause-ok g c = wrote_whole _ _ _ _ _ (written g c) c.write_parts.ensures.ok

pub returns-clause-err : goal.returns-clause-err
returns-clause-err g c = refused_whole _ _ _ _ _ (written g c) c.write_parts.ensures.err
