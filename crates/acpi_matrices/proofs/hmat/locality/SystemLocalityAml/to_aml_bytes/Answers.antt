use Rattle.std.proofs.Common.{◌≡◌, ◌++◌, [], ap, ◌∙◌}
use Rattle.acpi_base.proofs.Objects.{wrote_whole, refused_whole}
use Rattle.acpi_matrices.specs.Locality.{locality_head, locality_bytes}
use Rattle.acpi_core.proofs.Parts.{two_parts}
use Rattle.acpi_matrices.proofs.hmat.locality.SystemLocalityAml.to_aml_bytes.Goals as goal

written : (g : _) (c : goal.After-write_parts g) → c.head.result ++ (c.deref.result.now ++ []) ≡ locality_bytes c.args.self.now
written g c = two_parts _ _ (locality_head c.args.self.now) _ c.head.ensures c.deref.ensures.value ∙ ap (λ x. locality_head c.args.self.now ++ x.lists) c.self.view_is

pub returns-clause-ok : goal.returns-clause-ok
returns-clause-ok g c = wrote_whole _ _ _ _ _ (written g c) c.write_parts.ensures.ok

pub returns-clause-err : goal.returns-clause-err
returns-clause-err g c = refused_whole _ _ _ _ _ (written g c) c.write_parts.ensures.err
