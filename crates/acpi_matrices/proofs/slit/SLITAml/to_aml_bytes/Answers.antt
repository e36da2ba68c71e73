use Rattle.std.proofs.Common.{◌≡◌, ◌++◌, [], ap, ◌∙◌}
use Rattle.std.proofs.lemmas.List.{append-nil}
use Rattle.acpi_base.proofs.Objects.{wrote_whole, refused_whole}
use Rattle.acpi_matrices.specs.Slit.{slit_bytes}
use Rattle.acpi_matrices.proofs.Distances.{parts_bytes}
use Rattle.acpi_matrices.proofs.slit.SLITAml.to_aml_bytes.Goals as goal

-- what is written are the table's bytes
written : (g : _) (c : goal.After-write_parts g) → c.self.inside.fixed ++ (c.deref.result.now ++ []) ≡ slit_bytes c.args.self.now.table
written g c =
    ap (λ b. c.self.inside.fixed ++ (b ++ [])) c.deref.ensures.value ∙ ap (λ b. c.self.inside.fixed ++ b) (append-nil c.self.inside.cells.items)
    ∙ parts_bytes _ _ _ _ c.self.invariant ∙ ap (λ t. slit_bytes t.table) c.self.view_is

pub returns-clause-ok : goal.returns-clause-ok
returns-clause-ok g c = wrote_whole _ _ _ _ _ (written g c) c.write_parts.ensures.ok

pub returns-clause-err : goal.returns-clause-err
returns-clause-err g c = refused_whole _ _ _ _ _ (written g c) c.write_parts.ensures.err
