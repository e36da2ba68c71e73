use Rattle.std.proofs.Common.{refl, sym, ap, ◌∙◌}
use denote.Param.Object.{read_made}
use Rattle.acpi_base.specs.Sdt.{Contents}
use Rattle.acpi_base.specs.Sdt.{sdt_of}
use Rattle.acpi_base.specs.Sink.{Meaning}
use Rattle.acpi_base.proofs.Buffers.{wrote_as, refused_as}
use Rattle.acpi_base.proofs.sdt.write_into.Goals as goal
use Rattle.acpi_base.proofs.sdt.write_into.OwnLists

-- the table read through the `dyn` and back is the table
pub returns-clause-ok : goal.returns-clause-ok
returns-clause-ok g c =
    wrote_as _ _ _ _ _ _ (OwnLists.readsᵐ-meaning-2-1 _)
    (read_made OwnLists.own-2 OwnLists.entry-2-1 OwnLists.at-2-1 OwnLists.same-2-1 Meaning (λ j y. j.1.meaning y) _ _ _ c.table-1.given.2 ∙ ap (λ (t : Contents). sdt_of t.bytes) (sym (c.table-2-1.given.1 refl)))
    c.to_aml_bytes.ensures.0

pub returns-clause-err : goal.returns-clause-err
returns-clause-err g c =
    refused_as _ _ _ _ _ _ (OwnLists.readsᵐ-meaning-2-1 _)
    (read_made OwnLists.own-2 OwnLists.entry-2-1 OwnLists.at-2-1 OwnLists.same-2-1 Meaning (λ j y. j.1.meaning y) _ _ _ c.table-1.given.2 ∙ ap (λ (t : Contents). sdt_of t.bytes) (sym (c.table-2-1.given.1 refl)))
    c.to_aml_bytes.ensures.1
