use Rattle.std.proofs.Common.{ℕ, List, refl, sym, ap, ◌∙◌}
use denote.Param.Object.{read_made}
use Rattle.acpi_base.specs.Sink.{Meaning}
use Rattle.acpi_base.proofs.Buffers.{wrote_as, refused_as}
use Rattle.acpi_c_calls.specs.Held.{held_of}
use Rattle.acpi_c_calls.proofs.held.write_into.Goals as goal
use Rattle.acpi_c_calls.proofs.held.write_into.OwnLists

-- what is held, read through the `dyn` and back, is what is held
pub returns-clause-ok : goal.returns-clause-ok
returns-clause-ok g c =
    wrote_as _ _ _ _ _ _ (OwnLists.readsᵐ-meaning-1-1 _)
    (read_made OwnLists.own-1 OwnLists.entry-1-1 OwnLists.at-1-1 OwnLists.same-1-1 Meaning (λ j y. j.1.meaning y) _ _ _ c.held-1.given.2 ∙ ap (λ (h : List ℕ). held_of h) (sym (c.held-2-1.given.1 refl)))
    c.to_aml_bytes.ensures.ok

pub returns-clause-err : goal.returns-clause-err
returns-clause-err g c =
    refused_as _ _ _ _ _ _ (OwnLists.readsᵐ-meaning-1-1 _)
    (read_made OwnLists.own-1 OwnLists.entry-1-1 OwnLists.at-1-1 OwnLists.same-1-1 Meaning (λ j y. j.1.meaning y) _ _ _ c.held-1.given.2 ∙ ap (λ (h : List ℕ). held_of h) (sym (c.held-2-1.given.1 refl)))
    c.to_aml_bytes.ensures.err
