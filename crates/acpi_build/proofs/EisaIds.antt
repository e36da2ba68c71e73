-- Texts that aren't EISA ids.
use Rattle.std.proofs.Common.{◌≡◌, ℕ, List, None, refl, sym, ap, subst}
use Rattle.acpi_base.specs.declared.error.Error.{Error}
use Rattle.acpi_base.specs.declared.error.Error.TheVariants.{EisaText}
use Rattle.acpi_base.specs.Sink.{Meaning}
use Rattle.acpi_base.specs.Object.{Object, WriteRefused}
use Rattle.acpi_base.proofs.Objects.{gives_nothing}
use Rattle.acpi_aml.specs.Eisa.{eisa_value}
use Rattle.acpi_build.specs.EisaId.{number_of, eisa_id}

pub unreadable : (e : Error) (text : List ℕ) (m : Meaning) → (e ≡ EisaText) × (eisa_value text ≡ None) → WriteRefused e (eisa_id text) m m
unreadable e text m h =
    subst (λ (x : Error). WriteRefused x (eisa_id text) m m) (sym h.0)
    (subst (λ (o : Object). WriteRefused EisaText o m m) (sym (ap number_of h.1)) (gives_nothing EisaText (number_of None) m (λ is. cc) (refl, refl)))
