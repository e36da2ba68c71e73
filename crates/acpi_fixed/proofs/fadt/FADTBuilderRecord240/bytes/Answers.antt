use Rattle.std.proofs.Common.{[], ◌∷◌, ◌++◌, ◌∙◌}
use Rattle.acpi_base.specs.Fields.{fields_joined}
use Rattle.acpi_fixed.specs.Fadt.{legacy_fields, extended_fields}
use Rattle.acpi_fixed.proofs.Registers.{registered}
use Rattle.acpi_fixed.proofs.fadt.FADTBuilderRecord240.bytes.Goals as goal

pub returns : goal.returns
returns c =
    let f = c.args.self.now in
    c.record_of.ensures
    ∙ λ i. fields_joined (legacy_fields f ++ registered (extended_fields f)
    (c.bytes.ensures i ∷ c.bytes-2.ensures i ∷ c.bytes-3.ensures i ∷ c.bytes-4.ensures i ∷ c.bytes-5.ensures i ∷ c.bytes-6.ensures i
    ∷ c.bytes-7.ensures i ∷ c.bytes-8.ensures i ∷ c.bytes-9.ensures i ∷ c.bytes-10.ensures i ∷ c.bytes-11.ensures i ∷ []))
