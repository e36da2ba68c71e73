use Rattle.std.proofs.Common.{refl}
use Rattle.acpi_forms.specs.Named.{tables, names_of}
use Rattle.acpi_forms.proofs.Named.{form_is_named}
use Rattle.acpi_forms.proofs.form.form_of.Goals as goal

pub returns : goal.returns
unfolding names_of
returns c =
    form_is_named c.args.signature _ tables _ _ _ c.find_form.ensures (
      refl,
      c.xsdt_form.ensures,
      (
        refl,
        c.fadt_form.ensures,
        (
          refl,
          c.facs_form.ensures,
          (
            refl,
            c.dsdt_form.ensures,
            (
              refl,
              c.ssdt_form.ensures,
              (
                refl,
                c.bert_form.ensures,
                (
                  refl,
                  c.spcr_form.ensures,
                  (
                    refl,
                    c.tcpa_form.ensures,
                    (
                      refl,
                      c.tpm2_form.ensures,
                      (
                        refl,
                        c.mcfg_form.ensures,
                        (
                          refl,
                          c.madt_form.ensures,
                          (
                            refl,
                            c.srat_form.ensures,
                            (
                              refl,
                              c.cedt_form.ensures,
                              (tt),
                            ),
                          ),
                        ),
                      ),
                    ),
                  ),
                ),
              ),
            ),
          ),
        ),
      ),
    ) c.node_form-other.ensures
