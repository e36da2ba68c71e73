use Rattle.std.proofs.Common.{refl}
use Rattle.acpi_forms.specs.Named.{node_tables}
use Rattle.acpi_forms.proofs.Named.{form_is_named}
use Rattle.acpi_forms.proofs.form.node_form.Goals as goal

pub returns : goal.returns
returns c =
    form_is_named c.args.signature _ node_tables _ _ _ c.find_form.ensures (
      refl,
      c.hest_form.ensures,
      (
        refl,
        c.rqsc_form.ensures,
        (
          refl,
          c.pptt_form.ensures,
          (
            refl,
            c.rhct_form.ensures,
            (
              refl,
              c.viot_form.ensures,
              (
                refl,
                c.rimt_form.ensures,
                (
                  refl,
                  c.hmat_form.ensures,
                  (
                    refl,
                    c.slit_form.ensures,
                    (tt),
                  ),
                ),
              ),
            ),
          ),
        ),
      ),
    ) c.arm_form-other.ensures
