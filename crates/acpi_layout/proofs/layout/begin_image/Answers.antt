use Rattle.std.proofs.Common.{◌∙◌, ap}
use Rattle.acpi_fixed.specs.Fadt.{with_dsdt, with_facs}
use Rattle.acpi_layout.proofs.Images.{begun_is}
use Rattle.acpi_layout.proofs.layout.begin_image.Goals as goal

pub returns-clause-ok : goal.returns-clause-ok
returns-clause-ok c =
    begun_is _ _ c.len.result _ _ _ _ _ _ _ _ c.args.fadt c.finalize.result c.requires.new.1 c.in_ok-control.ensures.bytes (c.len.ensures ∙ c.place_control.new.bytes.ok.0) c.address-dsdt.ensures.bytes
    c.in_ok-append_value.ensures.ok c.in_ok-begin.ensures.bytes c.in_ok-begin.ensures.places
    (c.finalize.ensures ∙ c.dsdt_64.ensures ∙ ap (with_dsdt 0 c.address-dsdt.result) (c.firmware_ctrl_64.ensures ∙ ap (λ at. with_facs 0 at c.args.fadt) c.in_ok-control.ensures.address)) c.in_ok-append_value-2.ensures.ok
