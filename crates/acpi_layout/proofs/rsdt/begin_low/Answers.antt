use Rattle.std.proofs.Common.{◌∙◌, ap}
use Rattle.acpi_fixed.specs.Fadt.{with_dsdt}
use Rattle.acpi_layout.proofs.Low.{low_begun}
use Rattle.acpi_layout.proofs.rsdt.begin_low.Goals as goal

pub returns-clause-ok : goal.returns-clause-ok
returns-clause-ok c =
    low_begun _ _ _ _ c.len.result _ _ _ _ _ _ _ _ c.args.fadt c.finalize.result c.requires.new.1 c.in_ok-control.ensures.address c.in_ok-control.ensures.bytes (c.len.ensures ∙ c.place_control.new.bytes.ok.0)
    c.low_address.ensures c.low_address-dsdt.ensures c.in_ok-append_value.ensures.ok c.in_ok-begin.ensures.bytes c.in_ok-begin.ensures.places
    (c.finalize.ensures ∙ c.dsdt_32.ensures ∙ ap (with_dsdt c.low_address-dsdt.result 0) c.firmware_ctrl_32.ensures) c.in_ok-append_value-2.ensures.ok
