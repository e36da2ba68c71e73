use Rattle.std.proofs.Common.{◌∙◌, arith}
use Rattle.acpi_layout.proofs.Images.{finished_is, pointer_is_at, pointer_has_bytes}
use Rattle.acpi_layout.proofs.layout.finish.Goals as goal

pub returns-clause-ok : goal.returns-clause-ok
returns-clause-ok c =
    finished_is _ _ c.len.result _ c.args.bytes.now.items _ _ _ _ _ _ c.new.result c.in_ok-xsdt.ensures.ok c.in_ok-pad.ensures.ok c.in_ok-append_value.ensures.ok c.in_ok-pad-2.ensures.ok
    c.in_ok-append_value-2.ensures.ok (c.len.ensures ∙ c.pad.new.bytes.ok.0) c.address-xsdt_addr.ensures.bytes c.new.ensures

pub returns-clause-rsdp : goal.returns-clause-rsdp
returns-clause-rsdp c = λ fits.
    pointer_is_at _ _ c.len.result _ c.args.bytes.now.items _ _ _ _ _ _ c.new.result c.in_ok-xsdt.ensures.ok c.in_ok-pad.ensures.ok c.in_ok-append_value.ensures.ok c.in_ok-pad-2.ensures.ok
    c.in_ok-append_value-2.ensures.ok c.len-2.result _ c.new.ensures (c.len-2.ensures ∙ c.pad-2.new.bytes.ok.0) c.address-rsdp.ensures.is fits

pub returns-clause-some : goal.returns-clause-some
returns-clause-some c =
    let more = pointer_has_bytes _ _ c.len.result _ c.args.bytes.now.items _ _ _ _ _ _ c.new.result c.in_ok-xsdt.ensures.ok c.in_ok-pad.ensures.ok c.in_ok-append_value.ensures.ok c.in_ok-pad-2.ensures.ok
    c.in_ok-append_value-2.ensures.ok c.new.ensures in
    omega (arith, more)
