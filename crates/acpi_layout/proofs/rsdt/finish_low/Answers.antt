use Rattle.std.proofs.Common.{◌∙◌}
use Rattle.acpi_layout.proofs.Low.{low_finished, low_pointed}
use Rattle.acpi_layout.proofs.rsdt.finish_low.Goals as goal

pub returns-clause-ok : goal.returns-clause-ok
returns-clause-ok c =
    low_finished c.args.base c.args.oem c.args.bytes.now.items c.args.places.now _ c.in_ok-pad.ensures.ok _ _ c.in_ok-rsdt.ensures.ok c.in_ok-append_value.ensures.ok

pub returns-clause-pointer : goal.returns-clause-pointer
returns-clause-pointer c =
    low_pointed c.args.base c.args.oem c.args.bytes.now.items c.args.places.now _ c.in_ok-pad.ensures.ok _ c.len.result c.new.result _ (c.len.ensures ∙ c.pad.new.bytes.ok.0) c.low_address-rsdt_addr.ensures
    c.new.ensures c.bytes.ensures
