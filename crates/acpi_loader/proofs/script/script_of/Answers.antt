use Rattle.acpi_loader.specs.Places.{allocations, facs_commands, fadt_commands, xsdt_commands, rsdp_commands}
use Rattle.acpi_loader.proofs.Joined.{all_commands}
use Rattle.acpi_loader.proofs.script.script_of.Goals as goal

pub returns : goal.returns
returns c =
    let places = c.args.places.now in
    all_commands allocations (facs_commands places.has_facs places.fadt) (fadt_commands places.fadt places.fadt_size)
    (xsdt_commands places.xsdt places.count) rsdp_commands _ _ _ _ _ _ c.new-script.ensures.items c.in_ok-push_allocations.ensures
    c.in_ok-push_facs.ensures c.in_ok-push_fadt.ensures c.in_ok-push_xsdt.ensures c.in_ok-push_rsdp.ensures
