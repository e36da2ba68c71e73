use Rattle.std.proofs.Common.{map, ap, ◌∙◌}
use Rattle.acpi_loader.specs.Command.{script_of}
use Rattle.acpi_loader.specs.Places.{commands_of}
use Rattle.acpi_loader.specs.declared.places.Places.{Places}
use Rattle.acpi_loader.proofs.Placed.{numbers, tables_are, rsdp_is, rsdp_inside, rsdp_before, fadt_inside, xsdt_inside}
use Rattle.acpi_loader.proofs.loader.loader_for.Goals as goal

pub places_of-places-requires : goal.places_of-places-requires
places_of-places-requires c = c.requires

pub tables_of-requires : goal.tables_of-requires
tables_of-requires c =
    let e = c.places_of-places.ensures in
    let k = numbers (map (λ file. file.items) c.args.files.now) c.args.image.now c.places_of-places.ensures.0 c.places_of-places.ensures.1 in
    let fadt = ap (λ (p : Places). p.fadt) e.2 in
    let xsdt = ap (λ (p : Places). p.xsdt) e.2 in
    let count = ap (λ (p : Places). p.count) e.2 in
    record {
      rsdp = rsdp_before _ _ _ k c.as_slice-bytes.result.now c.as_slice-bytes.ensures.value e.1;
      fadt = (fadt_inside _ _ _ k c.places_of-places.result.fadt e.1.are.has_fields fadt).0;
      xsdt = (xsdt_inside _ _ _ k c.places_of-places.result.xsdt c.places_of-places.result.count xsdt count).0;
    }

pub rsdp_of-requires : goal.rsdp_of-requires
rsdp_of-requires c =
    let e = c.places_of-places.ensures in
    let k = numbers (map (λ file. file.items) c.args.files.now) c.args.image.now c.places_of-places.ensures.0 c.places_of-places.ensures.1 in
    let fadt = ap (λ (p : Places). p.fadt) e.2 in
    let xsdt = ap (λ (p : Places). p.xsdt) e.2 in
    let count = ap (λ (p : Places). p.count) e.2 in
    rsdp_inside _ _ _ k c.as_slice-bytes.result.now c.as_slice-bytes.ensures.value e.1

pub script_of-requires : goal.script_of-requires
script_of-requires c =
    let e = c.places_of-places.ensures in
    let k = numbers (map (λ file. file.items) c.args.files.now) c.args.image.now c.places_of-places.ensures.0 c.places_of-places.ensures.1 in
    let fadt = ap (λ (p : Places). p.fadt) e.2 in
    let xsdt = ap (λ (p : Places). p.xsdt) e.2 in
    let count = ap (λ (p : Places). p.count) e.2 in
    record {
      fadt = (fadt_inside _ _ _ k c.places_of-places.result.fadt e.1.are.has_fields fadt).1;
      xsdt = (xsdt_inside _ _ _ k c.places_of-places.result.xsdt c.places_of-places.result.count xsdt count).1;
    }

pub returns : goal.returns
returns c =
    let e = c.places_of-places.ensures in
    let k = numbers (map (λ file. file.items) c.args.files.now) c.args.image.now c.places_of-places.ensures.0 c.places_of-places.ensures.1 in
    let fadt = ap (λ (p : Places). p.fadt) e.2 in
    let xsdt = ap (λ (p : Places). p.xsdt) e.2 in
    let count = ap (λ (p : Places). p.count) e.2 in
    record {
      all = e.0;
      are = e.1.are;
      small = e.1.small;
      tables = c.in_ok-tables.ensures ∙ tables_are _ _ _ k c.as_slice-bytes.result.now c.as_slice-bytes.ensures.value e.1 c.places_of-places.result.fadt c.places_of-places.result.xsdt fadt xsdt;
      rsdp = c.in_ok-rsdp.ensures ∙ rsdp_is _ _ _ k c.as_slice-bytes.result.now c.as_slice-bytes.ensures.value e.1;
      script = c.in_ok-script.ensures ∙ ap (λ (p : Places). script_of (commands_of p)) e.2;
    }
