use Rattle.std.proofs.Common.{Ok, Err, rules}
use Rattle.acpi_c_calls.specs.Lay.{IsImageFor, IsLayRefusal}
use Rattle.acpi_c_calls.specs.Results.{IsGiven}
use Rattle.acpi_c_calls.proofs.lay.lay.Goals as goal

pub returns-in-Ok : goal.returns-in-Ok
returns-in-Ok c =
    let image = c.in-Ok.image in
    let found : IsImageFor c.args.tables.now c.args.base image.rsdp image.bytes.items = search rules in
    let given : IsGiven (Ok image.bytes.items) c.args.out.now c.put.new.out c.put.result c.put.new.place c.put.new.size = search rules in
    record { outcome = Ok image.bytes.items; found = found; given = given }

pub returns-in-Err : goal.returns-in-Err
returns-in-Err c =
    let why : IsLayRefusal c.args.tables.now c.args.base 0 c.in-Err.refused = search rules in
    record { outcome = Err c.in-Err.refused; found = why; given = c.refuse.ensures }
