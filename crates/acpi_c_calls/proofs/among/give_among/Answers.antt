use Rattle.std.proofs.Common.{Ok, Err, rules}
use Rattle.acpi_c_calls.specs.Among.{IsAmong, IsAmongRefusal}
use Rattle.acpi_c_calls.specs.Results.{IsGiven}
use Rattle.acpi_c_calls.proofs.among.give_among.Goals as goal

pub returns-in-Ok : goal.returns-in-Ok
returns-in-Ok c =
    let among = c.in-Ok.among in
    let found : IsAmong c.args.block c.args.arities.now c.args.further.now c.args.bytes.now among.unread among.text.items = search rules in
    let given : IsGiven (Ok among.text.items) c.args.out.now c.put.new.out c.put.result c.put.new.place c.put.new.size = search rules in
    record { outcome = Ok among.text.items; found = found; given = given }

pub returns-in-Err : goal.returns-in-Err
returns-in-Err c =
    let why : IsAmongRefusal c.args.arities.now c.args.further.now c.args.bytes.now 0 c.in-Err.refused = search rules in
    record { outcome = Err c.in-Err.refused; found = why; given = c.refuse.ensures }
