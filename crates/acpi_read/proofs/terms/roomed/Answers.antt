use Rattle.std.proofs.Common.{◌≡◌, ◌<◌, length, rules}
use Rattle.acpi_read.proofs.Closings.{roomed_full, roomed_less}
use Rattle.acpi_read.proofs.terms.roomed.Goals as goal

pub returns-then-count-from-clause-gives : goal.returns-then-count-from-clause-gives
returns-then-count-from-clause-gives c =
    let is : length c.args.elements.items ≡ c.args.room = search rules in
    rw c.exact.ensures (roomed_full c.args.width c.args.room c.args.elements.items c.args.after.now is)

pub returns-clause-gives : goal.returns-clause-gives
returns-clause-gives c =
    let few : length c.args.elements.items < c.args.room = search rules in
    rw c.with_room.ensures (roomed_less c.args.width c.args.room c.args.elements.items c.args.after.now few)
