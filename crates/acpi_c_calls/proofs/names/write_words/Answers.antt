use Rattle.std.proofs.Common.{Ok, Err, rules}
use Rattle.acpi_c_calls.specs.Results.{IsGiven}
use Rattle.acpi_c_calls.specs.Names.{IsName, IsNoName}
use Rattle.acpi_c_calls.proofs.names.write_words.Goals as goal

pub returns-in-Some : goal.returns-in-Some
returns-in-Some c =
    let name : IsName c.args.number c.in-Some.words.now = search rules in
    let given : IsGiven (Ok c.in-Some.words.now) c.args.out.now c.put.new.out c.put.result c.put.new.place c.put.new.size = search rules in
    record { outcome = Ok c.in-Some.words.now; found = name; given = given }

pub returns-in-None : goal.returns-in-None
returns-in-None c =
    let none : IsNoName c.args.number c.anywhere.result = search rules in
    record { outcome = Err c.anywhere.result; found = none; given = c.refuse.ensures }
