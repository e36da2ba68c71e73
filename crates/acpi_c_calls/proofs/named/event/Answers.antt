use Rattle.std.proofs.Common.{◌≡◌, ℕ, List, [], ◌∷◌, Result, Err, rules}
use Rattle.acpi_term.specs.PathText.{path_of}
use Rattle.acpi_term.specs.Row.{row}
use Rattle.acpi_term.specs.Tree.{op}
use Rattle.acpi_term.specs.declared.op.Op.TheVariants.{Event}
use Rattle.acpi_c_calls.specs.Writer.{piece_of}
use Rattle.acpi_c_calls.specs.declared.fault.Fault.{Fault}
use Rattle.acpi_c_calls.proofs.Operators.{fails, of_no_name}
use Rattle.acpi_c_calls.proofs.named.event.Goals as goal

pub returns-in-Err : goal.returns-in-Err
returns-in-Err c =
    let path : ◌≡◌ {A = Result (List ℕ) Fault} (Err c.in-Err.fault) (piece_of (path_of c.args.path.now)) = search rules in
    let none : c.args.state.now.fault ≡ 0 = search rules in
    fails (piece_of (row (op Event) (path_of c.args.path.now ∷ []))) c.in-Err.fault c.args.bytes.now c.fail.new._bytes c.args.state.now c.fail.new.state c.fail.result none (of_no_name c.args.path.now c.in-Err.fault path) c.fail.ensures
