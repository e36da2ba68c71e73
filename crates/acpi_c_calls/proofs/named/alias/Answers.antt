use Rattle.std.proofs.Common.{◌≡◌, ℕ, List, [], ◌∷◌, Result, Ok, Err, rules}
use Rattle.acpi_term.specs.PathText.{path_of}
use Rattle.acpi_term.specs.Row.{row}
use Rattle.acpi_term.specs.Tree.{op}
use Rattle.acpi_term.specs.declared.op.Op.TheVariants.{Alias}
use Rattle.acpi_c_calls.specs.Writer.{piece_of}
use Rattle.acpi_c_calls.specs.declared.fault.Fault.{Fault}
use Rattle.acpi_c_calls.proofs.Operators.{fails, of_no_first, of_no_second}
use Rattle.acpi_c_calls.proofs.named.alias.Goals as goal

pub returns-in-Err-hold_path : goal.returns-in-Err-hold_path
returns-in-Err-hold_path c =
    let first : ◌≡◌ {A = Result (List ℕ) Fault} (Ok c.in-Ok.source) (piece_of (path_of c.args.source.now)) = search rules in
    let path : ◌≡◌ {A = Result (List ℕ) Fault} (Err c.in-Err-hold_path.fault) (piece_of (path_of c.args.name.now)) = search rules in
    let none : c.args.state.now.fault ≡ 0 = search rules in
    fails (piece_of (row (op Alias) (path_of c.args.source.now ∷ path_of c.args.name.now ∷ []))) c.in-Err-hold_path.fault c.args.bytes.now c.fail.new._bytes c.args.state.now c.fail.new.state c.fail.result none (of_no_second c.args.source.now c.args.name.now c.in-Ok.source c.in-Err-hold_path.fault first path) c.fail.ensures

pub returns-in-Err : goal.returns-in-Err
returns-in-Err c =
    let path : ◌≡◌ {A = Result (List ℕ) Fault} (Err c.in-Err.fault) (piece_of (path_of c.args.source.now)) = search rules in
    let none : c.args.state.now.fault ≡ 0 = search rules in
    fails (piece_of (row (op Alias) (path_of c.args.source.now ∷ path_of c.args.name.now ∷ []))) c.in-Err.fault c.args.bytes.now c.fail-in-Err.new._bytes c.args.state.now c.fail-in-Err.new.state c.fail-in-Err.result none (of_no_first c.args.source.now c.args.name.now c.in-Err.fault path) c.fail-in-Err.ensures
