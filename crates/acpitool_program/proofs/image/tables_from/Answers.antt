use Rattle.std.proofs.Common.{ℕ, sym, subst}
use Rattle.acpi_layout.specs.Found.{IsImageOf}
use Rattle.acpitool_program.proofs.image.tables_from.Goals as goal

pub returns-in-Err-clause-err : goal.returns-in-Err-clause-err
returns-in-Err-clause-err c = λ not tables fits image.
    let P : ℕ → Type 0 = λ address. IsImageOf c.args.pointer.root c.args.bytes.now c.args.base address tables in
    c.in-Err.ensures.err not tables (subst P (sym c.in-Some.ensures.1) image)
