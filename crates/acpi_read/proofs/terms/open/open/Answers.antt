use Rattle.std.proofs.Common.{arith}
use Rattle.acpi_term.specs.Arity.{grammar_by}
use Rattle.acpi_base.proofs.Bytes.{bytes_each}
use Rattle.acpi_read.proofs.Within.{is_within}
use Rattle.acpi_read.proofs.terms.open.open.Goals as goal

pub returns-clause-within : goal.returns-clause-within
returns-clause-within c = is_within (grammar_by c.args.language c.args.arities.now) c.args.mode c.args.bytes.now c.open_placed.result (bytes_each c.args.bytes.now (λ i. omega (arith, c.type_inv.bytes i))) c.open_placed.ensures.gives
