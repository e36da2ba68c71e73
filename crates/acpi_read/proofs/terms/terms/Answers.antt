use Rattle.std.proofs.Common.{arith}
use Rattle.acpi_term.specs.declared.language.Language.TheVariants.{Written}
use Rattle.acpi_term.specs.Arity.{grammar_by}
use Rattle.acpi_term.specs.View.{views}
use Rattle.acpi_base.proofs.Bytes.{bytes_each}
use Rattle.acpi_read.proofs.Refusals.{is_read, is_unread}
use Rattle.acpi_read.proofs.terms.terms.Goals as goal

pub returns-clause-ok : goal.returns-clause-ok
returns-clause-ok c = is_read (grammar_by Written c.args.arities.now) c.args.bytes.now (λ v. views v.items) c.all.result (bytes_each c.args.bytes.now (λ i. omega (arith, c.type_inv.bytes i))) (rw c.new-reader.ensures.reads at c.all.ensures.gives)

pub returns-clause-err : goal.returns-clause-err
returns-clause-err c = is_unread (grammar_by Written c.args.arities.now) c.args.bytes.now (λ v. views v.items) c.all.result (rw c.new-reader.ensures.reads at c.all.ensures.gives) c.all.ensures.placed
