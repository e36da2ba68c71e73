use Rattle.std.proofs.Common.{◌+◌, ◌*◌, ◌/◌, ◌++◌, ap, ◌∙◌, arith, rules, string_bytes}
use Rattle.acpi_read.specs.Lines.{indent}
use Rattle.acpi_read.proofs.Texts.{indent_more}
use Rattle.acpi_read.proofs.report.words.push_indent.Goals as goal

pub many-preserved : goal.many-preserved
many-preserved c = indent_more (16 * c.many._sixteen) 16 (16 * (c.many._sixteen + 1)) _ _ _ (omega arith) c.many.invariant (search rules)

pub one-init : goal.one-init
one-init c = c.many.invariant ∙ ap (λ n. string_bytes c.args.text.now ++ indent n) (omega arith)

pub one-preserved : goal.one-preserved
one-preserved c =
    let done = 16 * (c.args.depth / 16) + c.one._done in
    indent_more done 1 (16 * (c.args.depth / 16) + (c.one._done + 1)) _ _ _ (omega arith) c.one.invariant (search rules)

pub returns : goal.returns
returns c = c.one.invariant ∙ ap (λ n. string_bytes c.args.text.now ++ indent n) (omega arith)
