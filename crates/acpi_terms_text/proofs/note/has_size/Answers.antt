use Rattle.std.proofs.Common.{◌<◌, ◌∙◌, length, arith}
use Rattle.acpi_terms_text.proofs.Walks.{size_in_front}
use Rattle.acpi_terms_text.proofs.note.has_size.Goals as goal

pub returns : goal.returns
returns c =
    let some : 0 < length c.args.first.now = grind (arith, c.is_empty.ensures, c.if-is_empty.false) in
    c.starts_with_number-2.ensures ∙ size_in_front c.args.n c.args.first.now c.args.others.now some
