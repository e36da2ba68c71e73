use Rattle.std.proofs.Common.{◌≡◌, drop, map}
use Rattle.acpi_terms_text.specs.Word.{word_in}
use Rattle.acpi_terms_text.proofs.word.word_in.Given as goal

abbrev pub invariant-rows : goal.invariant-rows
invariant-rows l = word_in (map (λ row. (row.0, row.1.now)) (drop l.row-index l.rows)) l.number ≡ word_in (map (λ row. (row.0, row.1.now)) l.rows) l.number
