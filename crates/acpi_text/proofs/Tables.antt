-- The bytes of the texts of whole tables.
use Rattle.std.proofs.Common.{ℕ, List, [], ◌++◌, refl, sym, ap, ◌∙◌, append_assoc}
use Rattle.std.proofs.lemmas.List.{append-nil}
use Rattle.acpi_text.specs.Laws.{TextsHaveBytes, TablesHaveBytes, TextsDetermineTables}
use Rattle.acpi_text.specs.Reading.{Has, at_start, read}
use Rattle.acpi_text.specs.Table.{table_text}
use Rattle.acpi_text.proofs.Composed.{Composes, slots_by, table_by}
use Rattle.acpi_text.proofs.Lines.{empty_has, title_has, line_has}

has_append : (a b x y : List ℕ) → Has a x → Has b y → Has (a ++ b) (x ++ y)
has_append a b x y one two = record {
  reads = λ more.
      ap (read at_start) (append_assoc a b more) ∙ one.reads (b ++ more) ∙ ap (λ (l : List ℕ). x ++ l) (two.reads more)
      ∙ sym (append_assoc x y (read at_start more));
}

has_composes : Composes Has
has_composes = record {
  nothing = record { reads = λ more. refl };
  append = has_append;
  empty = empty_has;
  titles = title_has;
  lines = line_has;
}

pub slots_have : TextsHaveBytes
slots_have = slots_by Has has_composes

pub tables_have : TablesHaveBytes
tables_have form walk bytes are small =
    ap (read at_start) (sym (append-nil (table_text form walk bytes)))
    ∙ (table_by Has has_composes form walk bytes are small).reads []
    ∙ append-nil bytes

pub texts_determine : TextsDetermineTables
texts_determine form other walk way a b one two small fits same =
    sym (tables_have form walk a one small) ∙ ap (read at_start) same ∙ tables_have other way b two fits
