-- What the texts of whole tables mean.
use Rattle.std.proofs.Common.{◌≡◌, ℕ, ◌^◌, ◌<◌, List, [], ◌∷◌, ◌++◌, length, Option, refl, sym, ap, ◌∙◌, append_assoc}
use Rattle.std.proofs.lemmas.List.{map-append}
use Rattle.acpi_base.specs.Bytes.{AreBytes}
use Rattle.acpi_base.specs.declared.walk.Walk.{Walk}
use Rattle.acpi_text.specs.Table.{table_text}
use Rattle.acpi_text.specs.declared.form.TableForm.{TableForm}
use Rattle.acpi_text.proofs.Composed.{Composes, table_by}
use Rattle.acpi_make.proofs.Lines.{Means, line_empty, title_means, line_means}
use Rattle.acpi_make.proofs.Outcomes.{front_none, front_both}
use Rattle.acpi_make.specs.Gives.{with_front}
use Rattle.acpi_make.specs.Item.{known_cells, cells_of}
use Rattle.acpi_make.specs.Meaning.{read}
use Rattle.acpi_make.specs.declared.item.Cell.TheVariants.{Byte, Left}
use Rattle.acpi_make.specs.declared.item.Item.{Item}
use Rattle.acpi_make.specs.declared.item.Item.TheVariants as items
use Rattle.acpi_make.specs.declared.state.State.TheVariants.{Start}

cells_append : (a b : List Item) → cells_of (a ++ b) ≡ cells_of a ++ cells_of b
cells_append [] b = refl
cells_append (items.Cell cell ∷ a) b = ap (λ l. cell ∷ l) (cells_append a b)
cells_append (items.Heading from to ∷ a) b = cells_append a b
cells_append (items.Name from to ∷ a) b = cells_append a b
cells_append (items.Value from to ∷ a) b = ap (λ l. Left from ∷ l) (cells_append a b)

means_append : (a b x y : List ℕ) → Means a x → Means b y → Means (a ++ b) (x ++ y)
means_append a b x y one two = record {
  parts = λ more. one.parts (b ++ more) ++ two.parts more;
  cells = λ more.
      cells_append (one.parts (b ++ more)) (two.parts more)
      ∙ ap (λ l. l ++ cells_of (two.parts more)) (one.cells (b ++ more))
      ∙ ap (λ l. known_cells x ++ l) (two.cells more)
      ∙ sym (map-append Byte x y);
  reads = λ more.
      ap (read Start []) (append_assoc a b more)
      ∙ one.reads (b ++ more)
      ∙ ap (with_front (one.parts (b ++ more))) (two.reads more)
      ∙ front_both (one.parts (b ++ more)) (two.parts more) (read Start [] more);
}

means_nothing : Means [] []
means_nothing = record {
  parts = λ more. [];
  cells = λ more. refl;
  reads = λ more. sym (front_none (read Start [] more));
}

means_composes : Composes Means
means_composes = record {
  nothing = means_nothing;
  append = means_append;
  empty = line_empty;
  titles = title_means;
  lines = line_means;
}

pub tables_mean : (form : TableForm) (walk : Option Walk) (bytes : List ℕ) → AreBytes bytes → length bytes < 2 ^ 64
    → Means (table_text form walk bytes) bytes
tables_mean = table_by Means means_composes
