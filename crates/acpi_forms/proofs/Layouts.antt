-- What follows from the layout of a text and from that of the bytes that were made of it.
use Rattle.std.proofs.Common.{◌≡◌, ℕ, List, Option, ap, ◌∙◌}
use Rattle.acpi_forms.specs.Layout.{layout_in, layout_of_text, another_layout, layout_made, heading_fault}
use Rattle.acpi_forms.specs.Makes.{another_in, heading_in}
use Rattle.acpi_forms.specs.declared.layout.Layout.{Layout}
use Rattle.acpi_make.specs.Fault.{Fault}
use Rattle.acpi_make.specs.declared.item.Item.{Item}
use Rattle.acpi_make.specs.declared.make.Made.{Made}

module _ (signature : ℕ) (text : List ℕ) (parts : List Item) (made : Made) (stated found : Layout) (bytes : List ℕ)
    (of_text : stated ≡ layout_of_text signature text parts) (of_bytes : found ≡ layout_in signature bytes)
    (are : bytes ≡ made.bytes.items) where
  at_bytes : found ≡ layout_in signature made.bytes.items
  at_bytes = of_bytes ∙ ap (layout_in signature) are

  pub another_found : (other : Option Layout) → other ≡ another_layout stated found → other ≡ another_in signature text parts made
  another_found other e =
      e ∙ ap (λ l. another_layout l found) of_text ∙ ap (another_layout (layout_of_text signature text parts)) at_bytes

  pub heading_found : (layout : Layout) (wrong : Option Fault) → wrong ≡ heading_fault layout signature text parts
      → layout ≡ layout_made stated found → wrong ≡ heading_in signature text parts made
  heading_found layout wrong e l =
      e
      ∙ ap (λ k. heading_fault k signature text parts)
      (l ∙ ap (λ k. layout_made k found) of_text ∙ ap (layout_made (layout_of_text signature text parts)) at_bytes)
