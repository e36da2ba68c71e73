-- Which widths are told.
use Rattle.std.proofs.Common.{◌≡◌, ℕ, ◌+◌, ◌^◌, ◌≤◌, Bool, true, false, List, ◌++◌, length, refl, sym, ap, ◌∙◌, arith, inl, inr}
use Rattle.std.specs.Prelude.{Some, None, ◌==◌, ◌&&◌, nat_lt}
use Rattle.std.proofs.lemmas.List.{length-append}
use Rattle.std.proofs.lemmas.Bool.{cases_lt}
use Rattle.std.proofs.lemmas.Bool.Decides.{nat_tests}
use Rattle.acpi_term.specs.Length.{least_width}
use Rattle.acpi_term.specs.Row.{Layout, bare, framed, code_of, layout, own_width, layout_width}
use Rattle.acpi_term.specs.Spelling.{spelling}
use Rattle.acpi_term.specs.Tree.{Head, number, Terms, count}
use Rattle.acpi_read.specs.Lines.{is_writable, is_chosen}
use Rattle.acpi_read.specs.Size.{capped, own_size, content_size}

abbrev pub fits : ℕ → ℕ → Bool
fits v size = v == least_width size && nat_lt (4 + size) (2 ^ 28)

never : (b : Bool) → b && false ≡ false
never true = refl
never false = refl

always : (b : Bool) → b && true ≡ b
always true = refl
always false = refl

too_large : (v size : ℕ) → 2 ^ 28 ≤ 4 + size → fits v size ≡ false
too_large v size large = let f : nat_lt (4 + size) (2 ^ 28) ≡ false = grind (arith, nat_tests) in rw f (never _)

-- what a length can't count is large
fits_capped : (v full size : ℕ) → size ≡ capped full → fits v full ≡ fits v size
fits_capped v full size is = elim (cases_lt full (2 ^ 28)) [
  | inl few ↦ let e : full ≡ size = omega arith in ap (fits v) e
  | inr many ↦ too_large v full (omega arith) ∙ sym (too_large v size (omega arith))
]

over_frame : (l : Layout) (code : List ℕ) (w o : ℕ) (inside : List ℕ) (size : ℕ) → Some code ≡ code_of l → size ≡ capped (own_size l + length inside) → fits w size ≡ (w == layout_width l o inside && is_writable l inside)
over_frame (bare before) code w o inside size some is = absurd (cc)
over_frame (framed opcode before after) code w o inside size some is =
    let full = length (before ++ (inside ++ after)) in
    sym (fits_capped w full size (is ∙ ap capped (omega (arith, length-append before (inside ++ after), length-append inside after))))

-- but for a number, no layout depends on the width
width_of_layout : (h : Head) (w n : ℕ) (inside : List ℕ) → layout_width (layout h (own_width h) n) (own_width h) inside ≡ layout_width (layout h w n) (own_width h) inside
width_of_layout (number v) w n inside = refl
width_of_layout _ w n inside = refl

pub chosen_framed : (h : Head) (w : ℕ) (children : Terms) (code : List ℕ) (size : ℕ) → Some code ≡ code_of (layout h w (count children)) → size ≡ capped (content_size h w children) → fits w size ≡ is_chosen h w (count children) (spelling children)
chosen_framed h w children code size some is =
    let inside = spelling children in
    let l = layout h w (count children) in
    over_frame l code w (own_width h) inside size some is ∙ ap (λ (v : ℕ). w == v && is_writable l inside) (sym (width_of_layout h w (count children) inside))

over_bare : (l : Layout) (w o : ℕ) (inside : List ℕ) → None ≡ code_of l → (w == o) ≡ (w == layout_width l o inside && is_writable l inside)
over_bare (bare before) w o inside none = sym (always (w == o))
over_bare (framed code before after) w o inside none = absurd (cc)

pub chosen_bare : (h : Head) (w : ℕ) (children : Terms) → None ≡ code_of (layout h w (count children)) → (w == own_width h) ≡ is_chosen h w (count children) (spelling children)
chosen_bare h w children none =
    let inside = spelling children in
    let l = layout h w (count children) in
    over_bare l w (own_width h) inside none ∙ ap (λ (v : ℕ). w == v && is_writable l inside) (sym (width_of_layout h w (count children) inside))
