-- The number of bytes that the length of a frame counts.
use Rattle.std.specs.Prelude.{◌≡◌, ℕ, ◌+◌, ◌^◌, min, max, Option, Some, None, List, [], ◌∷◌, ◌++◌, length, codes}
use Rattle.std.specs.Fmt.{decimal}
use Rattle.acpi_term.specs.Row.{Layout, bare, framed, before_of, after_of, layout}
use Rattle.acpi_term.specs.Spelling.{spelling}
use Rattle.acpi_term.specs.Tree.{Head, Terms, end, term, count}

-- a number, or 2^28 if it is more: no length can count 2^28 bytes
abbrev pub capped : ℕ → ℕ
capped n = min n (2 ^ 28)

-- the number of a layout's own bytes: all but the children's and, of a frame, its opcode and length
abbrev pub own_size : Layout → ℕ
own_size l = length (before_of l) + length (after_of l)

-- the same with the children's bytes: for a frame, the number that its length counts besides itself
abbrev pub content_size : Head → ℕ → Terms → ℕ
content_size h w children = own_size (layout h w (count children)) + length (spelling children)

-- the number of bytes of a frame's opcode and length, or 0
abbrev pub frame_size : Layout → ℕ → ℕ
frame_size (bare before) w = 0
frame_size (framed code before after) w = length code + max w 1

-- the sizes of the contents of terms; a term's size comes before those of its children
abbrev pub content_sizes : Terms → List ℕ
content_sizes end = []
content_sizes (term h w children others) = capped (content_size h w children) ∷ content_sizes children ++ content_sizes others

-- a list that begins with these sizes
abbrev pub HasSizes : Terms → List ℕ → Type 0
HasSizes ts sizes = (left : List ℕ) × (sizes ≡ content_sizes ts ++ left)

-- the sizes of terms were added to a list, and this many bytes spell the terms
pub record AreSized (ts : Terms) (old new : List ℕ) (bytes : ℕ) : Type 0 where
  pub added : new ≡ old ++ content_sizes ts
  pub spelled : bytes ≡ capped (length (spelling ts))

-- a width at the end of a line
abbrev pub width_words : Option ℕ → List ℕ
width_words None = []
width_words (Some w) = codes " width " ++ decimal w
