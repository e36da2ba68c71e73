-- Terms that are read as far as they can be. What can't be read stays as bytes.
use Rattle.std.specs.Prelude.{◌≡◌, ℕ, ◌+◌, ◌-◌, ◌<◌, ◌≤◌, Bool, true, false, List, ◌++◌, length, Ok}
use Rattle.acpi_term.specs.declared.mode.Mode.TheVariants.{Term}
use Rattle.acpi_term.specs.declared.read_error.ReadError.{ReadError}
use Rattle.acpi_term.specs.declared.read_error.ReadError.TheVariants as errors
use Rattle.acpi_term.specs.Language.{Grammar}
use Rattle.acpi_term.specs.Tree.{Head, def_scope, def_device, def_method, def_power_res, def_if, def_while, def_else}
use Rattle.acpi_term.specs.Tree.{def_leveled_method, def_processor, def_thermal_zone, unread, Terms, end, term, one, count, depth}
use Rattle.acpi_term.specs.Spelling.{AreLegal, IsLegal, spelled, spelling}
use Rattle.acpi_base.specs.Bytes.{AreBytes}
use Rattle.acpi_term.specs.Reading.{Opened, fills, open_at}
use Rattle.acpi_read.specs.TermStart.{block_head, block_width, first_head, first_width}
use Rattle.acpi_read.specs.declared.terms.in_part.ListFrame.{ListFrame}
use Rattle.acpi_read.specs.declared.terms.in_part.ListFrame.TheVariants as frames

-- ---- what is inside of a head

pub data Content : Type 0 where
  -- a list of terms, each of which is read by itself
  terms : Content
  -- a term that is read whole, and then such a list
  first_and_terms : Content
  -- what is read whole
  whole : Content
  -- bytes that no reader reads
  hole : Content

abbrev pub content : Head → Content
content (def_scope name) = terms
content (def_device name) = terms
content (def_method name args serialized) = terms
content (def_power_res name level order) = terms
content def_else = terms
content (def_leveled_method name args serialized level) = terms
content (def_processor name id address size) = terms
content (def_thermal_zone name) = terms
content def_if = first_and_terms
content def_while = first_and_terms
content (unread error bytes) = hole
content _ = whole

abbrev pub OfContent : Content → Type 0 → Type 0 → Type 0 → Type 0 → Type 0
OfContent terms a b c d = a
OfContent first_and_terms a b c d = b
OfContent whole a b c d = c
OfContent hole a b c d = d

-- ---- what can't be read

-- an error of reading a term that is within the first `to` bytes
abbrev pub IsFault : ℕ → ReadError → Type 0
IsFault to (errors.Truncated offset) = offset ≤ to
IsFault to (errors.Opcode offset) = offset ≤ to
IsFault to (errors.Length offset) = offset ≤ to
IsFault to (errors.Count offset) = offset ≤ to
IsFault to (errors.Flags offset) = offset ≤ to
IsFault to (errors.Text offset) = offset ≤ to
IsFault to (errors.TooDeep offset) = offset ≤ to
IsFault to _ = ⊥

-- whether a list of terms is inside
abbrev pub has_terms : Content → Bool
has_terms terms = true
has_terms first_and_terms = true
has_terms _ = false

abbrev pub opens_terms : Opened → Bool
opens_terms (fills h w inside after) = has_terms (content h)
opens_terms _ = false

-- an opened head is this frame
abbrev pub IsFrameOf : Opened → ListFrame → Type 0
IsFrameOf opened (frames.Terms head inside after) = opened ≡ fills (block_head head) (block_width head) inside.now after.now
IsFrameOf opened (frames.FirstAndTerms start inside after) =
    (opened ≡ fills (first_head start) (first_width start) inside.now after.now) × (content (first_head start) ≡ first_and_terms)
IsFrameOf opened frames.Other = opens_terms opened ≡ false

module _ (g : Grammar) where
  -- a term that is at most d deep
  abbrev pub IsTerm : ℕ → Head → ℕ → Terms → Type 0
  IsTerm d h w children = AreLegal g Term (one h w children) × (depth (one h w children) ≤ d)

  -- no term begins the bytes
  abbrev pub BeginNoTerm : ℕ → List ℕ → Type 0
  BeginNoTerm d bytes = (h : Head) (w : ℕ) (children : Terms) (rest : List ℕ) → IsTerm d h w children
      → bytes ≡ spelling (one h w children) ++ rest → ⊥

  -- what is before the list inside of a head: no term, or one that is read whole
  abbrev pub IsBefore : ℕ → Content → Terms → Type 0
  IsBefore d terms first = first ≡ end
  IsBefore d first_and_terms first = (count first ≡ 1) × AreLegal g Term first × (depth first ≤ d)
  IsBefore d _ first = ⊥

  -- no frame with a list inside begins the bytes, whatever the bytes of the list are
  abbrev pub BeginNoFrame : ℕ → List ℕ → Type 0
  BeginNoFrame d bytes = (h : Head) (w : ℕ) (first : Terms) (inside rest : List ℕ) → 1 ≤ d → IsBefore (d - 1) (content h) first
      → IsLegal g Term h w 1 (spelling first ++ inside) → bytes ≡ spelled h w 1 (spelling first ++ inside) ++ rest → ⊥

  -- Bytes that no term and no frame with a list begins. They are the last ones of their list, which ends after `to` bytes.
  pub record IsUnreadTerm (d to : ℕ) (error : ReadError) (bytes : List ℕ) (w : ℕ) (children others : Terms) : Type 0 where
    pub fault : IsFault to error
    pub some : 1 ≤ length bytes
    pub no_term : BeginNoTerm d bytes
    pub no_frame : BeginNoFrame d bytes
    pub no_width : w ≡ 0
    pub no_children : children ≡ end
    pub last : others ≡ end

  abbrev pub IsHole : ℕ → ℕ → Head → ℕ → Terms → Terms → Type 0
  IsHole d to (unread error bytes) w children others = IsUnreadTerm d to error bytes w children others
  IsHole d to _ w children others = ⊥

  -- ---- lists of terms

  -- a frame around these children, which may have unread terms inside
  abbrev pub IsFrame : ℕ → Head → ℕ → Terms → Type 0
  IsFrame d h w children = (1 ≤ d) × IsLegal g Term h w (count children) (spelling children)

  -- Terms of which each is read as far as it can be, at most d deep. The list ends after `to` bytes of all. The first one is read
  -- whole if `first` says so.
  abbrev pub AreInPart : ℕ → ℕ → Bool → Terms → Type 0
  AreInPart d to first end = Unit {0}
  AreInPart d to true (term h w children others) = IsTerm d h w children × AreInPart d to false others
  AreInPart d to false (term h w children others) =
      OfContent (content h)
      (IsFrame d h w children × AreInPart (d - 1) (to - length (spelling others)) false children)
      (IsFrame d h w children × AreInPart (d - 1) (to - length (spelling others)) true children)
      (IsTerm d h w children)
      (IsHole d to h w children others)
      × AreInPart d to false others

  -- ---- what the parts of the reader return

  -- a term at the front of bytes that are the end of a list, and the bytes after it
  pub record IsOneInPart (d to : ℕ) (bytes : List ℕ) (h : Head) (w : ℕ) (children : Terms) (after : List ℕ) : Type 0 where
    pub parts : bytes ≡ spelling (one h w children) ++ after
    pub fits : AreBytes after
    pub shorter : length after < length bytes
    pub grows : (others : Terms) → AreInPart d to false others → spelling others ≡ after
        → AreInPart d to false (term h w children others)

  -- all bytes of a list
  pub record IsListInPart (d to : ℕ) (first : Bool) (bytes : List ℕ) (ts : Terms) : Type 0 where
    pub parts : bytes ≡ spelling ts
    pub in_part : AreInPart d to first ts

  -- nothing that may be before the list inside of a head begins these bytes
  abbrev pub BeginNoList : ℕ → Head → List ℕ → Type 0
  BeginNoList d h inside = (first : Terms) (more : List ℕ) → IsBefore d (content h) first → inside ≡ spelling first ++ more → ⊥

  -- a term around a list after a first term
  pub record IsBranch (d to : ℕ) (h : Head) (w : ℕ) (inside : List ℕ) (h' : Head) (w' : ℕ) (children : Terms) : Type 0 where
    pub head : h' ≡ h
    pub width : w' ≡ w
    pub some : 1 ≤ count children
    pub is : IsListInPart d to true inside children

  -- a head that was opened, as a frame with a list, or as nothing of the kind
  abbrev pub IsFrameAt : ℕ → List ℕ → ListFrame → Type 0
  IsFrameAt d bytes (frames.Terms head inside after) =
      (open_at g Term bytes ≡ Ok (fills (block_head head) (block_width head) inside.now after.now))
      × (length inside.now + length after.now ≤ length bytes)
  IsFrameAt d bytes (frames.FirstAndTerms start inside after) =
      (open_at g Term bytes ≡ Ok (fills (first_head start) (first_width start) inside.now after.now))
      × (content (first_head start) ≡ first_and_terms)
      × (length inside.now + length after.now ≤ length bytes)
  IsFrameAt d bytes frames.Other = BeginNoFrame d bytes

-- The bytes spell these terms, of which each is read as far as it can be.
pub record AreReadInPart (g : Grammar) (bytes : List ℕ) (ts : Terms) : Type 0 where
  pub spelled : bytes ≡ spelling ts
  pub in_part : AreInPart g 255 (length bytes) false ts
