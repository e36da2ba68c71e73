-- What whole lines consist of.
use Rattle.std.proofs.Common.{◌≡◌, ℕ, zero, suc, ◌+◌, ◌-◌, ◌*◌, ◌^◌, ◌<◌, ◌≤◌, ◌==◌, true, false, Bool, cond}
use Rattle.std.proofs.Common.{List, [], ◌∷◌, ◌++◌, length, codes, refl, sym, ap, ◌∙◌, append_assoc, arith}
use Rattle.std.specs.Fmt.{decimal}
use Rattle.acpi_base.specs.Bytes.{AreBytes}
use Rattle.acpi_text.proofs.Meanings.{meaning_by}
use Rattle.acpi_text.proofs.Printed.{Plain, Quiet, quiet_is_plain, quiet_label}
use Rattle.acpi_text.specs.Hex.{numbers_text}
use Rattle.acpi_text.specs.Label.{prints, label}
use Rattle.acpi_text.specs.Line.{spaces, margin, line, title}
use Rattle.acpi_base.specs.Look.{Look}
use Rattle.acpi_text.specs.Note.{meaning}
use Rattle.acpi_make.proofs.Outcomes.{front_none, front_both}
use Rattle.acpi_make.proofs.Leads.{Leads, leads_append, leads_decimal, printed}
use Rattle.acpi_make.proofs.Reading.{Follows, space_follows, end_follows, numbers_follow}
use Rattle.acpi_make.specs.Gives.{with_front}
use Rattle.acpi_make.specs.Item.{known_cells, byte_items, cells_of}
use Rattle.acpi_make.specs.Meaning.{Outcome, act, read}
use Rattle.acpi_make.specs.Text.{is_white}
use Rattle.acpi_make.specs.declared.item.Cell.TheVariants.{Byte}
use Rattle.acpi_make.specs.declared.item.Item.{Item}
use Rattle.acpi_make.specs.declared.item.Item.TheVariants.{Heading, Name}
use Rattle.acpi_make.specs.declared.state.State.{State}
use Rattle.acpi_make.specs.declared.state.State.TheVariants.{Start, Slashed, Headed, Indented, NameSlashed, Named, Skipped}
use Rattle.acpi_make.specs.declared.state.Step.{Step}
use Rattle.acpi_make.specs.declared.state.Step.TheVariants.{Goes}

-- ---- what stands before the colon

name_read : (from : ℕ) (name text : List ℕ) → Quiet name → read (Named from) [] (name ++ text) ≡ read (Named from) [] text
name_read from [] text quiet = refl
name_read from (c ∷ name) text quiet = rw ((printed c quiet.0).line, (printed c quiet.0).control, quiet.1) (name_read from name text quiet.2)

lead_read : (name text : List ℕ) → Leads name → read Indented [] (name ++ text) ≡ read (Named (length (name ++ text))) [] text
lead_read [] text leads = absurd leads
lead_read (c ∷ name) text leads =
    rw ((printed c leads.3.0).line, (printed c leads.3.0).control, leads.2, leads.3.1, leads.1, leads.0)
    (name_read (length (c ∷ (name ++ text))) name text leads.3.2)

spaces_read : (n : ℕ) (text : List ℕ) → read Indented [] (spaces n ++ text) ≡ read Indented [] text
spaces_read zero text = refl
spaces_read (suc n) text = spaces_read n text

spaces_start : (n : ℕ) (text : List ℕ) → 1 ≤ n → read Start [] (spaces n ++ text) ≡ read Indented [] text
spaces_start zero text some = absurd (omega arith)
spaces_start (suc n) text some = spaces_read n text

-- an offset and a name
abbrev named : ℕ → List ℕ → List ℕ
named offset name = decimal offset ++ 32 ∷ label name

margin_read : (depth offset : ℕ) (name text : List ℕ) → offset < 2 ^ 64
    → read Start [] (margin depth offset name ++ text) ≡ read (Named (length (named offset name ++ text))) [] text
margin_read depth offset name text small =
    let blank = spaces (2 * depth + 2) in
    ap (read Start []) (append_assoc blank (named offset name) text)
    ∙ spaces_start (2 * depth + 2) (named offset name ++ text) (omega arith)
    ∙ lead_read (named offset name) text (leads_append (decimal offset) (32 ∷ label name) (leads_decimal offset small)
    (refl, refl, quiet_label name))

blank_read : (from n : ℕ) (text : List ℕ) → read (Named from) [] (spaces n ++ text) ≡ read (Named from) [] text
blank_read from zero text = refl
blank_read from (suc n) text = blank_read from n text

-- ---- lines without bytes

-- What is read is parts without bytes, and then the text after this line.
record Empty (more : List ℕ) (outcome : Outcome) : Type 0 where
  parts : List Item
  none : cells_of parts ≡ []
  is : outcome ≡ with_front parts (read Start [] more)

nothing : (more : List ℕ) → Empty more (read Start [] more)
nothing more = record { parts = []; none = refl; is = sym (front_none (read Start [] more)) }

headed : (more : List ℕ) (from to : ℕ) → Empty more (with_front (Heading from to ∷ []) (read Start [] more))
headed more from to = record { parts = Heading from to ∷ []; none = refl; is = refl }

entitled : (more : List ℕ) (from to : ℕ) → Empty more (with_front (Name from to ∷ []) (read Start [] more))
entitled more from to = record { parts = Name from to ∷ []; none = refl; is = refl }

-- either step
chosen : (here : ℕ) (more : List ℕ) (b : Bool) (one two : Step) (rest : State → List ℕ → Outcome)
    → Empty more (act here one [] rest) → Empty more (act here two [] rest) → Empty more (act here (cond b one two) [] rest)
chosen here more true one two rest first second = first
chosen here more false one two rest first second = second

skipped_empty : (said more : List ℕ) → Plain said → Empty more (read Skipped [] (said ++ 10 ∷ more))
skipped_empty [] more prints = nothing more
skipped_empty (c ∷ said) more prints = rw ((printed c prints.0).line, (printed c prints.0).control) (skipped_empty said more prints.1)

headed_empty : (from : ℕ) (said more : List ℕ) → Plain said → Empty more (read (Headed from) [] (said ++ 10 ∷ more))
headed_empty from [] more prints = headed more from (length (10 ∷ more))
headed_empty from (c ∷ said) more prints = rw ((printed c prints.0).line, (printed c prints.0).control) (headed_empty from said more prints.1)

named_empty : (from : ℕ) (name more : List ℕ) → Quiet name → Empty more (read (Named from) [] (name ++ 10 ∷ more))
named_empty from [] more quiet = entitled more from (length (10 ∷ more))
named_empty from (c ∷ name) more quiet = rw ((printed c quiet.0).line, (printed c quiet.0).control, quiet.1) (named_empty from name more quiet.2)

slashed_empty : (from : ℕ) (said more : List ℕ) → Plain said → Empty more (read (Slashed from) [] (said ++ 10 ∷ more))
slashed_empty from [] more prints = headed more from (length (10 ∷ more))
slashed_empty from (c ∷ said) more prints =
    rw ((printed c prints.0).line, (printed c prints.0).control)
    (chosen (length (c ∷ (said ++ 10 ∷ more))) more (c == 47) (Goes Skipped) (Goes (Headed from))
    (λ state number. read state number (said ++ 10 ∷ more))
    (skipped_empty said more prints.1)
    (headed_empty from said more prints.1))

name_slashed_empty : (from : ℕ) (name more : List ℕ) → Quiet name → Empty more (read (NameSlashed from) [] (name ++ 10 ∷ more))
name_slashed_empty from [] more quiet = entitled more from (length (10 ∷ more))
name_slashed_empty from (c ∷ name) more quiet =
    rw ((printed c quiet.0).line, (printed c quiet.0).control, quiet.1)
    (chosen (length (c ∷ (name ++ 10 ∷ more))) more (c == 47) (Goes Skipped) (Goes (Named from))
    (λ state number. read state number (name ++ 10 ∷ more))
    (skipped_empty name more (quiet_is_plain name quiet.2))
    (named_empty from name more quiet.2))

indented_empty : (name more : List ℕ) → Quiet name → Empty more (read Indented [] (name ++ 10 ∷ more))
indented_empty [] more quiet = nothing more
indented_empty (c ∷ name) more quiet =
    let here = length (c ∷ (name ++ 10 ∷ more)) in
    let rest : State → List ℕ → Outcome = λ state number. read state number (name ++ 10 ∷ more) in
    let named = cond (is_white c) (Goes Indented) (Goes (Named here)) in
    rw ((printed c quiet.0).line, (printed c quiet.0).control, quiet.1)
    (chosen here more (c == 35) (Goes Skipped) (cond (c == 47) (Goes (NameSlashed here)) named) rest
    (skipped_empty name more (quiet_is_plain name quiet.2))
    (chosen here more (c == 47) (Goes (NameSlashed here)) named rest
    (name_slashed_empty here name more quiet.2)
    (chosen here more (is_white c) (Goes Indented) (Goes (Named here)) rest
    (indented_empty name more quiet.2)
    (named_empty here name more quiet.2))))

-- a line that has no colon, for any first character
quiet_line : (name more : List ℕ) → Quiet name → Empty more (read Start [] (name ++ 10 ∷ more))
quiet_line [] more quiet = nothing more
quiet_line (c ∷ name) more quiet =
    let here = length (c ∷ (name ++ 10 ∷ more)) in
    let rest : State → List ℕ → Outcome = λ state number. read state number (name ++ 10 ∷ more) in
    let headed = cond (is_white c) (Goes Indented) (Goes (Headed here)) in
    rw ((printed c quiet.0).line, (printed c quiet.0).control)
    (chosen here more (c == 35) (Goes Skipped) (cond (c == 47) (Goes (Slashed here)) headed) rest
    (skipped_empty name more (quiet_is_plain name quiet.2))
    (chosen here more (c == 47) (Goes (Slashed here)) headed rest
    (slashed_empty here name more (quiet_is_plain name quiet.2))
    (chosen here more (is_white c) (Goes Indented) (Goes (Headed here)) rest
    (indented_empty name more quiet.2)
    (headed_empty here name more (quiet_is_plain name quiet.2)))))

skipped_read : (said more : List ℕ) → Plain said → read Skipped [] (said ++ 10 ∷ more) ≡ read Start [] more
skipped_read [] more prints = refl
skipped_read (c ∷ said) more prints = rw ((printed c prints.0).line, (printed c prints.0).control) (skipped_read said more prints.1)

-- ---- what stands after the numbers

abbrev EndsLine : List ℕ → Type 0
EndsLine text = (more : List ℕ) → Follows (text ++ 10 ∷ more) (read Start [] more)

comment_ends : (said : List ℕ) → Plain said → EndsLine (codes "  // " ++ said)
comment_ends said prints more =
    space_follows (32 ∷ 47 ∷ 47 ∷ 32 ∷ (said ++ 10 ∷ more)) (read Start [] more) (skipped_read said more prints)

meaning_ends : (look : Look) (w n : ℕ) (field : List ℕ) → AreBytes field → length field ≡ w * n → EndsLine (meaning look w n field)
meaning_ends = meaning_by EndsLine (λ more. end_follows more) comment_ends

-- ---- whole lines

-- Whole lines that have these bytes, also if other text follows.
pub record Means (lines bytes : List ℕ) : Type 0 where
  pub parts : List ℕ → List Item
  pub cells : (more : List ℕ) → cells_of (parts more) ≡ known_cells bytes
  pub reads : (more : List ℕ) → read Start [] (lines ++ more) ≡ with_front (parts more) (read Start [] more)

pub line_empty : (name : List ℕ) → Quiet name → Means (name ++ 10 ∷ []) []
line_empty name quiet = record {
  parts = λ more. (quiet_line name more quiet).parts;
  cells = λ more. (quiet_line name more quiet).none;
  reads = λ more. ap (read Start []) (append_assoc name (10 ∷ []) more) ∙ (quiet_line name more quiet).is;
}

pub title_means : (depth offset : ℕ) (name : List ℕ) → offset < 2 ^ 64 → Means (title depth offset name) []
title_means depth offset name small = record {
  parts = λ more. Name (length (named offset name ++ (10 ∷ more))) (length (10 ∷ more)) ∷ [];
  cells = λ more. refl;
  reads = λ more.
      ap (read Start []) (append_assoc (margin depth offset name) (10 ∷ []) more)
      ∙ margin_read depth offset name (10 ∷ more) small;
}

cells_of_bytes : (bytes : List ℕ) → cells_of (byte_items bytes) ≡ known_cells bytes
cells_of_bytes [] = refl
cells_of_bytes (b ∷ bytes) = ap (λ l. Byte b ∷ l) (cells_of_bytes bytes)

pub line_means : (depth offset : ℕ) (name : List ℕ) (look : Look) (w n : ℕ) (field : List ℕ) → offset < 2 ^ 64 → AreBytes field
    → length field ≡ w * n → Means (line depth offset name look w n field) field
line_means depth offset name look w n field small are size =
    let front = margin depth offset name in
    let blank = spaces (40 - length front) in
    let said = meaning look w n field in
    let after = said ++ 10 ∷ [] in
    let numbers = numbers_text w n field in
    let rest : List ℕ → List ℕ = λ more. numbers ++ (said ++ (10 ∷ more)) in
    let from : List ℕ → ℕ = λ more. length (named offset name ++ (blank ++ (58 ∷ rest more))) in
    let one : List ℕ → List Item = λ more. Name (from more) (length (58 ∷ rest more)) ∷ [] in
    record {
      parts = λ more. one more ++ byte_items field;
      cells = λ more. cells_of_bytes field;
      reads = λ more.
          ap (read Start []) (
          append_assoc (front ++ blank) (58 ∷ (numbers ++ after)) more
          ∙ append_assoc front blank (58 ∷ ((numbers ++ after) ++ more))
          ∙ ap (λ (l : List ℕ). front ++ (blank ++ (58 ∷ l))) (
          append_assoc numbers after more
          ∙ ap (λ (l : List ℕ). numbers ++ l) (append_assoc said (10 ∷ []) more)))
          ∙ margin_read depth offset name (blank ++ (58 ∷ rest more)) small
          ∙ blank_read (from more) (40 - length front) (58 ∷ rest more)
          ∙ ap (with_front (one more)) (numbers_follow w n field (said ++ (10 ∷ more)) (read Start [] more) are size
          (meaning_ends look w n field are size more)).ended
          ∙ front_both (one more) (byte_items field) (read Start [] more);
    }
