-- The bytes that whole lines have.
use Rattle.std.proofs.Common.{◌≡◌, ℕ, zero, suc, ◌+◌, ◌-◌, ◌*◌, ◌^◌, ◌<◌, ◌≤◌, ◌==◌, Bool, true, false, cond}
use Rattle.std.proofs.Common.{List, [], ◌∷◌, ◌++◌, length, codes, refl, sym, ap, ◌∙◌, append_assoc, arith}
use Rattle.std.specs.Fmt.{decimal}
use Rattle.acpi_base.specs.Bytes.{AreBytes}
use Rattle.acpi_text.specs.Hex.{numbers_text}
use Rattle.acpi_text.specs.Laws.{LinesHaveFields, TitlesAreEmpty}
use Rattle.acpi_text.specs.Label.{label}
use Rattle.acpi_text.specs.Line.{spaces, margin}
use Rattle.acpi_base.specs.Look.{Look}
use Rattle.acpi_text.specs.Note.{meaning}
use Rattle.acpi_text.specs.Reading.{Has, at_start, in_name, in_comment, read}
use Rattle.acpi_text.proofs.Meanings.{meaning_by}
use Rattle.acpi_text.proofs.Printed.{Plain, Quiet, quiet_append, quiet_is_plain, plain_is_one_line, ends_no_line, quiet_label, quiet_decimal}
use Rattle.acpi_text.proofs.Reading.{Ends, name_read, comment_read, numbers_read}

-- ---- lines without bytes

-- a line that has no colon has no bytes, for any first character
quiet_line_read : (text more : List ℕ) → Quiet text → read at_start (text ++ (10 ∷ more)) ≡ read at_start more
quiet_line_read [] more quiet = refl
quiet_line_read (c ∷ text) more quiet = chosen (c == 32)
  where
    chosen : (b : Bool) → cond b (read in_name (text ++ (10 ∷ more))) (cond (c == 10) (read at_start (text ++ (10 ∷ more))) (read in_comment (text ++ (10 ∷ more)))) ≡ read at_start more
    chosen true = name_read text (10 ∷ more) quiet.2
    chosen false =
        ap (λ b. cond b (read at_start (text ++ (10 ∷ more))) (read in_comment (text ++ (10 ∷ more)))) (ends_no_line c quiet.0)
        ∙ comment_read text (10 ∷ more) (plain_is_one_line text (quiet_is_plain text quiet.2))

pub empty_has : (text : List ℕ) → Quiet text → Has (text ++ 10 ∷ []) []
empty_has text quiet = record {
  reads = λ more. ap (read at_start) (append_assoc text (10 ∷ []) more) ∙ quiet_line_read text more quiet;
}

-- ---- what stands before the colon

quiet_spaces : (n : ℕ) → Quiet (spaces n)
quiet_spaces zero = tt
quiet_spaces (suc n) = (refl, refl, quiet_spaces n)

quiet_margin : (depth offset : ℕ) (name : List ℕ) → offset < 2 ^ 64 → Quiet (margin depth offset name)
quiet_margin depth offset name small =
    quiet_append (spaces (2 * depth + 2)) (decimal offset ++ 32 ∷ label name) (quiet_spaces (2 * depth + 2))
    (quiet_append (decimal offset) (32 ∷ label name) (quiet_decimal offset small) (refl, refl, quiet_label name))

-- every such line begins with a space
spaces_start : (n : ℕ) (text : List ℕ) → 1 ≤ n → read at_start (spaces n ++ text) ≡ read in_name (spaces n ++ text)
spaces_start zero text some = absurd (omega arith)
spaces_start (suc n) text some = refl

margin_read : (depth offset : ℕ) (name text : List ℕ) → offset < 2 ^ 64
    → read at_start (margin depth offset name ++ text) ≡ read in_name text
margin_read depth offset name text small =
    let blank = spaces (2 * depth + 2) in
    let named = decimal offset ++ 32 ∷ label name in
    ap (read at_start) (append_assoc blank named text)
    ∙ spaces_start (2 * depth + 2) (named ++ text) (omega arith)
    ∙ ap (read in_name) (sym (append_assoc blank named text))
    ∙ name_read (margin depth offset name) text (quiet_margin depth offset name small)

-- ---- what stands after the numbers

abbrev pub EndsNumbers : List ℕ → Type 0
EndsNumbers text = (more : List ℕ) → Ends (text ++ (10 ∷ more)) (read at_start more)

comment_ends : (said : List ℕ) → Plain said → EndsNumbers (codes "  // " ++ said)
comment_ends said plain more number = ap (λ (l : List ℕ). number ++ l) (comment_read said (10 ∷ more) (plain_is_one_line said plain))

pub meaning_ends : (look : Look) (w n : ℕ) (field : List ℕ) → AreBytes field → length field ≡ w * n
    → EndsNumbers (meaning look w n field)
meaning_ends = meaning_by EndsNumbers (λ more number. refl) comment_ends

-- ---- whole lines

pub title_has : TitlesAreEmpty
title_has depth offset name small = record {
  reads = λ more.
      ap (read at_start) (append_assoc (margin depth offset name) (10 ∷ []) more)
      ∙ margin_read depth offset name (10 ∷ more) small;
}

pub line_has : LinesHaveFields
line_has depth offset name look w n field small are size =
    let front = margin depth offset name in
    let blank = spaces (40 - length front) in
    let after = meaning look w n field ++ 10 ∷ [] in
    let numbers = numbers_text w n field in
    record {
      reads = λ more.
          let rest = numbers ++ (meaning look w n field ++ (10 ∷ more)) in
          ap (read at_start) (
          append_assoc (front ++ blank) (58 ∷ (numbers ++ after)) more
          ∙ append_assoc front blank (58 ∷ ((numbers ++ after) ++ more))
          ∙ ap (λ (l : List ℕ). front ++ (blank ++ (58 ∷ l))) (
          append_assoc numbers after more
          ∙ ap (λ (l : List ℕ). numbers ++ l) (append_assoc (meaning look w n field) (10 ∷ []) more)))
          ∙ margin_read depth offset name (blank ++ (58 ∷ rest)) small
          ∙ name_read blank (58 ∷ rest) (quiet_spaces (40 - length front))
          ∙ numbers_read w n field (meaning look w n field ++ (10 ∷ more)) (read at_start more) are size (meaning_ends look w n field are size more) [];
    }
