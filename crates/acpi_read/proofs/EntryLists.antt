-- Field entries, read one after the other as a loop does.
use Rattle.std.proofs.Common.{◌≡◌, ℕ, ◌-◌, ◌<◌, ◌≤◌, List, [], ◌∷◌, ◌++◌, length, Option, Some, None, Result, Ok, Err, refl, sym, ap, ◌∙◌, append_assoc, arith}
use Rattle.std.proofs.lemmas.List.{append-nil}
use Rattle.acpi_base.specs.Bytes.{AreBytes}
use Rattle.acpi_term.specs.declared.language.Language.{Language}
use Rattle.acpi_term.specs.Tree.{Entry}
use Rattle.acpi_term.specs.Reading.{Fault, ◌>>=◌, entry_at, entries_at}
use Rattle.acpi_term.proofs.Entries.{entry_takes, entries_step}
use Rattle.acpi_read.specs.Cause.{FailsBy}

-- what is read after a front that was read before
abbrev pub after_front : List Entry → Result (List Entry) Fault → Result (List Entry) Fault
after_front front read = read >>= λ others. Ok (front ++ others)

-- the entries that were read, and what is still to be read
pub record EntriesRead (l : Language) (bytes : List ℕ) (front : List Entry) (rest : List ℕ) : Type 0 where
  pub rest_fits : AreBytes rest
  pub bound : ℕ
  pub enough : length rest ≤ bound
  pub is : entries_at l (length bytes) bytes ≡ after_front front (entries_at l bound rest)

whole : (r : Result (List Entry) Fault) → r ≡ after_front [] r
whole (Ok x) = refl
whole (Err e) = refl

pub entries_begin : (l : Language) (bytes : List ℕ) → AreBytes bytes → EntriesRead l bytes [] bytes
entries_begin l bytes fits = record { rest_fits = fits; bound = length bytes; enough = omega arith; is = whole (entries_at l (length bytes) bytes) }

regrouped : (front : List Entry) (e : Entry) (r : Result (List Entry) Fault) → after_front front (after_front (e ∷ []) r) ≡ after_front (front ++ e ∷ []) r
regrouped front e (Ok x) = ap (λ (l : List Entry). Ok l) (sym (append_assoc front (e ∷ []) x))
regrouped front e (Err f) = refl

module _ (l : Language) (bytes : List ℕ) (front : List Entry) (rest : List ℕ) (some : 0 < length rest) (so_far : EntriesRead l bytes front rest) where
  next_is : entries_at l (length bytes) bytes ≡ after_front front (entry_at l rest >>= λ e. entries_at l (so_far.bound - 1) e.1 >>= λ others. Ok (e.0 ∷ others))
  next_is = so_far.is ∙ ap (after_front front) (entries_step l so_far.bound rest some so_far.enough)

  pub entries_go_on : (e : Entry) (after : List ℕ) → entry_at l rest ≡ Ok (e, after) → EntriesRead l bytes (front ++ e ∷ []) after
  entries_go_on e after read =
      let t = entry_takes l rest (e, after) so_far.rest_fits read in
      record {
        rest_fits = t.rest_fits;
        bound = so_far.bound - 1;
        enough = omega (arith, t.less, so_far.enough);
        is = next_is ∙ rw read (regrouped front e (entries_at l (so_far.bound - 1) after));
      }

  pub entries_shrink : (e : Entry) (after : List ℕ) → entry_at l rest ≡ Ok (e, after) → length after < length rest
  entries_shrink e after read = (entry_takes l rest (e, after) so_far.rest_fits read).less

  pub entries_fail : (k : Option Fault) → FailsBy k (entry_at l rest) → FailsBy k (entries_at l (length bytes) bytes)
  entries_fail None h = tt
  entries_fail (Some f) h = next_is ∙ rw h refl

pub entries_end : (l : Language) (bytes : List ℕ) (front : List Entry) (rest : List ℕ) → rest ≡ [] → EntriesRead l bytes front rest → entries_at l (length bytes) bytes ≡ Ok front
unfolding entries_at
entries_end l bytes front rest none so_far = so_far.is ∙ rw none (ap (λ (l : List Entry). Ok l) (append-nil front))
