-- What is read after a front that was read before.
use Rattle.std.proofs.Common.{◌≡◌, ℕ, List, [], ◌++◌, Result, Ok, Err, refl, sym, ap, append_assoc}
use Rattle.acpi_term.specs.Reading.{Fault, ◌>>=◌}

abbrev pub after_front : List ℕ → Result (List ℕ × List ℕ) Fault → Result (List ℕ × List ℕ) Fault
after_front front read = read >>= λ s. Ok (front ++ s.0, s.1)

pub whole : (r : Result (List ℕ × List ℕ) Fault) → r ≡ after_front [] r
whole (Ok x) = refl
whole (Err e) = refl

pub regrouped : (front s : List ℕ) (r : Result (List ℕ × List ℕ) Fault) → after_front front (after_front s r) ≡ after_front (front ++ s) r
regrouped front s (Ok t) = ap (λ (l : List ℕ). Ok (l, t.1)) (sym (append_assoc front s t.0))
regrouped front s (Err e) = refl
