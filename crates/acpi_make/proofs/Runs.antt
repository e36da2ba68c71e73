-- Runs of characters that leave a state as it is.
use Rattle.std.proofs.Common.{◌≡◌, ℕ, ◌==◌, Bool, true, false, cond, List, [], ◌∷◌, length, refl, arith}
use Rattle.std.proofs.lemmas.Bool.Decides.{nat_tests}
use Rattle.acpi_make.specs.Meaning.{read}
use Rattle.acpi_make.specs.Run.{is_plain, after_plain, MeansSame}
use Rattle.acpi_make.specs.Step.{is_control, step}
use Rattle.acpi_make.specs.declared.state.State.{State}
use Rattle.acpi_make.specs.declared.state.State.TheVariants.{Headed, Named, Skipped, Braced}
use Rattle.acpi_make.specs.declared.state.Step.TheVariants.{Goes}

-- a plain character leaves the state as it is
abbrev Stays : ℕ → State → Type 0
Stays end state = (here c : ℕ) → is_plain end c ≡ true → step here state c ≡ Goes state

record Printing (c : ℕ) : Type 0 where
  line : (c == 10) ≡ false
  control : is_control c ≡ false

plain_prints : (end c : ℕ) → is_plain end c ≡ true → Printing c
plain_prints end c is = record { line = grind (arith, nat_tests); control = grind (arith, nat_tests) }

plain_goes_on : (end c : ℕ) → is_plain end c ≡ true → (c == end) ≡ false
plain_goes_on end c is = grind (arith, nat_tests)

skipped_stays : (end : ℕ) → Stays end Skipped
skipped_stays end here c is = rw ((plain_prints end c is).line, (plain_prints end c is).control) refl

headed_stays : (end from : ℕ) → Stays end (Headed from)
headed_stays end from here c is = rw ((plain_prints end c is).line, (plain_prints end c is).control) refl

named_stays : (from : ℕ) → Stays 58 (Named from)
named_stays from here c is = rw ((plain_prints 58 c is).line, (plain_prints 58 c is).control, plain_goes_on 58 c is) refl

braced_stays : (from : ℕ) → Stays 125 (Braced from)
braced_stays from here c is = rw ((plain_prints 125 c is).line, (plain_prints 125 c is).control, plain_goes_on 125 c is) refl

-- by whether the first character is plain
first_same : (end : ℕ) (state : State) (c : ℕ) (text number : List ℕ) (b : Bool) → Stays end state → is_plain end c ≡ b
    → read state number text ≡ read state number (after_plain end text)
    → read state number (c ∷ text) ≡ read state number (cond b (after_plain end text) (c ∷ text))
first_same end state c text number true stays is same = rw (stays (length (c ∷ text)) c is) same
first_same end state c text number false stays is same = refl

run_same : (end : ℕ) (state : State) (text : List ℕ) → Stays end state → MeansSame state text (after_plain end text)
run_same end state [] stays number = refl
run_same end state (c ∷ text) stays number =
    first_same end state c text number (is_plain end c) stays refl (run_same end state text stays number)

pub skipped_same : (text : List ℕ) → MeansSame Skipped text (after_plain 127 text)
skipped_same text = run_same 127 Skipped text (skipped_stays 127)

pub headed_same : (from : ℕ) (text : List ℕ) → MeansSame (Headed from) text (after_plain 127 text)
headed_same from text = run_same 127 (Headed from) text (headed_stays 127 from)

pub named_same : (from : ℕ) (text : List ℕ) → MeansSame (Named from) text (after_plain 58 text)
named_same from text = run_same 58 (Named from) text (named_stays from)

pub braced_same : (from : ℕ) (text : List ℕ) → MeansSame (Braced from) text (after_plain 125 text)
braced_same from text = run_same 125 (Braced from) text (braced_stays from)
