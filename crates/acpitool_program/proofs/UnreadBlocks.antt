-- The lines of definition blocks whose terms can't be read, one after another.
use Rattle.std.proofs.Common.{◌≡◌, ℕ, max, Bool, List, [], ◌∷◌, ◌++◌, Option, Some, None, refl, ap, subst, ◌∙◌, sym, append_assoc, arith, codes}
use Rattle.std.proofs.lemmas.List.{append-nil}
use Rattle.std.specs.Io.KnownBytes.{Appends}
use Rattle.acpi_terms_text.specs.Objects.{Callee}
use Rattle.acpitool_program.specs.Fault.{line_of}
use Rattle.acpitool_program.specs.Checking.{AreCheckedAs}
use Rattle.acpitool_program.specs.Job.{checks}
use Rattle.acpitool_program.specs.Machine.{line_status, machine_text}
use Rattle.acpitool_program.specs.Outcome.{fault_line, fault_status, worst, KeptAs, AreOfEach, AreOfWord}
use Rattle.acpitool_program.specs.Unread.{IsTermsFault, AreUnreadLines, TellsUnread, TellsUnreadBlocks}
use Rattle.acpitool_program.specs.declared.fault.Fault.{Fault}
use Rattle.acpitool_program.proofs.Streams.{appends_none, appends_then}

-- before the first table
pub none_told : (stated : List (List ℕ × ℕ)) (further : List Callee) (err : Option (List ℕ)) → TellsUnread stated further [] err err 0
none_told stated further err = record { lines = []; are = refl; wrote = appends_none err; is = refl }

-- the line of a table after those of others
lines_then : (stated : List (List ℕ × ℕ)) (further : List Callee) (tables : List (List ℕ × List ℕ)) (table : List ℕ × List ℕ) (lines : List ℕ) (fault : Option Fault)
    → AreUnreadLines stated further tables lines → IsTermsFault stated further table.1 fault
    → AreUnreadLines stated further (tables ++ table ∷ []) (lines ++ fault_line table.0 fault)
lines_then stated further [] table lines fault none is =
    (fault, [], is, ap (λ l. l ++ fault_line table.0 fault) none ∙ sym (append-nil (fault_line table.0 fault)), refl)
lines_then stated further (first ∷ tables) table lines fault (its, more, of_first, same, others) is =
    let line = fault_line table.0 fault in (
      its,
      more ++ line,
      of_first,
      ap (λ l. l ++ line) same ∙ append_assoc (fault_line first.0 its) more line,
      lines_then stated further tables table more fault others is,
    )

-- a line that begins with a name isn't empty
line_is_one : (name words more : List ℕ) → line_status (name ++ codes ": " ++ words ++ more) ≡ 1
line_is_one [] words more = refl
line_is_one (c ∷ name) words more = refl

most_of_last : (n : ℕ) → max 0 n ≡ n
most_of_last n = grind arith

-- the status after a line
status_then : (lines name : List ℕ) (fault : Option Fault) → max (line_status lines) (fault_status fault) ≡ line_status (lines ++ fault_line name fault)
status_then [] name None = grind arith
status_then [] name (Some fault) =
    most_of_last 1 ∙ sym (line_is_one name (line_of fault) (10 ∷ []))
status_then (c ∷ lines) name None = grind arith
status_then (c ∷ lines) name (Some fault) = grind arith

-- a table was told after others
pub told_then : (stated : List (List ℕ × ℕ)) (further : List Callee) (tables all : List (List ℕ × List ℕ)) (table : List ℕ × List ℕ) (e e' e'' : Option (List ℕ))
    (fault : Option Fault) (before told status : ℕ) → tables ++ table ∷ [] ≡ all → status ≡ max before told
    → TellsUnread stated further tables e e' before → IsTermsFault stated further table.1 fault → Appends e' e'' (fault_line table.0 fault)
    → told ≡ fault_status fault → TellsUnread stated further all e e'' status
told_then stated further tables all table e e' e'' fault before told status whole worst have is wrote one =
    let P : List (List ℕ × List ℕ) → Type 0 = λ l. TellsUnread stated further l e e'' status in
    subst P whole (record {
      lines = have.lines ++ fault_line table.0 fault;
      are = lines_then stated further tables table have.lines fault have.are is;
      wrote = appends_then e e' e'' have.lines (fault_line table.0 fault) have.wrote wrote;
      is = worst ∙ ap (λ n. max n told) have.is ∙ ap (λ n. max (line_status have.lines) n) one ∙ status_then have.lines table.0 fault;
    })

-- tables were checked, compared with each other, and their terms were read
pub checked_and_told : (json : Bool) (files : List (List ℕ)) (kept : List (List ℕ × List ℕ)) (o o' o'' e e' e'' : Option (List ℕ))
    (a b u s t : ℕ) → KeptAs (checks json) (AreOfEach AreOfWord files) o o' e e' [] kept a
    → Appends o' o'' (machine_text json kept) × (b ≡ line_status (machine_text json kept)) → TellsUnreadBlocks kept e' e'' u
    → s ≡ max a b → t ≡ max s u → AreCheckedAs json files o o'' e e'' t
checked_and_told json files kept o o' o'' e e' e'' a b u s t one across told first last =
    let P : List (List ℕ × List ℕ) → Type 0 = λ l. TellsUnreadBlocks l e' e'' u in
    let Q : List (List ℕ × List ℕ) → Type 0 = λ l. Appends o' o'' (machine_text json l) in
    record {
      outcomes = one.outcomes;
      are = one.are;
      hold = one.printed.are;
      wrote = appends_then o o' o'' _ _ one.printed.wrote (subst Q one.keeps across.0);
      err_then = e';
      complained = one.printed.complained;
      unread = u;
      told = subst P one.keeps told;
      is = last ∙ ap (λ n. max n u) (first ∙ ap (λ n. max n b) one.printed.is
          ∙ ap (λ n. max (worst one.outcomes) n) (across.1 ∙ ap (λ l. line_status (machine_text json l)) one.keeps));
    }
