-- Outcomes one after another.
use Rattle.std.proofs.Common.{◌≡◌, ℕ, max, List, [], ◌∷◌, ◌++◌, Option, Some, None, refl, sym, ap, subst, ◌∙◌, append_assoc, arith, codes, inl, inr, Bool, true, false, not, All, Result, Ok, Err, IfErr, map, length, ◌<◌, get_or}
use Rattle.std.proofs.lemmas.List.{append-nil, get_or-map, length-map}
use Rattle.std.proofs.lemmas.List.Elements.{All-cons, All-nil}
use Rattle.std.specs.Io.KnownBytes.{Keeps, Appends}
use Rattle.std.proofs.lemmas.Simd.{map-map}
use Rattle.acpi_dump.specs.Dump.{titled, is_dump, tables_of}
use Rattle.acpi_dump.specs.declared.dump.Dumped.{Dumped}
use Rattle.acpi_dump.specs.Fault.{text_of}
use Rattle.acpi_dump.specs.declared.fault.DumpFault.{DumpFault}
use Rattle.acpi_layout.specs.Addresses.{image_at}
use Rattle.acpi_layout.specs.declared.located.Located.{Located}
use Rattle.acpi_rules.specs.Finding.{Finding}
use Rattle.acpitool_program.specs.Checked.{AreFindings, printed_findings, finding_status}
use Rattle.acpitool_program.specs.Image.{IsFoundImage}
use Rattle.acpitool_program.specs.Machine.{kept_by}
use Rattle.acpitool_program.specs.declared.machine.Kept.{Kept}
use Rattle.acpitool_program.specs.Job.{Job, gathers, shows, checks, lists}
use Rattle.acpitool_program.specs.Object.{IsObject}
use Rattle.acpitool_program.specs.Outcome.{Outcome, gathered, shown, checked, listed, refused, broken, imageless, unread}
use Rattle.acpitool_program.specs.Outcome.{output, complaint, status, outputs, complaints, worst, AreOfImage, AreOfImageFile, AreOfWord, in_image, is_alone}
use Rattle.acpitool_program.specs.Outcome.{heading, labelled, fault_line, fault_status, AreTrueOutcomes, AreEach, AreOfTables, AreOfDump, AreOfBytesBy, AreOfBytes}
use Rattle.acpitool_program.specs.Outcome.{IsUnread, AreOfFile, AreGroups, joined, AreOfEach, Printed, PrintedAs}
use Rattle.acpitool_program.specs.Outcome.{kept_of, kept_in, KeptAs}
use Rattle.acpitool_program.specs.Program.{IsShown, NotStated, IsMisstatedAs, wrong_text}
use Rattle.acpi_input.specs.Stated.{stated}
use Rattle.acpi_terms_text.specs.Objects.{Callee}
use Rattle.acpitool_program.specs.declared.command.Style.{Style}
use Rattle.acpitool_program.specs.declared.command.Wrong.{Wrong}
use Rattle.acpi_forms.specs.Kind.{kind_of}
use Rattle.acpitool_program.specs.Fault.{line_of}
use Rattle.acpitool_program.specs.Listing.{IsNoImage, why}
use Rattle.acpitool_program.specs.Shown.{IsShownAs, IsShownFault, AreFurther}
use Rattle.acpitool_program.specs.Structures.{HasFault}
use Rattle.acpitool_program.proofs.Streams.{appends_none, appends_then}
use Rattle.acpitool_program.specs.Text.{IsKind, IsTextFault}
use Rattle.acpitool_program.specs.declared.fault.Fault.{Fault}
use Rattle.acpitool_program.specs.declared.image.NoImage.{NoImage}

-- ---- lists of outcomes

outputs_append : (a b : List Outcome) → outputs (a ++ b) ≡ outputs a ++ outputs b
outputs_append [] b = refl
outputs_append (o ∷ a) b = ap (λ l. output o ++ l) (outputs_append a b) ∙ sym (append_assoc (output o) (outputs a) (outputs b))

complaints_append : (a b : List Outcome) → complaints (a ++ b) ≡ complaints a ++ complaints b
complaints_append [] b = refl
complaints_append (o ∷ a) b = ap (λ l. complaint o ++ l) (complaints_append a b) ∙ sym (append_assoc (complaint o) (complaints a) (complaints b))

worst_append : (a b : List Outcome) → worst (a ++ b) ≡ max (worst a) (worst b)
worst_append [] b = grind arith
worst_append (o ∷ a) b = ap (λ n. max (status o) n) (worst_append a b) ∙ grind arith

kept_append : (a b : List Outcome) → kept_in (a ++ b) ≡ kept_in a ++ kept_in b
kept_append [] b = refl
kept_append (o ∷ a) b = ap (λ l. kept_of o ++ l) (kept_append a b) ∙ sym (append_assoc (kept_of o) (kept_in a) (kept_in b))

are_append : (job : Job) (a b : List Outcome) → AreTrueOutcomes job a → AreTrueOutcomes job b → AreTrueOutcomes job (a ++ b)
are_append job [] b one two = two
are_append job (o ∷ a) b one two = (one.0, are_append job a b one.1 two)

tables_append : (xs ys : List (List ℕ × List ℕ)) (a b : List Outcome)
    → AreEach xs a → AreEach ys b → AreEach (xs ++ ys) (a ++ b)
tables_append [] ys [] b one two = two
tables_append [] ys (o ∷ a) b one two = absurd one
tables_append (x ∷ xs) ys [] b one two = absurd one
tables_append (x ∷ xs) ys (o ∷ a) b one two = (one.0, one.1, tables_append xs ys a b one.2 two)

-- ---- what calls printed

pub nothing : (job : Job) (out err : Option (List ℕ)) → Printed job [] out out err err 0
nothing job out err = record { are = tt; wrote = appends_none out; complained = appends_none err; is = refl }

pub and_then : {job : Job} {xs ys : List Outcome} {o o' o'' e e' e'' : Option (List ℕ)} {a b : ℕ}
    → Printed job xs o o' e e' a → Printed job ys o' o'' e' e'' b → Printed job (xs ++ ys) o o'' e e'' (max a b)
and_then {job} {xs} {ys} {o} {o'} {o''} {e} {e'} {e''} {a} {b} one two =
    let P : List ℕ → Type 0 = λ l. Appends o o'' l in
    let Q : List ℕ → Type 0 = λ l. Appends e e'' l in
    record {
      are = are_append job xs ys one.are two.are;
      wrote = subst P (sym (outputs_append xs ys)) (appends_then o o' o'' _ _ one.wrote two.wrote);
      complained = subst Q (sym (complaints_append xs ys)) (appends_then e e' e'' _ _ one.complained two.complained);
      is = ap (λ n. max n b) one.is ∙ ap (λ n. max (worst xs) n) two.is ∙ sym (worst_append xs ys);
    }

pub same_status : {job : Job} {outcomes : List Outcome} {o o' e e' : Option (List ℕ)} {a b : ℕ} → a ≡ b
    → Printed job outcomes o o' e e' b → Printed job outcomes o o' e e' a
same_status {job} {outcomes} {o} {o'} {e} {e'} is one =
    let P : ℕ → Type 0 = λ n. Printed job outcomes o o' e e' n in subst P (sym is) one

-- of which more is known
pub as_these : {job : Job} {P Q : List Outcome → Type 0} {o o' e e' : Option (List ℕ)} {k k' : List (List ℕ × List ℕ)} {s : ℕ}
    → ((outcomes : List Outcome) → P outcomes → Q outcomes) → KeptAs job P o o' e e' k k' s → KeptAs job Q o o' e e' k k' s
as_these {job} {P} {Q} {o} {o'} {e} {e'} {k} {k'} {s} follows one =
    record { outcomes = one.outcomes; are = follows one.outcomes one.are; printed = one.printed; keeps = one.keeps }

-- ---- tables that are kept

keeps_none : (k : List (List ℕ × List ℕ)) (outcomes : List Outcome) → kept_in outcomes ≡ [] → k ≡ k ++ kept_in outcomes
keeps_none k outcomes none = sym (ap (λ l. k ++ l) none ∙ append-nil k)

keeps_then : (k k' k'' : List (List ℕ × List ℕ)) (a b : List Outcome) → k' ≡ k ++ kept_in a → k'' ≡ k' ++ kept_in b
    → k'' ≡ k ++ kept_in (a ++ b)
keeps_then k k' k'' a b one two =
    two ∙ ap (λ l. l ++ kept_in b) one ∙ append_assoc k (kept_in a) (kept_in b) ∙ ap (λ l. k ++ l) (sym (kept_append a b))

-- what is shown isn't kept
none_shown : (style : Style) (files : List (List ℕ)) (stated : List (List ℕ × ℕ)) (further : List Callee) (outcomes : List Outcome)
    → AreTrueOutcomes (shows style files stated further) outcomes → kept_in outcomes ≡ []
none_shown style files stated further [] all = refl
none_shown style files stated further (gathered name bytes ∷ more) all = absurd all.0
none_shown style files stated further (shown others name bytes text after fault ∷ more) all = none_shown style files stated further more all.1
none_shown style files stated further (checked json name bytes found fault ∷ more) all = absurd all.0.0
none_shown style files stated further (listed name bytes object fault ∷ more) all = absurd all.0.0
none_shown style files stated further (refused name bytes fault ∷ more) all = none_shown style files stated further more all.1
none_shown style files stated further (broken name dump fault ∷ more) all = none_shown style files stated further more all.1
none_shown style files stated further (imageless name base bytes fault ∷ more) all = none_shown style files stated further more all.1
none_shown style files stated further (unread name why ∷ more) all = none_shown style files stated further more all.1

-- nor is what is listed
none_listed : (outcomes : List Outcome) → AreTrueOutcomes lists outcomes → kept_in outcomes ≡ []
none_listed [] all = refl
none_listed (gathered name bytes ∷ more) all = absurd all.0
none_listed (shown others name bytes text after fault ∷ more) all = absurd all.0
none_listed (checked json name bytes found fault ∷ more) all = absurd all.0.0
none_listed (listed name bytes object fault ∷ more) all = none_listed more all.1
none_listed (refused name bytes fault ∷ more) all = none_listed more all.1
none_listed (broken name dump fault ∷ more) all = none_listed more all.1
none_listed (imageless name base bytes fault ∷ more) all = none_listed more all.1
none_listed (unread name why ∷ more) all = none_listed more all.1

pub shown_keep : {style : Style} {files : List (List ℕ)} {stated : List (List ℕ × ℕ)} {further : List Callee} {P : List Outcome → Type 0}
    {o o' e e' : Option (List ℕ)} {s : ℕ} → PrintedAs (shows style files stated further) P o o' e e' s
    → KeptAs (shows style files stated further) P o o' e e' [] [] s
shown_keep {style} {files} {stated} {further} one = record {
  outcomes = one.outcomes;
  are = one.are;
  printed = one.printed;
  keeps = keeps_none [] one.outcomes (none_shown style files stated further one.outcomes one.printed.are);
}

pub gathered_keep : {job : Job} {P : List Outcome → Type 0} {o o' e e' : Option (List ℕ)} {k k' : List (List ℕ × List ℕ)} {s : ℕ}
    → job ≡ gathers → KeptAs gathers P o o' e e' k k' s → KeptAs job P o o' e e' k k' s
gathered_keep {job} {P} {o} {o'} {e} {e'} {k} {k'} {s} is one =
    let K : Job → Type 0 = λ j. KeptAs j P o o' e e' k k' s in subst K (sym is) one

pub listed_keep : {job : Job} {P : List Outcome → Type 0} {o o' e e' : Option (List ℕ)} {s : ℕ}
    (k : List (List ℕ × List ℕ)) → job ≡ lists → PrintedAs lists P o o' e e' s → KeptAs job P o o' e e' k k s
listed_keep {job} {P} {o} {o'} {e} {e'} {s} k is one =
    let K : Job → Type 0 = λ j. KeptAs j P o o' e e' k k s in
    subst K (sym is) (record {
      outcomes = one.outcomes;
      are = one.are;
      printed = one.printed;
      keeps = keeps_none k one.outcomes (none_listed one.outcomes one.printed.are);
    })

-- which tables are kept needn't be known
pub is_printed : {job : Job} {P : List Outcome → Type 0} {o o' e e' : Option (List ℕ)} {k k' : List (List ℕ × List ℕ)} {s : ℕ}
    → KeptAs job P o o' e e' k k' s → PrintedAs job P o o' e e' s
is_printed {job} {P} {o} {o'} {e} {e'} {k} {k'} {s} one = record { outcomes = one.outcomes; are = one.are; printed = one.printed }

-- ---- one outcome

most_of_one : (s : ℕ) → s ≡ max s 0
most_of_one s = grind arith

pub one_gathered : (out err : Option (List ℕ)) (kept kept' : List (List ℕ × List ℕ)) (name bytes : List ℕ)
    → IsKind (kind_of bytes) bytes → kept' ≡ kept ++ (name, bytes) ∷ []
    → KeptAs gathers (AreOfTables ((name, bytes) ∷ [])) out out err err kept kept' 0
one_gathered out err kept kept' name bytes is added = record {
  outcomes = gathered name bytes ∷ [];
  are = record { each = (refl, refl, tt) };
  printed = record { are = (is, tt); wrote = appends_none out; complained = appends_none err; is = refl };
  keeps = added;
}

pub one_shown : (style : Style) (files : List (List ℕ)) (stated : List (List ℕ × ℕ)) (further : List Callee) (out out' err err' : Option (List ℕ))
    (name before bytes text after : List ℕ) (reason fault : Option Fault) (s : ℕ) → before ≡ heading (not (is_alone files name)) name
    → IsShownAs style stated further bytes text after reason → IsShownFault reason bytes fault
    → Appends out out' (before ++ text ++ after) → Appends err err' (fault_line name fault)
    → s ≡ fault_status fault → PrintedAs (shows style files stated further) (AreOfTables ((name, bytes) ∷ [])) out out' err err' s
one_shown style files stated further out out' err err' name before bytes text after reason fault s heads is has wrote told same =
    let more = not (is_alone files name) in
    let P : List ℕ → Type 0 = λ l. Appends out out' (l ++ text ++ after) in
    let Q : List ℕ → Type 0 = λ l. Appends out out' l in
    let R : List ℕ → Type 0 = λ l. Appends err err' l in
    record {
      outcomes = shown more name bytes text after fault ∷ [];
      are = record { each = (refl, refl, tt) };
      printed = record {
        are = ((refl, reason, is, has), tt);
        wrote = subst Q (sym (append-nil (heading more name ++ text ++ after))) (subst P heads wrote);
        complained = subst R (sym (append-nil (fault_line name fault))) told;
        is = same ∙ most_of_one (fault_status fault);
      };
    }

pub one_checked : (json : Bool) (out out' err err' : Option (List ℕ)) (kept kept' : List (List ℕ × List ℕ))
    (name bytes lines : List ℕ) (found : List Finding) (fault : Option Fault) (s : ℕ)
    → AreFindings bytes found → lines ≡ printed_findings json name bytes found
    → HasFault (kind_of bytes) bytes fault → Appends out out' lines → Appends err err' (fault_line name fault)
    → kept' ≡ kept ++ (name, bytes) ∷ [] → s ≡ max (finding_status found) (fault_status fault)
    → KeptAs (checks json) (AreOfTables ((name, bytes) ∷ [])) out out' err err' kept kept' s
one_checked json out out' err err' kept kept' name bytes lines found fault s are is has wrote told added same =
    let Q : List ℕ → Type 0 = λ l. Appends out out' l in
    let R : List ℕ → Type 0 = λ l. Appends err err' l in
    record {
      outcomes = checked json name bytes found fault ∷ [];
      are = record { each = (refl, refl, tt) };
      printed = record {
        are = (((refl, are), has), tt);
        wrote = subst Q (is ∙ sym (append-nil (printed_findings json name bytes found))) wrote;
        complained = subst R (sym (append-nil (fault_line name fault))) told;
        is = same ∙ most_of_one (max (finding_status found) (fault_status fault));
      };
      keeps = added;
    }

pub one_listed : (out out' err err' : Option (List ℕ)) (name bytes object line : List ℕ) (fault : Option Fault) (s : ℕ)
    → IsObject name bytes object → line ≡ object ++ 10 ∷ [] → HasFault (kind_of bytes) bytes fault → Appends out out' line
    → Appends err err' (fault_line name fault) → s ≡ fault_status fault
    → PrintedAs lists (AreOfTables ((name, bytes) ∷ [])) out out' err err' s
one_listed out out' err err' name bytes object line fault s is said has wrote told same =
    let Q : List ℕ → Type 0 = λ l. Appends out out' l in
    let R : List ℕ → Type 0 = λ l. Appends err err' l in
    record {
      outcomes = listed name bytes object fault ∷ [];
      are = record { each = (refl, refl, tt) };
      printed = record {
        are = ((is, has), tt);
        wrote = subst Q (said ∙ sym (append-nil (object ++ 10 ∷ []))) wrote;
        complained = subst R (sym (append-nil (fault_line name fault))) told;
        is = same ∙ most_of_one (fault_status fault);
      };
    }

pub one_refused : (job : Job) (out err err' : Option (List ℕ)) (kept : List (List ℕ × List ℕ)) (name bytes : List ℕ) (fault : Fault) (why : List ℕ)
    → IsTextFault bytes fault → why ≡ line_of fault → Appends err err' (name ++ codes ": " ++ why ++ 10 ∷ [])
    → KeptAs job (AreOfTables ((name, bytes) ∷ [])) out out err err' kept kept 1
one_refused job out err err' kept name bytes fault why is says wrote =
    let P : List ℕ → Type 0 = λ l. Appends err err' l in
    let Q : List ℕ → Type 0 = λ l. Appends err err' (name ++ codes ": " ++ l ++ 10 ∷ []) in
    record {
      outcomes = refused name bytes fault ∷ [];
      are = record { each = (refl, refl, tt) };
      printed = record {
        are = (is, tt);
        wrote = appends_none out;
        complained = subst P (sym (append-nil (name ++ codes ": " ++ line_of fault ++ 10 ∷ []))) (subst Q says wrote);
        is = refl;
      };
      keeps = sym (append-nil kept);
    }

pub one_broken : (job : Job) (out err err' : Option (List ℕ)) (kept : List (List ℕ × List ℕ)) (name dump why : List ℕ) (fault : DumpFault)
    → tables_of dump ≡ Err fault → why ≡ text_of fault → Appends err err' (name ++ codes ": " ++ why ++ 10 ∷ [])
    → KeptAs job (AreOfDump name dump) out out err err' kept kept 1
one_broken job out err err' kept name dump why fault is says wrote =
    let P : List ℕ → Type 0 = λ l. Appends err err' l in
    record {
      outcomes = broken name dump fault ∷ [];
      are = inr (fault, refl);
      printed = record {
        are = (is, tt);
        wrote = appends_none out;
        complained = subst P (ap (λ (l : List ℕ). name ++ codes ": " ++ l ++ 10 ∷ []) says ∙ sym (append-nil (name ++ codes ": " ++ text_of fault ++ 10 ∷ []))) wrote;
        is = refl;
      };
      keeps = sym (append-nil kept);
    }

pub one_imageless : (job : Job) (out err err' : Option (List ℕ)) (kept : List (List ℕ × List ℕ)) (name : List ℕ) (base : ℕ) (bytes : List ℕ)
    (fault : NoImage) (s : ℕ) → IsNoImage base bytes fault → Appends err err' (name ++ codes ": " ++ why base fault ++ 10 ∷ []) → s ≡ 1
    → KeptAs job (AreOfImage name base bytes) out out err err' kept kept s
one_imageless job out err err' kept name base bytes fault s none wrote is =
    let P : List ℕ → Type 0 = λ l. Appends err err' l in
    record {
      outcomes = imageless name base bytes fault ∷ [];
      are = inr (fault, refl);
      printed = record {
        are = (none, tt);
        wrote = appends_none out;
        complained = subst P (sym (append-nil (name ++ codes ": " ++ why base fault ++ 10 ∷ []))) wrote;
        is = is;
      };
      keeps = sym (append-nil kept);
    }

pub one_unread : (job : Job) (out err err' : Option (List ℕ)) (kept : List (List ℕ × List ℕ)) (name why : List ℕ) (s : ℕ)
    → Appends err err' (name ++ codes ": " ++ why ++ 10 ∷ []) → s ≡ 2 → KeptAs job (IsUnread name) out out err err' kept kept s
one_unread job out err err' kept name why s wrote is =
    let P : List ℕ → Type 0 = λ l. Appends err err' l in
    record {
      outcomes = unread name why ∷ [];
      are = (why, refl);
      printed = record {
        are = (tt, tt);
        wrote = appends_none out;
        complained = subst P (sym (append-nil (name ++ codes ": " ++ why ++ 10 ∷ []))) wrote;
        is = is;
      };
      keeps = sym (append-nil kept);
    }

-- ---- tables

pub no_tables : (job : Job) (out err : Option (List ℕ)) (kept : List (List ℕ × List ℕ))
    → KeptAs job (AreOfTables []) out out err err kept kept 0
no_tables job out err kept =
    record { outcomes = []; are = record { each = tt }; printed = nothing job out err; keeps = sym (append-nil kept) }

pub tables_then : {job : Job} {xs ys : List (List ℕ × List ℕ)} {o o' o'' e e' e'' : Option (List ℕ)}
    {k k' k'' : List (List ℕ × List ℕ)} {a b : ℕ}
    → KeptAs job (AreOfTables xs) o o' e e' k k' a → KeptAs job (AreOfTables ys) o' o'' e' e'' k' k'' b
    → KeptAs job (AreOfTables (xs ++ ys)) o o'' e e'' k k'' (max a b)
tables_then {job} {xs} {ys} {k = k} {k' = k'} {k'' = k''} one two = record {
  outcomes = one.outcomes ++ two.outcomes;
  are = record { each = tables_append xs ys one.outcomes two.outcomes one.are.each two.are.each };
  printed = and_then one.printed two.printed;
  keeps = keeps_then k k' k'' one.outcomes two.outcomes one.keeps two.keeps;
}

-- of the same tables, with the same status
pub same_tables : {job : Job} {xs ys : List (List ℕ × List ℕ)} {o o' e e' : Option (List ℕ)}
    {k k' : List (List ℕ × List ℕ)} {a b : ℕ}
    → xs ≡ ys → a ≡ b → KeptAs job (AreOfTables xs) o o' e e' k k' b
    → KeptAs job (AreOfTables ys) o o' e e' k k' a
same_tables {job} {xs} {ys} {o} {o'} {e} {e'} {k} {k'} {a} {b} same is one =
    let P : List (List ℕ × List ℕ) → Type 0 = λ l. KeptAs job (AreOfTables l) o o' e e' k k' a in
    let Q : ℕ → Type 0 = λ n. KeptAs job (AreOfTables xs) o o' e e' k k' n in
    subst P same (subst Q (sym is) one)

-- the tables of a dump, each with its own name
pub dump_tables : (name dump : List ℕ) (items : List Dumped) → tables_of dump ≡ Ok (map titled items) → (outcomes : List Outcome)
    → AreOfTables (map (λ table. labelled name (titled table)) items) outcomes → AreOfDump name dump outcomes
dump_tables name dump items is outcomes are =
    let P : List (List ℕ × List ℕ) → Type 0 = λ l. AreOfTables l outcomes in
    inl (map titled items, is, subst P (sym (map-map (labelled name) titled items)) are)

-- those of an image
pub image_tables : (name : List ℕ) (base : ℕ) (bytes : List ℕ) (tables : List Located) → IsFoundImage base bytes tables
    → (outcomes : List Outcome) → AreOfTables (map (in_image name (image_at base bytes)) tables) outcomes
    → AreOfImage name base bytes outcomes
image_tables name base bytes tables found outcomes are = inl (tables, found, are)

-- ---- files

-- a file that is a table
pub table_bytes : (name bytes : List ℕ) → is_dump bytes ≡ false → (outcomes : List Outcome)
    → AreOfTables ((name, bytes) ∷ []) outcomes → AreOfBytes name bytes outcomes
table_bytes name bytes plain outcomes are =
    let P : Bool → Type 0 = λ b. AreOfBytesBy b name bytes outcomes in subst P (sym plain) are

-- a file that is a dump
pub dump_bytes : (name bytes : List ℕ) → is_dump bytes ≡ true → (outcomes : List Outcome)
    → AreOfDump name bytes outcomes → AreOfBytes name bytes outcomes
dump_bytes name bytes dumps outcomes are =
    let P : Bool → Type 0 = λ b. AreOfBytesBy b name bytes outcomes in subst P (sym dumps) are

-- the bytes that were read of a file
pub file_bytes : (name bytes : List ℕ) (outcomes : List Outcome) → AreOfBytes name bytes outcomes
    → AreOfFile name outcomes
file_bytes name bytes outcomes are = inl (bytes, are)

-- those of a file with an image
pub image_bytes : (file : List ℕ) (base : ℕ) (bytes : List ℕ) (outcomes : List Outcome) → AreOfImage file base bytes outcomes
    → AreOfImageFile file base outcomes
image_bytes file base bytes outcomes are = inl (bytes, are)

pub image_unread : (file : List ℕ) (base : ℕ) (outcomes : List Outcome) → IsUnread file outcomes → AreOfImageFile file base outcomes
image_unread file base outcomes are = inr are

pub if_err : {T E P : Type 0} (read : Result T E) → P → IfErr read (λ _. P)
if_err (Ok value) known = tt
if_err (Err error) known = known

-- ---- words

joined_append : (a : List (List Outcome)) (b : List Outcome) → joined (a ++ b ∷ []) ≡ joined a ++ b
joined_append [] b = append-nil b
joined_append (group ∷ a) b = ap (λ l. group ++ l) (joined_append a b) ∙ sym (append_assoc group (joined a) b)

groups_append : (Of : List ℕ → List Outcome → Type 0) (words : List (List ℕ)) (word : List ℕ) (groups : List (List Outcome)) (group : List Outcome)
    → AreGroups Of words groups → Of word group → AreGroups Of (words ++ word ∷ []) (groups ++ group ∷ [])
groups_append Of [] word [] group one two = (two, tt)
groups_append Of [] word (other ∷ groups) group one two = absurd one
groups_append Of (first ∷ words) word [] group one two = absurd one
groups_append Of (first ∷ words) word (other ∷ groups) group one two = (one.0, groups_append Of words word groups group one.1 two)

pub no_words : (job : Job) (Of : List ℕ → List Outcome → Type 0) (out err : Option (List ℕ)) (kept : List (List ℕ × List ℕ))
    → KeptAs job (AreOfEach Of []) out out err err kept kept 0
no_words job Of out err kept = record {
  outcomes = [];
  are = record { groups = []; each = tt; are = refl };
  printed = nothing job out err;
  keeps = sym (append-nil kept);
}

-- one more word, in the same list of words, with the same status
pub word_then : {job : Job} (Of : List ℕ → List Outcome → Type 0) (words all : List (List ℕ)) (word : List ℕ)
    {o o' o'' e e' e'' : Option (List ℕ)} {k k' k'' : List (List ℕ × List ℕ)} {a b s : ℕ} → words ++ word ∷ [] ≡ all → s ≡ max a b
    → KeptAs job (AreOfEach Of words) o o' e e' k k' a → KeptAs job (Of word) o' o'' e' e'' k' k'' b
    → KeptAs job (AreOfEach Of all) o o'' e e'' k k'' s
word_then {job} Of words all word {o} {o'} {o''} {e} {e'} {e''} {k} {k'} {k''} {a} {b} {s} same is one two =
    let P : List (List ℕ) → Type 0 = λ l. AreOfEach Of l (one.outcomes ++ two.outcomes) in
    record {
      outcomes = one.outcomes ++ two.outcomes;
      are = subst P same (record {
        groups = one.are.groups ++ two.outcomes ∷ [];
        each = groups_append Of words word one.are.groups two.outcomes one.are.each two.are;
        are = ap (λ l. l ++ two.outcomes) one.are.are ∙ sym (joined_append one.are.groups two.outcomes);
      });
      printed = same_status is (and_then one.printed two.printed);
      keeps = keeps_then k k' k'' one.outcomes two.outcomes one.keeps two.keeps;
    }

-- ---- a run

keeps_self : (a : Option (List ℕ)) → Keeps a a
keeps_self None = tt
keeps_self (Some xs) = refl

pub unstated : (numbers : List (List ℕ)) (wrong : Wrong) (o e e' : Option (List ℕ)) (s : ℕ)
    → (s ≡ 2) × Appends e e' (wrong_text wrong) → IsMisstatedAs numbers wrong → NotStated numbers o o e e' s
unstated numbers wrong o e e' s said misstated =
    record { wrong = wrong; is_wrong = misstated; is = said.0; complained = said.1; silent = keeps_self o }

pub not_stated : (style : Style) (files numbers : List (List ℕ)) (wrong : Wrong) (o e e' : Option (List ℕ)) (s : ℕ)
    → (s ≡ 2) × Appends e e' (wrong_text wrong) → IsMisstatedAs numbers wrong → IsShown style files numbers o o e e' s
not_stated style files numbers wrong o e e' s said misstated = inr (unstated numbers wrong o e e' s said misstated)

-- tables were gathered, and then shown
pub gathered_and_shown : (style : Style) (files numbers : List (List ℕ)) (all : List (List ℕ × ℕ)) (further : List Callee)
    (tables : List (List ℕ × List ℕ)) (o o' o'' e e' e'' : Option (List ℕ)) (a b s : ℕ) → stated numbers ≡ Some all
    → KeptAs gathers (AreOfEach AreOfWord files) o o' e e' [] tables a → AreFurther all tables further
    → PrintedAs (shows style files all further) (AreOfTables tables) o' o'' e' e'' b → s ≡ max a b → IsShown style files numbers o o'' e e'' s
gathered_and_shown style files numbers all further tables o o' o'' e e' e'' a b s is one named two same =
    let P : List (List ℕ × List ℕ) → Type 0 = λ l. AreFurther all l further in
    let Q : List (List ℕ × List ℕ) → Type 0 = λ l. AreOfTables l two.outcomes in
    inl (record {
      all = all;
      stated = is;
      gathered = one.outcomes;
      are = one.are;
      hold = one.printed.are;
      further = further;
      named = subst P one.keeps named;
      shown = two.outcomes;
      of = subst Q one.keeps two.are;
      show = two.printed.are;
      wrote = appends_then o o' o'' _ _ one.printed.wrote two.printed.wrote;
      complained = appends_then e e' e'' _ _ one.printed.complained two.printed.complained;
      is = same ∙ ap (λ n. max n b) one.printed.is ∙ ap (λ n. max (worst one.outcomes) n) two.printed.is;
    })

-- tables that were gathered are what their signatures say
abbrev pub IsOfKind : List ℕ × List ℕ → Type 0
IsOfKind table = IsKind (kind_of table.1) table.1

pub kinds_kept : (outcomes : List Outcome) → AreTrueOutcomes gathers outcomes → All IsOfKind (kept_in outcomes)
kinds_kept [] all = All-nil IsOfKind
kinds_kept (gathered name bytes ∷ more) all = All-cons IsOfKind (name, bytes) (kept_in more) all.0 (kinds_kept more all.1)
kinds_kept (shown others name bytes text after fault ∷ more) all = absurd all.0
kinds_kept (checked json name bytes found fault ∷ more) all = absurd all.0.0
kinds_kept (listed name bytes object fault ∷ more) all = absurd all.0.0
kinds_kept (refused name bytes fault ∷ more) all = kinds_kept more all.1
kinds_kept (broken name dump fault ∷ more) all = kinds_kept more all.1
kinds_kept (imageless name base bytes fault ∷ more) all = kinds_kept more all.1
kinds_kept (unread name why ∷ more) all = kinds_kept more all.1

pub kinds_of_kept : {P : List Outcome → Type 0} {o o' e e' : Option (List ℕ)} {k : List (List ℕ × List ℕ)} {s : ℕ}
    → KeptAs gathers P o o' e e' [] k s → All IsOfKind k
kinds_of_kept one =
    let Q : List (List ℕ × List ℕ) → Type 0 = λ l. All IsOfKind l in subst Q (sym one.keeps) (kinds_kept one.outcomes one.printed.are)

-- one of them
pub kind_at : (tables : List Kept) (at : ℕ) (table : Kept) → at < length tables → table ≡ get_or tables at table
    → All IsOfKind (map kept_by tables) → IsOfKind (kept_by table)
kind_at tables at table within is all =
    let P : ℕ → Type 0 = λ n. at < n in
    let Q : List ℕ × List ℕ → Type 0 = IsOfKind in
    subst Q (get_or-map kept_by tables at table (kept_by table) within ∙ ap kept_by (sym is))
    (all at (kept_by table) (subst P (sym (length-map tables kept_by)) within))
