-- Tables that are read back from their text.
use Rattle.std.proofs.Common.{◌≡◌, ℕ, zero, suc, ◌+◌, ◌-◌, ◌<◌, ◌≤◌, ◌^◌, Bool, if◌then◌else◌, List, [], ◌∷◌, ◌++◌, length, take, drop, map, reverse, min, All, Result, Ok, Err, refl, sym, ap, ◌∙◌, arith, append_assoc, length-append}
use Rattle.std.proofs.lemmas.Bool.{eq-eqb}
use Rattle.std.proofs.lemmas.List.{append-nil, length-take, length-drop, take-append-drop, reverse-append}
use Rattle.std.proofs.lemmas.List.Elements.{All-head, All-tail, All-take, All-drop}
use Rattle.acpi_dump.specs.Dump.{Line, title, bytes, line_of, step, unless_fault, read}
use Rattle.acpi_dump.specs.Laws.{IsDumped, DumpsAreRead}
use Rattle.acpi_dump.specs.Written.{Named, title_line, bytes_line, bytes_lines, table_lines}
use Rattle.acpi_dump.specs.declared.fault.DumpFault.{DumpFault}
use Rattle.acpi_dump.specs.declared.fault.DumpFault.TheVariants.{Offset}
use Rattle.acpi_dump.proofs.ByteLines.{are_small, line_read, plain_line}
use Rattle.acpi_dump.proofs.Plain.{ArePlain, plain_both, plain_by, plain_name, unstripped, AllPlain, lines_are}
use Rattle.acpi_dump.proofs.Titles.{address, title_read}

-- a line that is known
read_line : (number : ℕ) (tables : List (List ℕ × List ℕ)) (line : List ℕ) (is : Line) (more : List (List ℕ)) → ArePlain line → line_of line ≡ is
    → read number tables (line ∷ more) ≡ unless_fault (step number tables is) (λ next. read (number + 1) next more)
read_line number tables line is more plain same =
    ap (λ (l : Line). unless_fault (step number tables l) (λ next. read (number + 1) next more)) (ap line_of (unstripped line plain) ∙ same)

small_part : (all : List ℕ) → All (λ b. b < 256) all → All (λ b. b < 256) (take 16 all)
small_part all are = All-take (λ (n : ℕ). n < 256) 16 all are

-- the first line of bytes
line_added : (number offset : ℕ) (name table : List ℕ) (done : List (List ℕ × List ℕ)) (b : ℕ) (bs : List ℕ) (more : List (List ℕ))
    → All (λ b. b < 256) (b ∷ bs) → offset ≡ length table → offset < 2 ^ 64
    → read number ((name, table) ∷ done) (bytes_line offset (take 16 (b ∷ bs)) ∷ more)
    ≡ read (number + 1) ((name, table ++ take 16 (b ∷ bs)) ∷ done) more
line_added number offset name table done b bs more are is small =
    let part = take 16 (b ∷ bs) in
    let below = are_small part (small_part (b ∷ bs) are) in
    read_line number ((name, table) ∷ done) (bytes_line offset part) (bytes offset part) more (plain_line offset part below)
    (line_read offset b (take 15 bs) below (omega (arith, length-take 15 bs)) small)
    ∙ ap (λ (t : Bool). unless_fault (if t then Ok ((name, table ++ part) ∷ done) else Err (Offset number (length table))) (λ next. read (number + 1) next more))
    (eq-eqb offset (length table) is)

lines_added : (most offset number : ℕ) (name table bs : List ℕ) (done : List (List ℕ × List ℕ)) (more : List (List ℕ))
    (result : Result (List (List ℕ × List ℕ)) DumpFault)
    → All (λ b. b < 256) bs → length bs ≤ most → (1 ≤ length bs → offset ≡ length table) → length table + length bs < 2 ^ 64
    → ((k : ℕ) → read k ((name, table ++ bs) ∷ done) more ≡ result) → read number ((name, table) ∷ done) (bytes_lines most offset bs ++ more) ≡ result
lines_added zero offset number name table [] done more result are few at fits go =
    ap (λ (l : List ℕ). read number ((name, l) ∷ done) more) (sym (append-nil table)) ∙ go number
lines_added zero offset number name table (b ∷ bs) done more result are few at fits go = absurd (omega (arith, few))
lines_added (suc most) offset number name table [] done more result are few at fits go =
    ap (λ (l : List ℕ). read number ((name, l) ∷ done) more) (sym (append-nil table)) ∙ go number
lines_added (suc most) offset number name table (b ∷ bs) done more result are few at fits go =
    let all = b ∷ bs in
    let part = take 16 all in
    let rest = drop 16 all in
    let here : offset ≡ length table = at (omega arith) in
    let size : length part ≡ min 16 (length all) = length-take 16 all in
    let left : length rest ≡ length all - 16 = length-drop 16 all in
    let grown : length (table ++ part) ≡ length table + length part = length-append table part in
    line_added number offset name table done b bs (bytes_lines most (offset + 16) rest ++ more) are here (omega (arith, here, fits))
    ∙ lines_added most (offset + 16) (number + 1) name (table ++ part) rest done more result (All-drop (λ (n : ℕ). n < 256) 16 all are)
    (omega (arith, left, few))
    (λ (some : 1 ≤ length rest). omega (arith, some, here, size, left, grown))
    (omega (arith, size, left, grown, fits))
    (λ (k : ℕ). ap (λ (l : List ℕ). read k ((name, l) ∷ done) more) (append_assoc table part rest ∙ ap (λ (l : List ℕ). table ++ l) (take-append-drop 16 all)) ∙ go k)

turned : (x : List ℕ × List ℕ) (done more : List (List ℕ × List ℕ)) → reverse (x ∷ done) ++ more ≡ reverse done ++ (x ∷ more)
turned x done more =
    ap (λ (l : List (List ℕ × List ℕ)). l ++ more) (reverse-append (x ∷ []) done) ∙ append_assoc (reverse done) (x ∷ []) more

plain_title : (name : List ℕ) → ArePlain name → ArePlain (title_line name)
plain_title name is = plain_both name address is (plain_by address refl)

-- what is read of a table
abbrev read_of : Named → List ℕ × List ℕ
read_of table = (title_line table.name, table.bytes)

tables_read : (tables : List Named) → All IsDumped tables → (number : ℕ) (done : List (List ℕ × List ℕ))
    → read number done (table_lines tables) ≡ Ok (reverse done ++ map read_of tables)
tables_read [] are number done = ap Ok (sym (append-nil (reverse done)))
tables_read (table ∷ tables) are number done =
    let is = All-head IsDumped table tables are in
    let others = tables_read tables (All-tail IsDumped table tables are) in
    let all = table.bytes in
    let name = title_line table.name in
    let result : Result (List (List ℕ × List ℕ)) DumpFault = Ok (reverse done ++ map read_of (table ∷ tables)) in
    read_line number done name (title name) (bytes_lines (length all) 0 all ++ ([] ∷ table_lines tables))
    (plain_title table.name (plain_name table.name is.one_line)) (title_read table.name is.begins)
    ∙ lines_added (length all) 0 (number + 1) name [] all done ([] ∷ table_lines tables) result is.are (omega arith) (λ (some : 1 ≤ length all). refl)
    (omega (arith, is.size))
    (λ (k : ℕ). others (k + 1) ((name, all) ∷ done) ∙ ap Ok (turned (name, all) done (map read_of tables)))

plain_lines : (most offset : ℕ) (bs : List ℕ) (more : List (List ℕ)) → All (λ b. b < 256) bs → AllPlain more
    → AllPlain (bytes_lines most offset bs ++ more)
plain_lines zero offset bs more are plain = plain
plain_lines (suc most) offset [] more are plain = plain
plain_lines (suc most) offset (b ∷ bs) more are plain = (
  plain_line offset (take 16 (b ∷ bs)) (are_small (take 16 (b ∷ bs)) (small_part (b ∷ bs) are)),
  plain_lines most (offset + 16) (drop 16 (b ∷ bs)) more (All-drop (λ (n : ℕ). n < 256) 16 (b ∷ bs) are) plain,
)

plain_tables : (tables : List Named) → All IsDumped tables → AllPlain (table_lines tables)
plain_tables [] are = tt
plain_tables (table ∷ tables) are =
    let is = All-head IsDumped table tables are in (
      plain_title table.name (plain_name table.name is.one_line),
      plain_lines (length table.bytes) 0 table.bytes ([] ∷ table_lines tables) is.are (tt, plain_tables tables (All-tail IsDumped table tables are)),
    )

pub dumps_read : DumpsAreRead
dumps_read tables are =
    ap (read 1 []) (lines_are (table_lines tables) (plain_tables tables are)) ∙ tables_read tables are 1 []
