-- What the commands of a loader leave.
use Rattle.std.proofs.Common.{◌≡◌, ℕ, ◌+◌, ◌*◌, ◌%◌, ◌^◌, ◌<◌, ◌≤◌, List, [], ◌∷◌, ◌++◌, length, take, refl, sym, ap, ◌∙◌, arith, append_assoc, length-append}
use Rattle.std.specs.Prelude.{sum, codes, Option, Some, None}
use Rattle.std.specs.Option.{is_some}
use Rattle.std.proofs.lemmas.List.{append-nil, take_at}
use Rattle.acpi_base.specs.Bytes.{le, put, zeros, complement}
use Rattle.acpi_base.specs.declared.oem.Oem.{Oem}
use Rattle.acpi_base.proofs.Bytes.{length_le}
use Rattle.acpi_core.specs.Listing.{bytes_of}
use Rattle.acpi_fixed.specs.Rsdp.{rsdp_bytes, rsdp_for}
use Rattle.acpi_layout.specs.Files.{pointing, pointed as fadt_pointed, oem_of}
use Rattle.acpi_layout.specs.Image.{control_bytes, control_address, listing}
use Rattle.acpi_loader.specs.Firmware.{Addresses, Memory, pointed, summed, done, run}
use Rattle.acpi_loader.specs.Laws.{CommandsHaveTheirSize, LoadersLay, laid_at}
use Rattle.acpi_loader.specs.Loader.{unsummed_rsdp, tables_file, rsdp_file}
use Rattle.acpi_loader.specs.Places.{facs_commands, fadt_commands, entry_commands, xsdt_commands, rsdp_commands, places_of, commands_of}
use Rattle.acpi_loader.specs.Tables.{Tables, fadt_place, xsdt_place, tables_at, rsdp_at}
use Rattle.acpi_loader.specs.declared.command.Command.{Command}
use Rattle.acpi_loader.specs.declared.command.Command.TheVariants as commands
use Rattle.acpi_loader.specs.declared.command.File.TheVariants as files
use Rattle.acpi_loader.proofs.Moves.{put_within, pointed_within, pointed_here, checked, summed_here, summed_within}
use Rattle.acpi_loader.proofs.Pointers.{pointer_done}
use Rattle.acpi_loader.proofs.Shapes.{FadtParts, fadt_parts, pointing_is, pointing_size, fadt_size, listing_size, entries_of, entries_size, xsdt_front, xsdt_middle, xsdt_is, front_size, middle_size, xsdt_size, id_size, table_id_size, AreBelow, Parts, parts_of}

-- both files in memory
abbrev pub both : List ℕ → List ℕ → Memory
both tables rsdp = record { tables = tables; rsdp = rsdp }

-- commands after others
run_append : (at : Addresses) (first more : List Command) (m : Memory) → run at (first ++ more) m ≡ run at more (run at first m)
run_append at [] more m = refl
run_append at (c ∷ first) more m = run_append at first more (done at c m)

regroup : (a b c r : List ℕ) → a ++ (b ++ (c ++ r)) ≡ (a ++ (b ++ c)) ++ r
regroup a b c r = sym (append_assoc a (b ++ c) r ∙ ap (λ l. a ++ l) (append_assoc b c r))

-- ---- the FADT

module _ (fadt : List ℕ) (p : FadtParts fadt) where
  -- a FADT with two numbers and a checksum of 0
  abbrev blank : ℕ → ℕ → List ℕ
  blank a d = p.front ++ 0 ∷ (p.middle ++ (le 8 a ++ (le 8 d ++ p.back)))

  blank_size : (a d : ℕ) → length (blank a d) ≡ length fadt
  blank_size a d = fadt_size fadt p 0 a d

  facs_pointed : (t a v d : ℕ) → a < 2 ^ 64 → v ≡ a + t → pointed 132 t (blank a d) ≡ blank v d
  facs_pointed t a v d small is =
      let before = p.front ++ 0 ∷ p.middle in
      let more = le 8 d ++ p.back in
      let cut : (c : ℕ) → p.front ++ 0 ∷ (p.middle ++ (le 8 c ++ more)) ≡ before ++ (le 8 c ++ more)
      = λ c. sym (append_assoc p.front (0 ∷ p.middle) (le 8 c ++ more)) in
      ap (pointed 132 t) (cut a)
      ∙ pointed_here 132 a t v before more (omega (arith, length-append p.front (0 ∷ p.middle), p.front_size, p.middle_size)) small is
      ∙ sym (cut v)

  dsdt_pointed : (t a d v : ℕ) → d < 2 ^ 64 → v ≡ d + t → pointed 140 t (blank a d) ≡ blank a v
  dsdt_pointed t a d v small is =
      let inner = p.middle ++ le 8 a in
      let before = p.front ++ 0 ∷ inner in
      let cut : (c : ℕ) → p.front ++ 0 ∷ (p.middle ++ (le 8 a ++ (le 8 c ++ p.back))) ≡ before ++ (le 8 c ++ p.back)
      = λ c. ap (λ l. p.front ++ 0 ∷ l) (sym (append_assoc p.middle (le 8 a) (le 8 c ++ p.back)))
      ∙ sym (append_assoc p.front (0 ∷ inner) (le 8 c ++ p.back)) in
      let size : length before ≡ 140
      = omega (arith, length-append p.front (0 ∷ inner), length-append p.middle (le 8 a), length_le 8 a, p.front_size, p.middle_size) in
      ap (pointed 140 t) (cut d) ∙ pointed_here 140 d t v before p.back size small is ∙ sym (cut v)

  fadt_summed : (a d : ℕ) → summed 9 0 (length fadt) (blank a d) ≡ pointing a d fadt
  fadt_summed a d =
      summed_here 9 (length fadt) p.front (p.middle ++ (le 8 a ++ (le 8 d ++ p.back))) p.front_size (sym (fadt_size fadt p 0 a d))
      ∙ sym (pointing_is fadt p a d)

  -- the checksum is 0
  blanked : (a d : ℕ) → put 9 (0 ∷ []) (pointing a d fadt) ≡ blank a d
  blanked a d =
      let body = p.middle ++ (le 8 a ++ (le 8 d ++ p.back)) in
      ap (put 9 (0 ∷ [])) (pointing_is fadt p a d) ∙ checked 9 (complement (sum (p.front ++ 0 ∷ body))) 0 p.front body p.front_size

  module _ (at : Addresses) (n : ℕ) (before after rsdp : List ℕ) (place : length before ≡ n) (long : 148 ≤ length fadt) where
    facs_done : (facs : Option (List ℕ)) (d : ℕ)
        → run at (facs_commands (is_some facs) n) (both (before ++ (blank (control_address 0 facs) d ++ after)) rsdp)
        ≡ both (before ++ (blank (control_address at.tables facs) d ++ after)) rsdp
    facs_done None d = refl
    facs_done (Some facs) d =
        ap (λ l. both l rsdp)
        (pointed_within n 132 at.tables before (blank 0 d) after place (omega (arith, blank_size 0 d, long))
        ∙ ap (λ l. before ++ (l ++ after)) (facs_pointed at.tables 0 at.tables d (omega arith) (omega arith)))

    fadt_done : (a d v : ℕ) → d < 2 ^ 64 → v ≡ d + at.tables
        → run at (fadt_commands n (length fadt)) (both (before ++ (blank a d ++ after)) rsdp) ≡ both (before ++ (pointing a v fadt ++ after)) rsdp
    fadt_done a d v small is =
        let told : pointed (n + 140) at.tables (before ++ (blank a d ++ after)) ≡ before ++ (blank a v ++ after)
        = pointed_within n 140 at.tables before (blank a d) after place (omega (arith, blank_size a d, long))
        ∙ ap (λ l. before ++ (l ++ after)) (dsdt_pointed at.tables a d v small is) in
        ap (λ l. both (summed (n + 9) n (length fadt) l) rsdp) told
        ∙ ap (λ l. both l rsdp)
        (summed_within n 9 (length fadt) before (blank a v) after place (sym (blank_size a v)) (omega (arith, long))
        ∙ ap (λ l. before ++ (l ++ after)) (fadt_summed a v))

-- ---- the XSDT

pub below_more : (l m : ℕ) (places : List ℕ) → l ≤ m → AreBelow l places → AreBelow m places
below_more l m [] h below = tt
below_more l m (p ∷ places) h below = (omega (arith, h, below.0), below_more l m places h below.1)

entries_done : (at : Addresses) (places : List ℕ) (n : ℕ) (before after rsdp : List ℕ) → length before ≡ n → AreBelow (2 ^ 64) places
    → run at (entry_commands n (length places)) (both (before ++ (entries_of 0 places ++ after)) rsdp)
    ≡ both (before ++ (entries_of at.tables places ++ after)) rsdp
entries_done at [] n before after rsdp place below = refl
entries_done at (q ∷ places) n before after rsdp place below =
    let t = at.tables in
    let old = le 8 (0 + q) in
    let new = le 8 (t + q) in
    let rest = entries_of 0 places in
    let one : pointed n t (before ++ ((old ++ rest) ++ after)) ≡ (before ++ new) ++ (rest ++ after)
    = ap (λ l. pointed n t (before ++ l)) (append_assoc old rest after)
    ∙ pointed_here n (0 + q) t (t + q) before (rest ++ after) place (omega (arith, below.0)) (omega arith)
    ∙ sym (append_assoc before new (rest ++ after)) in
    let size : length (before ++ new) ≡ n + 8 = omega (arith, length-append before new, length_le 8 (t + q), place) in
    ap (λ l. run at (entry_commands (n + 8) (length places)) (both l rsdp)) one
    ∙ entries_done at places (n + 8) (before ++ new) after rsdp size below.1
    ∙ ap (λ l. both l rsdp)
    (append_assoc before new (entries_of t places ++ after) ∙ ap (λ l. before ++ l) (sym (append_assoc new (entries_of t places) after)))

module _ (oem : Oem) (six : length oem.id ≡ 6) (eight : length oem.table_id ≡ 8) (places : List ℕ) where
  abbrev top : List ℕ
  top = xsdt_front (36 + 8 * length places)

  -- an XSDT with a checksum of 0
  abbrev empty : ℕ → List ℕ
  empty base = top ++ 0 ∷ (xsdt_middle oem ++ entries_of base places)

  empty_size : (base : ℕ) → length (empty base) ≡ 36 + 8 * length places
  empty_size base = xsdt_size oem 0 base places (xsdt_front (36 + 8 * length places)) (front_size (36 + 8 * length places)) six eight

  emptied : (base : ℕ) → put 9 (0 ∷ []) (bytes_of (listing base oem places)) ≡ empty base
  emptied base =
      let front = xsdt_front (36 + 8 * length places) in
      let body = xsdt_middle oem ++ entries_of base places in
      ap (put 9 (0 ∷ [])) (xsdt_is base oem places front refl)
      ∙ checked 9 (complement (sum (front ++ 0 ∷ body))) 0 front body (front_size (36 + 8 * length places))

  xsdt_summed : (base : ℕ) → summed 9 0 (36 + 8 * length places) (empty base) ≡ bytes_of (listing base oem places)
  xsdt_summed base =
      let front = xsdt_front (36 + 8 * length places) in
      summed_here 9 (36 + 8 * length places) front (xsdt_middle oem ++ entries_of base places) (front_size (36 + 8 * length places)) (sym (empty_size base))
      ∙ sym (xsdt_is base oem places front refl)

  module _ (at : Addresses) (n : ℕ) (before after rsdp : List ℕ) (place : length before ≡ n) (below : AreBelow (2 ^ 64) places) where
    filled : run at (entry_commands (n + 36) (length places)) (both (before ++ (empty 0 ++ after)) rsdp)
        ≡ both (before ++ (empty at.tables ++ after)) rsdp
    filled =
        let front = xsdt_front (36 + 8 * length places) in
        let head = front ++ 0 ∷ xsdt_middle oem in
        let cut : (base : ℕ) → before ++ ((front ++ 0 ∷ (xsdt_middle oem ++ entries_of base places)) ++ after)
        ≡ (before ++ head) ++ (entries_of base places ++ after)
        = λ base. ap (λ l. before ++ (l ++ after)) (sym (append_assoc front (0 ∷ xsdt_middle oem) (entries_of base places)))
        ∙ ap (λ l. before ++ l) (append_assoc head (entries_of base places) after)
        ∙ sym (append_assoc before head (entries_of base places ++ after)) in
        let size : length (before ++ head) ≡ n + 36
        = omega (arith, length-append before head, length-append front (0 ∷ xsdt_middle oem), front_size (36 + 8 * length places), middle_size oem six eight, place) in
        ap (λ l. run at (entry_commands (n + 36) (length places)) (both l rsdp)) (cut 0)
        ∙ entries_done at places (n + 36) (before ++ head) after rsdp size below
        ∙ ap (λ l. both l rsdp) (sym (cut at.tables))

    pub xsdt_done : (count : ℕ) → count ≡ length places
        → run at (xsdt_commands n count) (both (before ++ (empty 0 ++ after)) rsdp)
        ≡ both (before ++ (bytes_of (listing at.tables oem places) ++ after)) rsdp
    xsdt_done count is =
        ap (λ c. run at (xsdt_commands n c) (both (before ++ (empty 0 ++ after)) rsdp)) is
        ∙ run_append at (entry_commands (n + 36) (length places)) _ (both (before ++ (empty 0 ++ after)) rsdp)
        ∙ ap (λ (m : Memory). both (summed (n + 9) n (36 + 8 * length places) m.tables) m.rsdp) filled
        ∙ ap (λ l. both l rsdp)
        (summed_within n 9 (36 + 8 * length places) before (empty at.tables) after place (sym (empty_size at.tables)) (omega arith)
        ∙ ap (λ l. before ++ (l ++ after)) (xsdt_summed at.tables))

-- ---- all commands

module _ (tables : Tables) (at : Addresses) (long : 148 ≤ length tables.fadt) (fits : at.tables + length (tables_at 0 tables) ≤ 2 ^ 64) where
  abbrev s : Parts tables
  s = parts_of tables long

  abbrev p : FadtParts tables.fadt
  p = fadt_parts tables.fadt long

  abbrev oem : Oem
  oem = oem_of tables.fadt

  abbrev six : length oem.id ≡ 6
  six = id_size tables.fadt long

  abbrev eight : length oem.table_id ≡ 8
  eight = table_id_size tables.fadt long

  abbrev control : ℕ
  control = length (control_bytes tables.facs)

  abbrev n : ℕ
  n = fadt_place tables

  abbrev x : ℕ
  x = xsdt_place 0 tables

  abbrev rsdp : List ℕ
  rsdp = rsdp_file tables

  abbrev blank_for : ℕ → ℕ → List ℕ
  blank_for a d = blank tables.fadt p a d

  abbrev fadt_for : ℕ → List ℕ
  fadt_for base = fadt_pointed base tables.facs tables.fadt

  abbrev empty_for : ℕ → List ℕ
  empty_for base = empty oem six eight s.places base

  abbrev xsdt_for : ℕ → List ℕ
  xsdt_for base = bytes_of (listing base oem s.places)

  fadt_for_size : (base : ℕ) → length (fadt_for base) ≡ length tables.fadt
  fadt_for_size base = pointing_size tables.fadt p (control_address base tables.facs) (base + control)

  before_size : (base : ℕ) → length (s.first ++ (fadt_for base ++ s.between)) ≡ x
  before_size base =
      omega (arith, length-append s.first (fadt_for base ++ s.between), length-append (fadt_for base) s.between, fadt_for_size base, s.xsdt_at 0)

  below : AreBelow (2 ^ 64) s.places
  below = below_more _ (2 ^ 64) s.places (omega (arith, s.size 0, fits)) s.below

  start : tables_file tables
      ≡ s.first ++ (blank_for (control_address 0 tables.facs) (0 + control) ++ (s.between ++ (empty_for 0 ++ s.last)))
  start =
      let f = fadt_for 0 in
      let before = s.first ++ (f ++ s.between) in
      let inside : 10 ≤ length (xsdt_for 0) = omega (arith, listing_size 0 oem s.places six eight) in
      let first : put (x + 9) (0 ∷ []) (tables_at 0 tables) ≡ s.first ++ (f ++ (s.between ++ (empty_for 0 ++ s.last)))
      = ap (put (x + 9) (0 ∷ [])) (s.are 0 ∙ regroup s.first f s.between (xsdt_for 0 ++ s.last))
      ∙ put_within x 9 (0 ∷ []) before (xsdt_for 0) s.last (before_size 0) inside
      ∙ ap (λ l. before ++ (l ++ s.last)) (emptied oem six eight s.places 0)
      ∙ sym (regroup s.first f s.between (empty_for 0 ++ s.last)) in
      let within : 10 ≤ length f = omega (arith, fadt_for_size 0, long) in
      ap (put (n + 9) (0 ∷ [])) first
      ∙ put_within n 9 (0 ∷ []) s.first f (s.between ++ (empty_for 0 ++ s.last)) (sym s.fadt_at) within
      ∙ ap (λ l. s.first ++ (l ++ (s.between ++ (empty_for 0 ++ s.last)))) (blanked tables.fadt p (control_address 0 tables.facs) (0 + control))

  pub lays : run at (commands_of (places_of tables)) (both (tables_file tables) rsdp) ≡ laid_at at.tables tables
  lays =
      let t = at.tables in
      let one = facs_commands (is_some tables.facs) n in
      let two = fadt_commands n (length tables.fadt) in
      let three = xsdt_commands x (1 + length tables.others) in
      let after = s.between ++ (empty_for 0 ++ s.last) in
      let here = control_address 0 tables.facs in
      let there = control_address t tables.facs in
      let f = fadt_for t in
      let before = s.first ++ (f ++ s.between) in
      let small : 0 + control < 2 ^ 64 = omega (arith, s.control, s.size 0, fits) in
      let low : 0 + x < 2 ^ 64 = omega (arith, s.xsdt_at 0, s.size 0, fits) in
      ap (λ l. run at (one ++ (two ++ (three ++ rsdp_commands))) (both l rsdp)) start
      ∙ run_append at one (two ++ (three ++ rsdp_commands)) (both (s.first ++ (blank_for here (0 + control) ++ after)) rsdp)
      ∙ ap (run at (two ++ (three ++ rsdp_commands))) (facs_done tables.fadt p at n s.first after rsdp (sym s.fadt_at) long tables.facs (0 + control))
      ∙ run_append at two (three ++ rsdp_commands) (both (s.first ++ (blank_for there (0 + control) ++ after)) rsdp)
      ∙ ap (run at (three ++ rsdp_commands))
      (fadt_done tables.fadt p at n s.first after rsdp (sym s.fadt_at) long there (0 + control) (t + control) small (omega arith))
      ∙ ap (λ l. run at (three ++ rsdp_commands) (both l rsdp)) (regroup s.first f s.between (empty_for 0 ++ s.last))
      ∙ run_append at three rsdp_commands (both (before ++ (empty_for 0 ++ s.last)) rsdp)
      ∙ ap (run at rsdp_commands)
      (xsdt_done oem six eight s.places at x before s.last rsdp (before_size t) below (1 + length tables.others) (sym s.count))
      ∙ ap (λ l. both (before ++ (xsdt_for t ++ s.last)) l)
      (pointer_done oem.id six t (0 + x) (t + xsdt_place t tables) low (omega (arith, s.xsdt_at t, s.xsdt_at 0)))
      ∙ ap (λ l. both l (rsdp_at t tables)) (sym (regroup s.first f s.between (xsdt_for t ++ s.last)) ∙ sym (s.are t))

pub loaders_lay : LoadersLay
loaders_lay tables at long fits = lays tables at long fits

pub commands_have_their_size : CommandsHaveTheirSize
commands_have_their_size (commands.Allocate files.Tables unit zone) = refl
commands_have_their_size (commands.Allocate files.Rsdp unit zone) = refl
commands_have_their_size (commands.AddPointer files.Tables files.Tables offset) = refl
commands_have_their_size (commands.AddPointer files.Tables files.Rsdp offset) = refl
commands_have_their_size (commands.AddPointer files.Rsdp files.Tables offset) = refl
commands_have_their_size (commands.AddPointer files.Rsdp files.Rsdp offset) = refl
commands_have_their_size (commands.AddChecksum files.Tables offset from size) = refl
commands_have_their_size (commands.AddChecksum files.Rsdp offset from size) = refl
