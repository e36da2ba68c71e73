-- Objects that are opened, filled and closed.
use Rattle.std.proofs.Common.{◌≡◌, ℕ, ◌+◌, ◌-◌, ◌<◌, ◌≤◌, ◌==◌, Bool, true, false, cond, List, [], ◌∷◌, ◌++◌, Option, Some, None, Result, Ok, Err, length, take, drop, refl, sym, ap, subst, ◌∙◌, arith, append_assoc, length-append}
use Rattle.std.specs.Prelude.{◌&&◌, nat_eq, nat_le, nat_lt, slice_index, slice_set}
use Rattle.std.proofs.lemmas.Bool.Decides.{nat_tests}
use Rattle.std.proofs.lemmas.List.{append-nil, length-take-le, take_at, drop_at, take-take, take-set-le, get_or-take, get_or-set_same}
use Rattle.acpi_base.specs.Bytes.{le, put}
use Rattle.acpi_base.specs.Fields.{fields_joined}
use Rattle.acpi_base.specs.Header.{header, header_fields}
use Rattle.acpi_base.specs.Table.{with_checksum}
use Rattle.acpi_base.proofs.Bytes.{length_le}
use Rattle.acpi_base.proofs.Tables.{length-header}
use Rattle.acpi_base.proofs.Puts.{put_in, put_over, length-put}
use Rattle.acpi_base.specs.declared.error.Error.{Error}
use Rattle.acpi_term.specs.Length.{least_width, length_bytes, with_length}
use Rattle.acpi_base.specs.Number.{number}
use Rattle.acpi_base.specs.Object.{whole, ended}
use Rattle.acpi_term.specs.Row.{Layout, framed, layout, own, frame_end, frame, around, field_flags, entry_bytes, entries_bytes, entries_end}
use Rattle.acpi_term.specs.Tree.{def_field, def_index_field}
use Rattle.acpi_term.specs.Template.{end_tag}
use Rattle.acpi_c_calls.specs.Writer.{Written, IsDone, IsTried, or_fault, adds, adds_bytes, opens, opens_own, size_before, tag_after, inside, content_from, closes_to, closes_frame, closes_inside, closes_at, closes}
use Rattle.acpi_c_calls.specs.Nested.{HasPlaces, FineIsDone, Wrote, WroteObject, Leads, PieceIsWritten, PiecesAreJoined, ClosedIsWritten, RowIsWritten, BufferIsWritten, TemplateIsWritten, EntryIsWritten, FieldIsWritten, IndexFieldIsWritten, TableIsSealed}
use Rattle.acpi_c_calls.specs.declared.fault.Fault.{Fault}
use Rattle.acpi_c_calls.specs.declared.state.State.{State}
use Rattle.acpi_c_calls.proofs.Joins.{put_two}
use Rattle.acpi_c_calls.proofs.Numbers.{no_zero}

-- ---- outcomes

if_ok : {A : Type 0} (test : Bool) (r : Result A Fault) (f : Fault) (a : A) → cond test r (Err f) ≡ Ok a → (test ≡ true) × (r ≡ Ok a)
if_ok true r f a is = (refl, is)
if_ok false r f a is = absurd cc

same_ok : {A : Type 0} (a b : A) → ◌≡◌ {A = Result A Fault} (Ok a) (Ok b) → a ≡ b
same_ok a b is = cc

le_of : (a b : ℕ) → nat_le a b ≡ true → a ≤ b
le_of a b is = grind (arith, nat_tests, is)

-- ---- calls that return 0

done : (outcome : Result Written Fault) (old new : List ℕ) (before after : State) → IsDone outcome old before new after 0
    → outcome ≡ Ok (record { bytes = new; state = after })
done (Ok found) old new before after is = ap (λ w. Ok w) (λ i. record { bytes = sym is.1 i; state = sym is.2 i })
done (Err f) old new before after is = absurd (no_zero f is.0)

tried : (test : Bool) (outcome : Result Written Fault) (old new : List ℕ) (before after : State) → nat_eq before.fault 0 ≡ test
    → IsTried test outcome old before new after 0 → (before.fault ≡ 0) × (outcome ≡ Ok (record { bytes = new; state = after }))
tried true outcome old new before after none is = (grind (arith, nat_tests, none), done outcome old new before after is)
tried false outcome old new before after some is = absurd (let zero = is.0 in grind (arith, nat_tests, some, zero))

pub fine_is_done : FineIsDone
fine_is_done call old new does = tried (nat_eq old.state.fault 0) (call old.bytes old.state) old.bytes new.bytes old.state new.state refl does

-- ---- one call after another

pub piece_is_written : PieceIsWritten
piece_is_written piece old new leads =
    let both = if_ok (nat_le (old.state.size + length piece) (length old.bytes)) _ _ new leads in
    let is = same_ok _ new both.1 in
    let within = le_of (old.state.size + length piece) (length old.bytes) both.0 in
    subst (λ w. Wrote old piece w) is (record { bytes = refl; size = refl; within = within; depth = refl; marks = refl; kinds = refl })

pub pieces_are_joined : PiecesAreJoined
pieces_are_joined first second old mid new one two =
    let size : length (first ++ second) ≡ length first + length second = length-append first second in
    let length_mid : length mid.bytes ≡ length old.bytes = ap length one.bytes ∙ length-put old.state.size first old.bytes one.within in
    let within : old.state.size + (length first + length second) ≤ length old.bytes = omega (arith, two.within, one.size, length_mid) in
    record {
      bytes =
          two.bytes ∙ ap (λ (n : ℕ). put n second mid.bytes) one.size ∙ ap (put (old.state.size + length first) second) one.bytes
          ∙ put_two old.state.size first second old.bytes within;
      size = omega (arith, two.size, one.size, size);
      within = omega (arith, within, size);
      depth = two.depth ∙ one.depth;
      marks = rw one.depth at two.marks ∙ one.marks;
      kinds = rw one.depth at two.kinds ∙ one.kinds;
    }

-- ---- bytes that are written over

put_covers : (s : ℕ) (c m f x : List ℕ) → length m ≤ length f → s + (length c + length f) ≤ length x
    → put (s + length c) f (put s (c ++ m) x) ≡ put s (c ++ f) x
put_covers s c m f x more within =
    let first : put s (c ++ m) x ≡ put (s + length c) m (put s c x) = sym (put_two s c m x (omega (arith, more, within))) in
    let long : length (put s c x) ≡ length x = length-put s c x (omega (arith, within)) in
    ap (put (s + length c) f) first
    ∙ put_over (s + length c) (s + length c) f m (put s c x) (omega arith) (omega (arith, more)) (omega (arith, within, long))
    ∙ put_two s c f x within

put_content : (s : ℕ) (c m x : List ℕ) → s + (length c + length m) ≤ length x → take (length m) (drop (s + length c) (put s (c ++ m) x)) ≡ m
unfolding put
put_content s c m x within =
    let rest = drop (s + length (c ++ m)) x in
    let front = take s x ++ c in
    let size : length front ≡ s + length c = length-append (take s x) c ∙ omega (arith, length-take-le s x (omega (arith, within))) in
    let split : take s x ++ ((c ++ m) ++ rest) ≡ front ++ (m ++ rest) =
    ap (λ (l : List ℕ). take s x ++ l) (append_assoc c m rest) ∙ sym (append_assoc (take s x) c (m ++ rest)) in
    ap (λ (l : List ℕ). take (length m) (drop (s + length c) l)) split ∙ ap (take (length m)) (drop_at front (m ++ rest) (s + length c) size)
    ∙ take_at m rest (length m) refl

-- ---- objects that are closed

frame_ok : (e : Option Error) (start : ℕ) (c old : List ℕ) (before : State) (new : Written) → closes_frame e start c old before ≡ Ok new
    → (e ≡ None) × (closes_to start (with_length (least_width (length c)) c) old before ≡ Ok new)
frame_ok None start c old before new is = (refl, is)
frame_ok (Some e) start c old before new is = absurd cc

closes_is : (old : List ℕ) (before : State) (d : ℕ) → before.depth ≡ d + 1 → d < 32
    → closes old before ≡ closes_at (slice_index before.marks d) (slice_index before.kinds d) old before
closes_is old before d is deep =
    let some : (before.depth == 0) ≡ false = grind (arith, nat_tests, is) in
    let few : nat_le before.depth 32 ≡ true = grind (arith, nat_tests, is, deep) in
    let one : before.depth - 1 ≡ d = omega (arith, is) in
    rw (some, few, one) refl

wrote_frame : (e : Option Error) (bytes : List ℕ) (old new : Written) → e ≡ None → Wrote old bytes new → WroteObject old (ended e (whole bytes)) new
wrote_frame None bytes old new none wrote = record { is_whole = refl; wrote = wrote }
wrote_frame (Some e) bytes old new none wrote = absurd cc

inside_more : (kind : ℕ) (c : List ℕ) → length c ≤ length (inside kind c)
inside_more kind c =
    omega (arith, length-append (size_before kind (length c)) (c ++ tag_after kind), length-append c (tag_after kind))

framed_more : (w : ℕ) (c : List ℕ) → length c ≤ length (with_length w c)
framed_more w c = omega (arith, length-append (length_bytes w (w + length c)) c)

module _ (kind : ℕ) (code bef content : List ℕ) (old opened filled new : Written) (places : HasPlaces old) where
  -- the writer after the object is opened
  abbrev begun : Written
  begun = record {
    bytes = put old.state.size (code ++ bef) old.bytes;
    state = record old.state {
      size = old.state.size + length (code ++ bef);
      depth = old.state.depth + 1;
      marks = slice_set old.state.marks old.state.depth (old.state.size + length code);
      kinds = slice_set old.state.kinds old.state.depth kind;
    };
  }

  abbrev all : List ℕ
  all = bef ++ content

  abbrev boxed : List ℕ
  boxed = with_length (least_width (length (inside kind all))) (inside kind all)

  -- what is known after the object is filled
  record Filled : Type 0 where
    deep : old.state.depth < 32
    room : old.state.size + (length code + length all) ≤ length old.bytes
    bytes : filled.bytes ≡ put old.state.size (code ++ all) old.bytes
    size : filled.state.size ≡ old.state.size + (length code + length all)
    depth : filled.state.depth ≡ old.state.depth + 1
    marks : take (old.state.depth + 1) filled.state.marks ≡ take (old.state.depth + 1) begun.state.marks
    kinds : take (old.state.depth + 1) filled.state.kinds ≡ take (old.state.depth + 1) begun.state.kinds

  filled_is : Leads (opens kind code bef) old opened → Wrote opened content filled → Filled
  filled_is leads wrote =
      let one = if_ok (nat_lt old.state.depth 32) _ _ opened leads in
      let two = if_ok (nat_le (old.state.size + length (code ++ bef)) (length old.bytes)) _ _ opened one.1 in
      let is : begun ≡ opened = same_ok begun opened two.1 in
      let deep : old.state.depth < 32 = grind (arith, nat_tests, one.0) in
      let fits : old.state.size + length (code ++ bef) ≤ length old.bytes = le_of _ _ two.0 in
      let it : Wrote begun content filled = subst (λ w. Wrote w content filled) (sym is) wrote in
      let long : length begun.bytes ≡ length old.bytes = length-put old.state.size (code ++ bef) old.bytes fits in
      let sizes = length-append code bef in
      let inner = length-append bef content in
      record {
        deep = deep;
        room = omega (arith, it.within, long, sizes, inner);
        bytes =
            it.bytes ∙ put_two old.state.size (code ++ bef) content old.bytes (omega (arith, it.within, long))
            ∙ ap (λ (l : List ℕ). put old.state.size l old.bytes) (append_assoc code bef content);
        size = omega (arith, it.size, sizes, inner);
        depth = it.depth;
        marks = it.marks;
        kinds = it.kinds;
      }

  at_top : (xs ys : List ℕ) (v : ℕ) → old.state.depth < length xs → take (old.state.depth + 1) ys ≡ take (old.state.depth + 1) (slice_set xs old.state.depth v)
      → slice_index ys old.state.depth ≡ v
  at_top xs ys v inside_it same =
      sym (get_or-take (old.state.depth + 1) ys old.state.depth 0 (omega arith)) ∙ ap (λ (l : List ℕ). slice_index l old.state.depth) same
      ∙ get_or-take (old.state.depth + 1) (slice_set xs old.state.depth v) old.state.depth 0 (omega arith) ∙ get_or-set_same xs old.state.depth v 0 inside_it

  below : (xs ys : List ℕ) (v : ℕ) → take (old.state.depth + 1) ys ≡ take (old.state.depth + 1) (slice_set xs old.state.depth v)
      → take old.state.depth ys ≡ take old.state.depth xs
  below xs ys v same =
      sym (take-take old.state.depth (old.state.depth + 1) ys (omega arith)) ∙ ap (take old.state.depth) same
      ∙ take-take old.state.depth (old.state.depth + 1) (slice_set xs old.state.depth v) (omega arith) ∙ take-set-le old.state.depth xs old.state.depth v (omega arith)

  closed_from : Filled → Leads closes filled new → WroteObject old (frame code (inside kind all)) new
  closed_from at leads =
      let start = old.state.size + length code in
      let mark : slice_index filled.state.marks old.state.depth ≡ start = at_top old.state.marks filled.state.marks start (omega (arith, at.deep, places.marks)) at.marks in
      let same_kind : slice_index filled.state.kinds old.state.depth ≡ kind = at_top old.state.kinds filled.state.kinds kind (omega (arith, at.deep, places.kinds)) at.kinds in
      let there : closes_at start kind filled.bytes filled.state ≡ Ok new =
      sym (closes_is filled.bytes filled.state old.state.depth at.depth at.deep ∙ ap (λ (m : ℕ). closes_at m (slice_index filled.state.kinds old.state.depth) filled.bytes filled.state) mark
      ∙ ap (λ (k : ℕ). closes_at start k filled.bytes filled.state) same_kind) ∙ leads in
      let one = if_ok (nat_le start filled.state.size && nat_le filled.state.size (length filled.bytes)) _ _ new there in
      let span : filled.state.size - start ≡ length all = omega (arith, at.size) in
      let is_whole : content_from start filled.bytes filled.state ≡ all =
      ap (λ (n : ℕ). take n (drop start filled.bytes)) span ∙ ap (λ (l : List ℕ). take (length all) (drop start l)) at.bytes
      ∙ put_content old.state.size code all old.bytes at.room in
      let two : closes_inside start (inside kind all) filled.bytes filled.state ≡ Ok new =
      ap (λ (c : List ℕ). closes_inside start (inside kind c) filled.bytes filled.state) (sym is_whole) ∙ one.1 in
      let three = frame_ok (frame_end (length (inside kind all))) start (inside kind all) filled.bytes filled.state new two in
      let four = if_ok (nat_le (start + length boxed) (length filled.bytes)) _ _ new three.1 in
      let fits : start + length boxed ≤ length filled.bytes = le_of _ _ four.0 in
      let is = same_ok _ new four.1 in
      let long : length filled.bytes ≡ length old.bytes =
      ap length at.bytes ∙ length-put old.state.size (code ++ all) old.bytes (omega (arith, at.room, length-append code all)) in
      let more : length all ≤ length boxed =
      omega (arith, inside_more kind all, framed_more (least_width (length (inside kind all))) (inside kind all)) in
      let joined = length-append code boxed in
      let wrote : Wrote old (code ++ boxed) new =
      subst (λ w. Wrote old (code ++ boxed) w) is (record {
        bytes =
            ap (put start boxed) at.bytes
            ∙ put_covers old.state.size code all boxed old.bytes more (omega (arith, fits, long));
        size = omega (arith, joined);
        within = omega (arith, fits, long, joined);
        depth = omega (arith, at.depth);
        marks = below old.state.marks filled.state.marks start at.marks;
        kinds = below old.state.kinds filled.state.kinds kind at.kinds;
      }) in
      wrote_frame (frame_end (length (inside kind all))) (code ++ boxed) old new three.0 wrote

pub closed_is_written : ClosedIsWritten
closed_is_written kind code bef content old opened filled new places leads wrote ends =
    closed_from kind code bef content old opened filled new places (filled_is kind code bef content old opened filled new places leads wrote) ends

-- ---- rows, and buffers

own_ok : (o : Option Error) (kind : ℕ) (code bef old : List ℕ) (before : State) (new : Written) → opens_own kind o (framed code bef []) old before ≡ Ok new
    → opens kind code bef old before ≡ Ok new
own_ok None kind code bef old before new is = is
own_ok (Some e) kind code bef old before new is = absurd cc

pub row_is_written : RowIsWritten
row_is_written head n code bef content old opened filled new places is leads wrote ends =
    let open_it : opens 0 code bef old.bytes old.state ≡ Ok opened =
    own_ok (own head n) 0 code bef old.bytes old.state opened (ap (λ (l : Layout). opens_own 0 (own head n) l old.bytes old.state) (sym is) ∙ leads) in
    let it : WroteObject old (frame code ((bef ++ content) ++ [])) new = closed_is_written 0 code bef content old opened filled new places open_it wrote ends in
    let same : frame code ((bef ++ content) ++ []) ≡ around (layout head 0 n) (whole content) =
    ap (frame code) (append_assoc bef content []) ∙ ap (λ (l : Layout). around l (whole content)) (sym is) in
    subst (λ o. WroteObject old o new) same it

pub buffer_is_written : BufferIsWritten
buffer_is_written content old opened filled new places leads wrote ends =
    let it : WroteObject old (frame (17 ∷ []) (number (length content) ++ (content ++ []))) new =
    closed_is_written 1 (17 ∷ []) [] content old opened filled new places leads wrote ends in
    let same : number (length content) ++ (content ++ []) ≡ (number (length content) ++ []) ++ content =
    ap (λ (l : List ℕ). number (length content) ++ l) (append-nil content) ∙ ap (λ (l : List ℕ). l ++ content) (sym (append-nil (number (length content)))) in
    subst (λ (c : List ℕ). WroteObject old (frame (17 ∷ []) c) new) same it

pub template_is_written : TemplateIsWritten
template_is_written content old opened filled new places leads wrote ends =
    let it : WroteObject old (frame (17 ∷ []) (number (length content + length end_tag) ++ (content ++ end_tag))) new =
    closed_is_written 2 (17 ∷ []) [] content old opened filled new places leads wrote ends in
    let same : number (length content + length end_tag) ++ (content ++ end_tag) ≡ (number (length (content ++ end_tag)) ++ []) ++ (content ++ end_tag) =
    ap (λ (n : ℕ). number n ++ (content ++ end_tag)) (sym (length-append content end_tag))
    ∙ ap (λ (l : List ℕ). l ++ (content ++ end_tag)) (sym (append-nil (number (length (content ++ end_tag))))) in
    subst (λ (c : List ℕ). WroteObject old (frame (17 ∷ []) c) new) same it

-- ---- fields

entry_ok : (e : Option Error) (bytes : List ℕ) (old new : Written) → adds (or_fault bytes e) old.bytes old.state ≡ Ok new
    → (e ≡ None) × (adds_bytes bytes old.bytes old.state ≡ Ok new)
entry_ok None bytes old new is = (refl, is)
entry_ok (Some e) bytes old new is = absurd cc

pub entry_is_written : EntryIsWritten
entry_is_written entry old new leads =
    let both = entry_ok (entries_end (entry ∷ [])) (entry_bytes entry) old new leads in
    (both.0, piece_is_written (entry_bytes entry) old new both.1)

with_entries : (code bef entries all : List ℕ) (e : Option Error) (old new : Written) → e ≡ None → bef ++ entries ≡ all
    → WroteObject old (frame code (bef ++ (entries ++ []))) new → WroteObject old (ended e (frame code (all ++ []))) new
with_entries code bef entries all e old new none is wrote =
    let same : bef ++ (entries ++ []) ≡ all ++ [] = ap (λ (l : List ℕ). bef ++ l) (append-nil entries) ∙ is ∙ sym (append-nil all) in
    let it : WroteObject old (frame code (all ++ [])) new = subst (λ (c : List ℕ). WroteObject old (frame code c) new) same wrote in
    subst (λ (e : Option Error). WroteObject old (ended e (frame code (all ++ []))) new) (sym none) it

pub field_is_written : FieldIsWritten
field_is_written name access lock update entries old opened filled new places none leads wrote ends =
    let flags = field_flags access lock update in
    let content = entries_bytes entries in
    let code : List ℕ = 91 ∷ 129 ∷ [] in
    let bef : List ℕ = name ++ flags ∷ [] in
    let it : WroteObject old (frame code (bef ++ (content ++ []))) new =
    row_is_written (def_field name access lock update []) 0 code bef content old opened filled new places refl leads wrote ends in
    with_entries code bef content (name ++ flags ∷ content) (entries_end entries) old new none (append_assoc name (flags ∷ []) content) it

pub index_field_is_written : IndexFieldIsWritten
index_field_is_written index name access lock update entries old opened filled new places none leads wrote ends =
    let flags = field_flags access lock update in
    let content = entries_bytes entries in
    let code : List ℕ = 91 ∷ 134 ∷ [] in
    let bef : List ℕ = index ++ (name ++ flags ∷ []) in
    let it : WroteObject old (frame code (bef ++ (content ++ []))) new =
    row_is_written (def_index_field index name access lock update []) 0 code bef content old opened filled new places refl leads wrote ends in
    let same : bef ++ content ≡ index ++ (name ++ flags ∷ content) =
    append_assoc index (name ++ flags ∷ []) content ∙ ap (λ (l : List ℕ). index ++ l) (append_assoc name (flags ∷ []) content) in
    with_entries code bef content (index ++ (name ++ flags ∷ content)) (entries_end entries) old new none same it

-- ---- tables

pub table_is_sealed : TableIsSealed
table_is_sealed signature revision oem body four six eight =
    let after : List ℕ = fields_joined (drop 2 (header_fields signature 0 revision oem)) in
    let n = 36 + length body in
    let x = header signature 36 revision oem ++ body in
    let size : length x ≡ n = length-append (header signature 36 revision oem) body ∙ ap (λ (m : ℕ). m + length body) (length-header signature 36 revision oem four six eight) in
    let parts : (m : ℕ) → header signature m revision oem ++ body ≡ signature ++ (le 4 m ++ (after ++ body)) =
    λ m. append_assoc signature (le 4 m ++ after) body ∙ ap (λ (l : List ℕ). signature ++ l) (append_assoc (le 4 m) after body) in
    let replaced : put 4 (le 4 n) (signature ++ (le 4 36 ++ (after ++ body))) ≡ signature ++ (le 4 n ++ (after ++ body)) =
    put_in signature (le 4 36) (after ++ body) (le 4 n) 4 four (length_le 4 36 ∙ sym (length_le 4 n)) in
    ap (λ (m : ℕ). with_checksum (put 4 (le 4 m) x)) size
    ∙ ap with_checksum (ap (put 4 (le 4 n)) (parts 36) ∙ replaced ∙ sym (parts n))
