-- What is spelled is read, as far as the depth goes.
use Rattle.std.proofs.Common.{◌≡◌, ℕ, zero, suc, ◌+◌, ◌-◌, ◌*◌, ◌<◌, ◌≤◌, max, Bool, true, false, cond, leb, ltb, eqb, List, [], ◌∷◌, ◌++◌, length, Result, Ok, Err, refl, sym, ap, subst, ◌∙◌, append_assoc, arith}
use Rattle.std.specs.Prelude.{◌&&◌}
use Rattle.std.proofs.lemmas.Bool.{le-ltb, lt-ltb, ltb-true, le-leb, lt-leb, ne_eqb}
use Rattle.std.proofs.lemmas.Bool.Decides.{nat_tests}
use Rattle.std.proofs.lemmas.List.{append-nil, length-append}
use Rattle.acpi_base.specs.Number.{number_bytes}
use Rattle.acpi_term.specs.declared.op.Op.{Op}
use Rattle.acpi_term.specs.declared.op.Op.TheVariants.{CreateField}
use Rattle.acpi_term.specs.declared.mode.Mode.{Mode}
use Rattle.acpi_term.specs.declared.mode.Mode.TheVariants.{Term, Element}
use Rattle.acpi_term.specs.declared.language.Language.TheVariants.{Standard}
use Rattle.acpi_term.specs.Language.{Grammar, has}
use Rattle.acpi_term.specs.Tree.{Entry, Head, number, call, def_scope, def_device, def_method, def_power_res, def_buffer, def_package, def_var_package, def_if, def_while, def_else, op, def_leveled_method, def_processor, def_thermal_zone, def_roomy_package, def_bank_field, Terms, end, term, count, depth}
use Rattle.acpi_term.specs.Operator.{opcode}
use Rattle.acpi_term.specs.Row.{entries_bytes, field_flags}
use Rattle.acpi_term.specs.Spelling.{spelled, spelling, inner, next, AreStandardEntries, EntriesFit, IsLegal, AreLegal}
use Rattle.acpi_term.specs.Reading.{Fault, Deep, ◌>>=◌, least_of, assembled, follows, fills, packs, rooms, roomed, banked, Reader, counted, all_of, wants_no_more, close, term_at}
use Rattle.acpi_term.proofs.Names.{name_in_some}
use Rattle.acpi_term.proofs.Entries.{entries_again}
use Rattle.acpi_term.proofs.Opens.{opened, open_again, owned, flags_low}
use Rattle.acpi_term.proofs.Openings.{is_further}

-- the terms are at most so deep
abbrev pub within : Terms → ℕ → Bool
within end d = true
within (term h w children others) zero = false
within (term h w children others) (suc d) = within children d && within others (suc d)

abbrev pub guarded : {X : Type 0} → Bool → X → Result X Fault
guarded b x = cond b (Ok x) (Err Deep)

guard_then : {X Y : Type 0} (b : Bool) (x : X) (k : X → Result Y Fault) (y : Y) → k x ≡ Ok y → (guarded b x >>= k) ≡ guarded b y
guard_then true x k y e = e
guard_then false x k y e = refl

guards_then : {X Y Z : Type 0} (b c : Bool) (x : X) (k : X → Result Y Fault) (y : Y) (g : X → Y → Z) → k x ≡ guarded c y → (guarded b x >>= λ t. k t >>= λ o. Ok (g t o)) ≡ guarded (b && c) (g x y)
guards_then true true x k y g e = rw e refl
guards_then true false x k y g e = rw e refl
guards_then false c x k y g e = refl

-- no terms have no bytes
pub nothing_inside : (c : Terms) → count c ≡ 0 → spelling c ≡ []
nothing_inside end e = refl
nothing_inside (term h w c o) e = absurd (omega arith)

number_some : (v w : ℕ) (inside : List ℕ) → 0 < length (number_bytes v w ++ inside)
number_some v w inside = grind arith

opcode_some : (o : Op) (inside : List ℕ) → 0 < length (opcode o ++ inside)
opcode_some CreateField inside = omega arith
opcode_some o inside = omega arith

module _ (g : Grammar) where
  -- a term has at least a byte
  pub head_some : (m : Mode) (h : Head) (w n : ℕ) (inside : List ℕ) → IsLegal g m h w n inside → 0 < length (spelled h w n inside)
  head_some m (number v) w n inside f = number_some v w inside
  head_some m (call name) w n inside f = omega (arith, length-append name inside, name_in_some g.language name f.is_standard)
  head_some m (op o) w n inside f = opcode_some o inside
  head_some m h w n inside f = omega arith

  -- terms have at least a byte
  pub something_inside : (m : Mode) (c : Terms) → AreLegal g m c → 0 < count c → 0 < length (spelling c)
  something_inside m end f some = absurd (omega arith)
  something_inside m (term h w c o) f some =
      omega (arith, head_some m h w (count c) (spelling c) f.0, length-append (spelled h w (count c) (spelling c)) (spelling o))

-- a package with room for its elements, and one with room for more
roomed_all : (w : ℕ) (c : Terms) (rest : List ℕ) → roomed w (count c) c rest ≡ Ok (def_package, w, c, rest)
roomed_all w c rest = let same : eqb (count c) (count c) ≡ true = grind (arith, nat_tests) in rw same refl

roomed_less : (w n : ℕ) (c : Terms) (rest : List ℕ) → count c < n → roomed w n c rest ≡ Ok (def_roomy_package n, w, c, rest)
roomed_less w n c rest lt =
    let other : eqb (count c) n ≡ false = ne_eqb (count c) n (λ e. omega (arith, e, lt)) in
    rw (other, lt-ltb (count c) n lt) refl

-- a BankField after its value
banked_again : (w : ℕ) (name bank : List ℕ) (access lock update : ℕ) (entries : List Entry) (c : Terms) (after : List ℕ) → access ≤ 5 → lock ≤ 1 → update ≤ 2 → AreStandardEntries Standard entries → EntriesFit entries
    → banked w name bank c (field_flags access lock update ∷ entries_bytes entries) after ≡ Ok (def_bank_field name bank access lock update entries, w, c, after)
unfolding banked
banked_again w name bank access lock update entries c after a k u f e =
    let p = flags_low access lock update a k u in
    let below : ltb (access + 16 * lock + 32 * update) 96 ≡ true = lt-ltb _ 96 p.0 in
    let small : ltb access 6 ≡ true = lt-ltb access 6 (omega arith) in
    rw (below, p.1, p.2, p.3, small, entries_again Standard entries (length (entries_bytes entries)) (omega arith) f e) refl

module _ (g : Grammar) where
  abbrev pub CountedAgain : Terms → Type 0
  CountedAgain ts = (d : ℕ) (m : Mode) (rest : List ℕ) → AreLegal g m ts → counted (term_at g d) (count ts) m (spelling ts ++ rest) ≡ guarded (within ts d) (ts, rest)

  abbrev pub AllAgain : Terms → Type 0
  AllAgain ts = (d : ℕ) (m : Mode) (n : ℕ) → length (spelling ts) ≤ n → AreLegal g m ts → all_of (term_at g d) n m (spelling ts) ≡ guarded (within ts d) ts

  pub record Again (ts : Terms) : Type 0 where
    pub several : CountedAgain ts
    pub whole : AllAgain ts

  -- several, with nothing after them
  several_only : (ts : Terms) → CountedAgain ts → (d : ℕ) (m : Mode) → AreLegal g m ts → counted (term_at g d) (count ts) m (spelling ts) ≡ guarded (within ts d) (ts, [])
  several_only ts law d m f = ap (counted (term_at g d) (count ts) m) (sym (append-nil (spelling ts))) ∙ law d m [] f

  follows_closes : (h : Head) (w : ℕ) (c : Terms) → Again c → (d : ℕ) (rest : List ℕ) → AreLegal g (inner g.language h) c → close (term_at g d) g.language (follows h w (count c) (spelling c ++ rest)) ≡ guarded (within c d) (h, w, c, rest)
  unfolding close
  follows_closes h w c law d rest f = rw (law.several d (inner g.language h) rest f) (guard_then (within c d) (c, rest) (λ x. Ok (h, w, x.0, x.1)) (h, w, c, rest) refl)

  fills_closes : (h : Head) (w : ℕ) (c : Terms) → Again c → (d : ℕ) (rest : List ℕ) → least_of h ≤ count c → AreLegal g (inner g.language h) c → close (term_at g d) g.language (fills h w (spelling c) rest) ≡ guarded (within c d) (h, w, c, rest)
  unfolding close assembled
  fills_closes h w c law d rest enough f =
      let long : ltb (count c) (least_of h) ≡ false = le-ltb (count c) (least_of h) enough in
      rw (law.whole d (inner g.language h) (length (spelling c)) (omega arith) f) (guard_then (within c d) c (λ x. assembled h w x >>= λ t. Ok (t.0, t.1, t.2, rest)) (h, w, c, rest) (rw long refl))

  rooms_close : (n : ℕ) (h : Head) (w : ℕ) (c : Terms) → Again c → (d : ℕ) (rest : List ℕ) → roomed w n c rest ≡ Ok (h, w, c, rest) → AreLegal g Element c → close (term_at g d) g.language (rooms w n (spelling c) rest) ≡ guarded (within c d) (h, w, c, rest)
  unfolding close
  rooms_close n h w c law d rest is f =
      rw (law.whole d Element (length (spelling c)) (omega arith) f) (guard_then (within c d) c (λ x. roomed w n x rest) (h, w, c, rest) is)

  package_closes : (t : Bool) (w : ℕ) (c : Terms) → Again c → (d : ℕ) (rest : List ℕ) → AreLegal g Element c
      → close (term_at g d) g.language (cond t (rooms w (count c) (spelling c) rest) (packs w (count c) (spelling c) rest)) ≡ guarded (within c d) (def_package, w, c, rest)
  unfolding close
  package_closes true w c law d rest f = rooms_close (count c) def_package w c law d rest (roomed_all w c rest) f
  package_closes false w c law d rest f = rw (several_only c law.several d Element f) (guard_then (within c d) (c, []) (λ x. wants_no_more (term_at g d) def_package w x.0 x.1 rest) (def_package, w, c, rest) refl)

  closes : (h : Head) (w : ℕ) (c : Terms) → Again c → (d : ℕ) (m : Mode) (rest : List ℕ) → IsLegal g m h w (count c) (spelling c) → AreLegal g (inner g.language h) c
      → close (term_at g d) g.language (opened g.language h w (count c) (spelling c) rest) ≡ guarded (within c d) (h, w, c, rest)
  unfolding close
  closes (def_scope name) w c law d m rest fh f = fills_closes (def_scope name) w c law d rest (omega arith) f
  closes (def_device name) w c law d m rest fh f = fills_closes (def_device name) w c law d rest (omega arith) f
  closes (def_method name args serialized) w c law d m rest fh f = fills_closes (def_method name args serialized) w c law d rest (omega arith) f
  closes (def_power_res name level order) w c law d m rest fh f = fills_closes (def_power_res name level order) w c law d rest (omega arith) f
  closes def_var_package w c law d m rest fh f = fills_closes def_var_package w c law d rest fh.takes f
  closes def_if w c law d m rest fh f = fills_closes def_if w c law d rest fh.takes f
  closes def_while w c law d m rest fh f = fills_closes def_while w c law d rest fh.takes f
  closes def_else w c law d m rest fh f = fills_closes def_else w c law d rest (omega arith) f
  closes def_package w c law d m rest fh f = package_closes (has g.language Standard) w c law d rest f
  closes (def_leveled_method name args serialized level) w c law d m rest fh f = fills_closes (def_leveled_method name args serialized level) w c law d rest (omega arith) f
  closes (def_processor name id address size) w c law d m rest fh f = fills_closes (def_processor name id address size) w c law d rest (omega arith) f
  closes (def_thermal_zone name) w c law d m rest fh f = fills_closes (def_thermal_zone name) w c law d rest (omega arith) f
  closes (def_roomy_package room) w c law d m rest fh f = rooms_close room (def_roomy_package room) w c law d rest (roomed_less w room c rest (ltb-true (count c) room (owned _ _ fh.owns))) f
  closes (def_buffer bytes) w c law d m rest fh f =
      let n : count c ≡ 1 = fh.takes in
      let r : counted (term_at g d) 1 Term (spelling c ++ bytes) ≡ guarded (within c d) (c, bytes) = subst (λ k. counted (term_at g d) k Term (spelling c ++ bytes) ≡ guarded (within c d) (c, bytes)) n (law.several d Term bytes f) in
      rw r (guard_then (within c d) (c, bytes) (λ x. Ok (def_buffer x.1, w, x.0, rest)) (def_buffer bytes, w, c, rest) refl)
  closes (def_bank_field name bank access lock update entries) w c law d m rest fh f =
      let n : count c ≡ 1 = fh.takes in
      let tail = field_flags access lock update ∷ entries_bytes entries in
      let r : counted (term_at g d) 1 Term (spelling c ++ tail) ≡ guarded (within c d) (c, tail) = subst (λ k. counted (term_at g d) k Term (spelling c ++ tail) ≡ guarded (within c d) (c, tail)) n (law.several d Term tail f) in
      let s = fh.is_standard in
      let standard = subst (λ l. AreStandardEntries l entries) (is_further g.language s.0) s.6 in
      rw r (guard_then (within c d) (c, tail) (λ x. banked w name bank x.0 x.1 rest) (def_bank_field name bank access lock update entries, w, c, rest) (banked_again w name bank access lock update entries c rest s.3 s.4 s.5 standard fh.fits.0))
  closes h w c law d m rest fh f = follows_closes h w c law d rest f

  -- one term is read again
  step : (h : Head) (w : ℕ) (c : Terms) → Again c → (d : ℕ) (m : Mode) (rest : List ℕ) → IsLegal g m h w (count c) (spelling c) → AreLegal g (inner g.language h) c
      → term_at g (suc d) m (spelled h w (count c) (spelling c) ++ rest) ≡ guarded (within c d) (h, w, c, rest)
  unfolding term_at
  step h w c law d m rest fh f = rw (open_again g m h w (count c) (spelling c) rest fh (nothing_inside c)) (closes h w c law d m rest fh f)

  several_more : (h : Head) (w : ℕ) (c o : Terms) → Again c → CountedAgain o → CountedAgain (term h w c o)
  unfolding counted term_at
  several_more h w c o law others zero m rest f = refl
  several_more h w c o law others (suc d) m rest f =
      ap (counted (term_at g (suc d)) (suc (count o)) m) (append_assoc (spelled h w (count c) (spelling c)) (spelling o) rest)
      ∙ rw (step h w c law d m (spelling o ++ rest) f.0 f.1)
      (guards_then (within c d) (within o (suc d)) (h, w, c, spelling o ++ rest) (λ t. counted (term_at g (suc d)) (count o) (next m) t.3) (o, rest) (λ t x. (term t.0 t.1 t.2 x.0, x.1)) (others (suc d) (next m) rest f.2))

-- ---- all of the bytes

less : (n : ℕ) → suc n - 1 ≡ n
less n = omega arith

pub all_more : (p : Reader) (n : ℕ) (m : Mode) (bytes : List ℕ) → 0 < length bytes → length bytes ≤ n
    → all_of p n m bytes ≡ (p m bytes >>= λ t. all_of p (n - 1) (next m) t.3 >>= λ others. Ok (term t.0 t.1 t.2 others))
unfolding all_of
all_more p n m [] some le = absurd (omega arith)
all_more p zero m (b ∷ bytes) some le = absurd (omega arith)
all_more p (suc n) m (b ∷ bytes) some le = rw (less n) refl

module _ (g : Grammar) where
  -- one term, and then the others, to the end
  all_step : (h : Head) (w : ℕ) (c o : Terms) → Again g c → AllAgain g o → (d : ℕ) (m : Mode) (n : ℕ) → length (spelling o) ≤ n → AreLegal g m (term h w c o)
      → (term_at g d m (spelling (term h w c o)) >>= λ t. all_of (term_at g d) n (next m) t.3 >>= λ x. Ok (term t.0 t.1 t.2 x)) ≡ guarded (within (term h w c o) d) (term h w c o)
  unfolding term_at
  all_step h w c o law others zero m n le f = refl
  all_step h w c o law others (suc d) m n le f =
      rw (step g h w c law d m (spelling o) f.0 f.1)
      (guards_then (within c d) (within o (suc d)) (h, w, c, spelling o) (λ t. all_of (term_at g (suc d)) n (next m) t.3) o (λ t x. term t.0 t.1 t.2 x) (others (suc d) (next m) n le f.2))

  all_one_more : (h : Head) (w : ℕ) (c o : Terms) → Again g c → AllAgain g o → AllAgain g (term h w c o)
  all_one_more h w c o law others d m n le f =
      let some = head_some g m h w (count c) (spelling c) f.0 in
      let len = length-append (spelled h w (count c) (spelling c)) (spelling o) in
      all_more (term_at g d) n m (spelling (term h w c o)) (omega (arith, some, len)) le
      ∙ all_step h w c o law others d m (n - 1) (omega (arith, some, len, le)) f

  -- what is spelled is read
  pub again : (ts : Terms) → Again g ts
  unfolding counted all_of
  again end = record { several = λ d m rest f. refl; whole = λ d m n le f. refl }
  again (term h w c o) = record {
    several = several_more g h w c o (again c) (again o).several;
    whole = all_one_more h w c o (again c) (again o).whole;
  }

-- ---- how deep terms are

both_leb : (a b d : ℕ) → (leb a d && leb b (suc d)) ≡ leb (max (suc a) b) (suc d)
both_leb a b d = grind (arith, nat_tests)

pub within_is : (ts : Terms) (d : ℕ) → within ts d ≡ leb (depth ts) d
within_is end d = sym (le-leb 0 d (omega arith))
within_is (term h w c o) zero = sym (lt-leb (max (suc (depth c)) (depth o)) 0 (omega arith))
within_is (term h w c o) (suc d) = rw (within_is c d, within_is o (suc d)) (both_leb (depth c) (depth o) d)
