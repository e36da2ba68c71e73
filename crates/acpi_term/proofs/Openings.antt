-- Heads: what is opened was spelled so.
use Rattle.std.proofs.Common.{◌≡◌, ℕ, ◌+◌, ◌-◌, ◌/◌, ◌%◌, ◌^◌, ◌<◌, ◌≤◌, Bool, true, false, cond, ltb, eqb, List, [], ◌∷◌, ◌++◌, length, Option, Some, None, Result, Ok, Err, refl, sym, ap, subst, ◌∙◌, append_assoc, arith}
use Rattle.std.specs.Prelude.{◌&&◌, not, nat_le}
use Rattle.std.proofs.lemmas.Bool.{ltb-true, ltb-false, lt-ltb, leb-true, eqb-true, eqb-false, le-leb, ne_eqb, and_parts}
use Rattle.std.proofs.lemmas.Bool.Decides.{nat_tests}
use Rattle.std.proofs.lemmas.List.{append-nil, length-append}
use Rattle.acpi_base.specs.Bytes.{AreBytes, le}
use Rattle.acpi_base.specs.Number.{prefix, number_limit}
use Rattle.acpi_term.specs.declared.op.Op.{Op}
use Rattle.acpi_term.specs.declared.op.Op.TheVariants.{Acquire, Release}
use Rattle.acpi_term.specs.declared.mode.Mode.{Mode}
use Rattle.acpi_term.specs.Tree.{Entry, Head, number, ones, string, local, arg, call, def_scope, def_device, def_method, def_power_res, def_field, def_op_region, def_name, def_mutex, def_acquire, def_release, def_buffer, def_package, def_var_package, def_if, def_while, def_else, op, def_external, def_leveled_method, def_processor, def_thermal_zone, def_roomy_package, def_index_field, def_bank_field, def_fatal, match_test, def_timeout}
use Rattle.acpi_term.specs.declared.language.Language.{Language}
use Rattle.acpi_term.specs.declared.language.Language.TheVariants.{Written, Standard}
use Rattle.acpi_term.specs.Name.{IsNameIn, IsText, begins_name}
use Rattle.acpi_term.specs.Length.{length_bytes, with_length, FrameFits}
use Rattle.acpi_term.specs.Language.{Grammar, is_standard, has}
use Rattle.acpi_term.specs.Operator.{opcode, operands, op_of, language_of, place}
use Rattle.acpi_term.specs.Row.{entries_bytes, field_flags, method_flags, leveled_flags}
use Rattle.acpi_term.specs.Spelling.{spelled, is_test, is_timeout, IsPlain as StandsPlain, arguments, AreStandardEntries, EntriesFit, IsUnnamed, takes_names, IsLegal}
use Rattle.acpi_base.proofs.Bytes.{bytes_after}
use Rattle.acpi_term.specs.Reading.{Fault, Bad, ◌>>=◌, name_in, frame_at, text_at, high_at, entries_at, number_at, string_at, After, named_at, define_after, release_after, mutex_after, region_after, acquire_after, external_after, further, Inside, framed_at, scope_inside, device_inside, thermal_inside, method_inside, processor_end, processor_inside, index_flags, index_inside, bank_inside, power_inside, field_inside, plain_at, counted_frame, package_at, buffer_at, operator_at, extended_at, local_at, opcode_at, fatal_at, test_at, timeout_at, names_first, named_or_operator_at, Opened, follows, fills, packs, rooms, begins, banks, head_at, open_at, least_of}
use Rattle.acpi_term.proofs.Steps.{bind_ok, ok_is, admitted}
use Rattle.acpi_term.proofs.Names.{name_in_takes}
use Rattle.acpi_term.proofs.Texts.{text_takes}
use Rattle.acpi_term.proofs.Frames.{IsHigh, high_takes, Framed, frame_takes}
use Rattle.acpi_term.proofs.Entries.{AreEntries, entries_takes, entries_owned}
use Rattle.acpi_term.proofs.Operators.{op_is, plain_op, any_inside, first_unnamed}

-- ---- parts

one_byte : (b k : ℕ) (rest : List ℕ) → b ≡ k → b ∷ rest ≡ (k ∷ []) ++ rest
one_byte b k rest is = ap (λ (x : ℕ). x ∷ rest) is

two_bytes : (b k x j : ℕ) (rest : List ℕ) → b ≡ k → x ≡ j → b ∷ x ∷ rest ≡ (k ∷ j ∷ []) ++ rest
two_bytes b k x j rest is also = rw (is, also) refl

bare_parts : (before rest inside after bytes : List ℕ) → bytes ≡ before ++ rest → rest ≡ inside ++ after → bytes ≡ (before ++ inside) ++ after
bare_parts before rest inside after bytes is e = is ∙ ap (λ (l : List ℕ). before ++ l) e ∙ sym (append_assoc before inside after)

-- the same of an opcode, a name and further bytes before the rest
named_parts : (code name mid rest tail inside after bytes : List ℕ) → bytes ≡ code ++ rest → rest ≡ name ++ (mid ++ tail) → tail ≡ inside ++ after → bytes ≡ ((code ++ (name ++ mid)) ++ inside) ++ after
named_parts code name mid rest tail inside after bytes is e f =
    bare_parts (code ++ (name ++ mid)) tail inside after bytes (is ∙ ap (λ (l : List ℕ). code ++ l) (e ∙ sym (append_assoc name mid tail)) ∙ sym (append_assoc code (name ++ mid) tail)) f

frame_parts : (code rest content same after bytes : List ℕ) (w : ℕ) → bytes ≡ code ++ rest → rest ≡ with_length w content ++ after → content ≡ same → bytes ≡ (code ++ with_length w same) ++ after
frame_parts code rest content same after bytes w is e f =
    is ∙ ap (λ (l : List ℕ). code ++ l) e ∙ ap (λ (l : List ℕ). code ++ (with_length w l ++ after)) f ∙ sym (append_assoc code (with_length w same) after)

-- nothing stands after the children
none_after : (before inside content : List ℕ) → content ≡ before ++ inside → content ≡ before ++ (inside ++ [])
none_after before inside content e = e ∙ ap (λ (l : List ℕ). before ++ l) (sym (append-nil inside))

grouped : (name mid inside content tail : List ℕ) → content ≡ name ++ tail → tail ≡ mid ++ inside → content ≡ (name ++ mid) ++ inside
grouped name mid inside content tail e f = e ∙ ap (λ (l : List ℕ). name ++ l) f ∙ sym (append_assoc name mid inside)

serialized_flags : (flags : ℕ) (t : Bool) → nat_le 8 flags ≡ t → flags < 16 → method_flags (flags % 8) t ≡ flags
serialized_flags flags true h lt = let high : 8 ≤ flags = leb-true 8 flags h in omega arith
serialized_flags flags false h lt = let low : flags < 8 = grind (arith, nat_tests) in omega arith

leveled_back : (flags : ℕ) (t : Bool) → nat_le 8 (flags % 16) ≡ t → leveled_flags (flags % 8) t (flags / 16) ≡ flags
leveled_back flags true h = let high : 8 ≤ flags % 16 = leb-true 8 (flags % 16) h in omega arith
leveled_back flags false h = let low : flags % 16 < 8 = grind (arith, nat_tests) in omega arith

-- the flags of a field are the three numbers
pub flags_is : (b : ℕ) → field_flags (b % 16) (b / 16 % 2) (b / 32) ≡ b
flags_is b = omega arith

-- a language that has what the standard has is the standard's
pub is_further : (l : Language) → has l Standard ≡ true → l ≡ Standard
is_further Written more = absurd cc
is_further Standard more = refl

-- where there are no children, nothing is inside, and otherwise something is
pub record Ends (n : ℕ) (inside : List ℕ) : Type 0 where
  pub nothing : n ≡ 0 → inside ≡ []
  pub something : 0 < n → 0 < length inside

-- what follows an operator begins no name, if none may stand there
abbrev OverUnnamed : Op → List ℕ → Type 0
OverUnnamed o rest = (inside after : List ℕ) → rest ≡ inside ++ after → (0 < operands o → 0 < length inside) → IsUnnamed (place Standard o) inside

not_true : (t : Bool) → not t ≡ true → t ≡ false
not_true true h = absurd cc
not_true false h = refl

over_unnamed : (o : Op) (rest : List ℕ) → takes_names (place Standard o) ≡ false → names_first rest ≡ false → OverUnnamed o rest
over_unnamed Acquire rest over none inside after e some = first_unnamed rest inside after none e (some (omega arith))
over_unnamed Release rest over none inside after e some = first_unnamed rest inside after none e (some (omega arith))
over_unnamed o rest over none inside after e some = absurd cc

module _ (g : Grammar) (m : Mode) where
  -- what the bytes of an opened head are, whichever children and bytes after them follow
  abbrev pub OpenTakes : List ℕ → Opened → Type 0
  OpenTakes bytes (follows h w n rest) =
      AreBytes rest × ((inside after : List ℕ) → rest ≡ inside ++ after → Ends n inside → (bytes ≡ spelled h w n inside ++ after) × IsLegal g m h w n inside)
  OpenTakes bytes (fills h w inside after) = AreBytes inside × AreBytes after × ((n : ℕ) → least_of h ≤ n → (bytes ≡ spelled h w n inside ++ after) × IsLegal g m h w n inside)
  OpenTakes bytes (packs w n inside after) = AreBytes inside × AreBytes after × (bytes ≡ spelled def_package w n inside ++ after) × IsLegal g m def_package w n inside
  OpenTakes bytes (rooms w n inside after) =
      AreBytes inside × AreBytes after × ((bytes ≡ spelled def_package w n inside ++ after) × IsLegal g m def_package w n inside)
      × ((k : ℕ) → k < n → (bytes ≡ spelled (def_roomy_package n) w k inside ++ after) × IsLegal g m (def_roomy_package n) w k inside)
  OpenTakes bytes (begins w content after) =
      AreBytes content × AreBytes after × ((inside rest : List ℕ) → content ≡ inside ++ rest → (bytes ≡ spelled (def_buffer rest) w 1 inside ++ after) × IsLegal g m (def_buffer rest) w 1 inside)
  OpenTakes bytes (banks w name bank content after) =
      AreBytes content × AreBytes after × (g.language ≡ Standard) × (length content + length after ≤ length bytes)
      × ((inside : List ℕ) (access lock update : ℕ) (entries : List Entry) → access ≤ 5 → lock ≤ 1 → update ≤ 2 → AreStandardEntries g.language entries → EntriesFit entries → content ≡ inside ++ field_flags access lock update ∷ entries_bytes entries
      → (bytes ≡ spelled (def_bank_field name bank access lock update entries) w 1 inside ++ after) × IsLegal g m (def_bank_field name bank access lock update entries) w 1 inside)

  -- a reading that ended in o
  Reads : Result Opened Fault → List ℕ → Type 0
  Reads r bytes = (o : Opened) → r ≡ Ok o → OpenTakes bytes o

  opens : (o : Opened) (bytes : List ℕ) → OpenTakes bytes o → Reads (Ok o) bytes
  unfolding Reads
  opens o bytes t x e = subst (OpenTakes bytes) (ok_is o x e) t

  refused : (bytes : List ℕ) → Reads (Err Bad) bytes
  unfolding Reads
  refused bytes x e = absurd cc

  either_way : (b : Bool) (x y : Result Opened Fault) (bytes : List ℕ) → (b ≡ true → Reads x bytes) → (b ≡ false → Reads y bytes) → Reads (cond b x y) bytes
  either_way true x y bytes f g = f refl
  either_way false x y bytes f g = g refl

  -- a test that has to hold
  where_it_holds : (b : Bool) (x : Result Opened Fault) (bytes : List ℕ) → (b ≡ true → Reads x bytes) → Reads (cond b x (Err Bad)) bytes
  where_it_holds b x bytes f = either_way b x (Err Bad) bytes f (λ _. refused bytes)

  -- a head that this library doesn't write
  abbrev IsFurther : Type 0
  IsFurther = has g.language Standard ≡ true

  further_reads : (x : Result Opened Fault) (bytes : List ℕ) → (IsFurther → Reads x bytes) → Reads (further g.language x) bytes
  further_reads x bytes f = where_it_holds (has g.language Standard) x bytes f

  -- ---- rows without a frame

  -- a head of width 0 that n children follow, after these bytes
  record IsBare (h : Head) (n : ℕ) (before : List ℕ) : Type 0 where
    row : (inside : List ℕ) → spelled h 0 n inside ≡ before ++ inside
    fits : (inside : List ℕ) → IsLegal g m h 0 n inside

  bare_reads : (h : Head) (n : ℕ) (before rest bytes : List ℕ) → IsBare h n before → bytes ≡ before ++ rest → AreBytes rest → Reads (Ok (follows h 0 n rest)) bytes
  bare_reads h n before rest bytes row is fits =
      opens (follows h 0 n rest) bytes (fits, λ inside after e ends. (bare_parts before rest inside after bytes is e ∙ ap (λ (l : List ℕ). l ++ after) (sym (row.row inside)), row.fits inside))

  module _ (plain : StandsPlain g.language m) where
    number_is : (b w v : ℕ) (bytes rest : List ℕ) → b ≡ prefix w → (w ≡ 0 → ⊥) → v < number_limit w → v < 2 ^ 64 → IsHigh w v bytes rest → OpenTakes (b ∷ bytes) (follows (number v) w 0 rest)
    number_is b w v bytes rest is some lt top t =
        let wide : eqb w 0 ≡ false = ne_eqb w 0 some in (
          t.fits,
          λ inside after e nothing. (
            rw wide (bare_parts (prefix w ∷ le w v) rest inside after (b ∷ bytes) (rw (is, t.parts) refl) e),
            record { stands = plain; takes = refl; is_standard = top; owns = refl; fits = lt; over = tt },
          ),
        )

    number_reads : (b w : ℕ) (bytes : List ℕ) → b ≡ prefix w → (w ≡ 0 → ⊥) → 256 ^ w ≤ number_limit w → number_limit w ≤ 2 ^ 64 → AreBytes bytes → Reads (number_at w bytes) (b ∷ bytes)
    unfolding Reads
    number_reads b w bytes is some fits top bs o e =
        let h = bind_ok (high_at w bytes) (λ h. Ok (follows (number h.0) w 0 h.1)) o e in
        let t = high_takes w bytes h.0 bs h.1 in
        opens (follows (number h.0.0) w 0 h.0.1) (b ∷ bytes) (number_is b w h.0.0 bytes h.0.1 is some (omega (arith, t.below, fits)) (omega (arith, t.below, fits, top)) t) o h.2

    small_reads : (b : ℕ) (rest : List ℕ) → b < 2 → AreBytes rest → Reads (Ok (follows (number b) 0 0 rest)) (b ∷ rest)
    small_reads b rest lt fits = bare_reads (number b) 0 (b ∷ []) rest (b ∷ rest) (record { row = λ inside. refl; fits = λ inside. record { stands = plain; takes = refl; is_standard = omega arith; owns = refl; fits = lt; over = tt } }) refl fits

    ones_reads : (b : ℕ) (rest : List ℕ) → b ≡ 255 → AreBytes rest → Reads (Ok (follows ones 0 0 rest)) (b ∷ rest)
    ones_reads b rest is fits = bare_reads ones 0 (255 ∷ []) rest (b ∷ rest) (record { row = λ inside. refl; fits = λ inside. record { stands = plain; takes = refl; is_standard = tt; owns = refl; fits = refl; over = tt } }) (one_byte b 255 rest is) fits

    local_reads : (b k : ℕ) (rest : List ℕ) → b ≡ 96 + k → k ≤ 7 → AreBytes rest → Reads (Ok (follows (local k) 0 0 rest)) (b ∷ rest)
    local_reads b k rest is few fits =
        bare_reads (local k) 0 ((96 + k) ∷ []) rest (b ∷ rest) (record { row = λ inside. refl; fits = λ inside. record { stands = plain; takes = refl; is_standard = tt; owns = rw (le-leb k 7 few) refl; fits = refl; over = tt } }) (one_byte b (96 + k) rest is) fits

    arg_reads : (b k : ℕ) (rest : List ℕ) → b ≡ 104 + k → k ≤ 6 → AreBytes rest → Reads (Ok (follows (arg k) 0 0 rest)) (b ∷ rest)
    arg_reads b k rest is few fits =
        bare_reads (arg k) 0 ((104 + k) ∷ []) rest (b ∷ rest) (record { row = λ inside. refl; fits = λ inside. record { stands = plain; takes = refl; is_standard = tt; owns = rw (le-leb k 6 few) refl; fits = refl; over = tt } }) (one_byte b (104 + k) rest is) fits

    op_reads : (o : Op) (rest bytes : List ℕ) → has g.language (language_of o) ≡ true → bytes ≡ opcode o ++ rest → AreBytes rest → OverUnnamed o rest → Reads (Ok (follows (op o) 0 (operands o) rest)) bytes
    op_reads o rest bytes within is fits unnamed =
        opens (follows (op o) 0 (operands o) rest) bytes (
          fits,
          λ inside after e ends. (
            bare_parts (opcode o) rest inside after bytes is e,
            record { stands = plain; takes = refl; is_standard = within; owns = refl; fits = refl; over = unnamed inside after e ends.something },
          ),
        )

    operator_reads : (code : List ℕ) (found : Option Op) (rest bytes : List ℕ) → op_of code ≡ found → bytes ≡ code ++ rest → AreBytes rest → ((o : Op) → opcode o ≡ code → OverUnnamed o rest) → Reads (operator_at g.language found rest) bytes
    operator_reads code None rest bytes found is fits unnamed = refused bytes
    operator_reads code (Some o) rest bytes found is fits unnamed =
        where_it_holds (has g.language (language_of o)) _ bytes (λ h. op_reads o rest bytes h (rw (op_is code o found) is) fits (unnamed o (op_is code o found)))

    string_is : (bytes s rest all : List ℕ) → all ≡ 13 ∷ bytes → AreBytes bytes → IsText s × (bytes ≡ s ++ 0 ∷ rest) → Reads (Ok (follows (string s) 0 0 rest)) all
    string_is bytes s rest all is fits t =
        bare_reads (string s) 0 (13 ∷ s ++ 0 ∷ []) rest all (record { row = λ inside. refl; fits = λ inside. record { stands = plain; takes = refl; is_standard = t.0; owns = refl; fits = refl; over = tt } })
        (is ∙ ap (λ (l : List ℕ). 13 ∷ l) (t.1 ∙ sym (append_assoc s (0 ∷ []) rest))) (bytes_after s (0 ∷ rest) (subst AreBytes t.1 fits)).1

    string_reads : (b : ℕ) (bytes : List ℕ) → b ≡ 13 → AreBytes bytes → Reads (string_at bytes) (b ∷ bytes)
    unfolding Reads
    string_reads b bytes is fits o e =
        let t = bind_ok (text_at bytes) (λ t. Ok (follows (string t.0) 0 0 t.1)) o e in
        string_is bytes t.0.0 t.0.1 (b ∷ bytes) (one_byte b 13 bytes is) fits (text_takes bytes t.0.0 t.0.1 t.1) o t.2

    -- ---- names

    -- what follows a name that was read
    abbrev AfterReads : After → List ℕ → List ℕ → Type 0
    AfterReads k rest bytes = (name tail : List ℕ) → IsNameIn g.language name → rest ≡ name ++ tail → AreBytes tail → Reads (k name tail) bytes

    named_reads : (k : After) (rest bytes : List ℕ) → AreBytes rest → AfterReads k rest bytes → Reads (named_at g.language k rest) bytes
    unfolding Reads
    named_reads k rest bytes fits next o e =
        let n = bind_ok (name_in g.language rest) (λ n. k n.0 n.1) o e in
        let t = name_in_takes g.language rest n.0.0 n.0.1 fits n.1 in
        next n.0.0 n.0.1 t.0 t.1 (bytes_after n.0.0 n.0.1 (subst AreBytes t.1 fits)) o n.2

    define_reads : (rest bytes : List ℕ) → bytes ≡ (8 ∷ []) ++ rest → AfterReads define_after rest bytes
    define_reads rest bytes is name tail p e fits =
        bare_reads (def_name name) 1 (8 ∷ name) tail bytes (record { row = λ inside. refl; fits = λ inside. record { stands = plain; takes = refl; is_standard = p; owns = refl; fits = refl; over = tt } }) (is ∙ ap (λ (l : List ℕ). 8 ∷ l) e) fits

    -- a name, or an operator over something else
    named_or_operator_reads : (k : After) (o : Op) (rest bytes : List ℕ) → takes_names (place Standard o) ≡ false → has g.language (language_of o) ≡ is_standard g.language → bytes ≡ opcode o ++ rest → AreBytes rest → AfterReads k rest bytes
        → Reads (named_or_operator_at g.language k o rest) bytes
    named_or_operator_reads k o rest bytes over same is fits next =
        either_way (is_standard g.language && not (names_first rest)) _ _ bytes
        (λ h.
        let p = and_parts (is_standard g.language) (not (names_first rest)) h in
        op_reads o rest bytes (same ∙ p.0) is fits (over_unnamed o rest over (not_true (names_first rest) p.1)))
        (λ _. named_reads k rest bytes fits next)

    release_reads : (rest bytes : List ℕ) → bytes ≡ (91 ∷ 39 ∷ []) ++ rest → AfterReads release_after rest bytes
    release_reads rest bytes is name tail p e fits =
        bare_reads (def_release name) 0 (91 ∷ 39 ∷ name) tail bytes (record { row = λ inside. refl; fits = λ inside. record { stands = plain; takes = refl; is_standard = p; owns = refl; fits = refl; over = tt } })
        (is ∙ ap (λ (l : List ℕ). 91 ∷ 39 ∷ l) e) fits

    mutex_reads : (rest bytes : List ℕ) → bytes ≡ (91 ∷ 1 ∷ []) ++ rest → AfterReads mutex_after rest bytes
    mutex_reads rest bytes is name [] p e fits = refused bytes
    mutex_reads rest bytes is name (level ∷ tail) p e fits =
        bare_reads (def_mutex name level) 0 (91 ∷ 1 ∷ name ++ level ∷ []) tail bytes (record { row = λ inside. refl; fits = λ inside. record { stands = plain; takes = refl; is_standard = (p, fits.0); owns = refl; fits = refl; over = tt } })
        (is ∙ ap (λ (l : List ℕ). 91 ∷ 1 ∷ l) (e ∙ sym (append_assoc name (level ∷ []) tail))) fits.1

    region_reads : (rest bytes : List ℕ) → bytes ≡ (91 ∷ 128 ∷ []) ++ rest → AfterReads region_after rest bytes
    region_reads rest bytes is name [] p e fits = refused bytes
    region_reads rest bytes is name (space ∷ tail) p e fits =
        bare_reads (def_op_region name space) 2 (91 ∷ 128 ∷ name ++ space ∷ []) tail bytes (record { row = λ inside. refl; fits = λ inside. record { stands = plain; takes = refl; is_standard = (p, fits.0); owns = refl; fits = refl; over = tt } })
        (is ∙ ap (λ (l : List ℕ). 91 ∷ 128 ∷ l) (e ∙ sym (append_assoc name (space ∷ []) tail))) fits.1

    acquire_reads : (rest bytes : List ℕ) → bytes ≡ (91 ∷ 35 ∷ []) ++ rest → AfterReads acquire_after rest bytes
    unfolding Reads
    acquire_reads rest bytes is name tail p e fits o r =
        let h = bind_ok (high_at 2 tail) (λ h. Ok (follows (def_acquire name h.0) 0 0 h.1)) o r in
        let t = high_takes 2 tail h.0 fits h.1 in
        bare_reads (def_acquire name h.0.0) 0 (91 ∷ 35 ∷ name ++ le 2 h.0.0) h.0.1 bytes (record { row = λ inside. refl; fits = λ inside. record { stands = plain; takes = refl; is_standard = (p, t.below); owns = refl; fits = refl; over = tt } })
        (is ∙ ap (λ (l : List ℕ). 91 ∷ 35 ∷ l) (grouped name (le 2 h.0.0) h.0.1 rest tail e t.parts)) t.fits o h.2

    external_reads : (rest bytes : List ℕ) → IsFurther → bytes ≡ (21 ∷ []) ++ rest → AfterReads external_after rest bytes
    external_reads rest bytes more is name [] p e fits = refused bytes
    external_reads rest bytes more is name (kind ∷ []) p e fits = refused bytes
    external_reads rest bytes more is name (kind ∷ args ∷ tail) p e fits =
        bare_reads (def_external name kind args) 0 (21 ∷ name ++ kind ∷ args ∷ []) tail bytes
        (record { row = λ inside. refl; fits = λ inside. record { stands = plain; takes = refl; is_standard = (more, p, fits.0, fits.1.0); owns = refl; fits = refl; over = tt } })
        (is ∙ ap (λ (l : List ℕ). 21 ∷ l) (e ∙ sym (append_assoc name (kind ∷ args ∷ []) tail))) fits.1.1

    fatal_reads : (rest bytes : List ℕ) → IsFurther → bytes ≡ (91 ∷ 50 ∷ []) ++ rest → AreBytes rest → Reads (fatal_at rest) bytes
    unfolding Reads
    fatal_reads [] bytes more is fits o r = absurd cc
    fatal_reads (kind ∷ tail) bytes more is fits o r =
        let h = bind_ok (high_at 4 tail) (λ h. Ok (follows (def_fatal kind h.0) 0 1 h.1)) o r in
        let t = high_takes 4 tail h.0 fits.1 h.1 in
        bare_reads (def_fatal kind h.0.0) 1 (91 ∷ 50 ∷ kind ∷ le 4 h.0.0) h.0.1 bytes
        (record { row = λ inside. refl; fits = λ inside. record { stands = plain; takes = refl; is_standard = (more, fits.0, t.below); owns = refl; fits = refl; over = tt } })
        (is ∙ ap (λ (l : List ℕ). 91 ∷ 50 ∷ kind ∷ l) t.parts) t.fits o h.2

    -- ---- names in frames

    -- what follows a name in a frame that was read
    abbrev InsideReads : Inside → List ℕ → List ℕ → Type 0
    InsideReads k rest bytes = (w : ℕ) (name tail content after : List ℕ) → Framed rest w content after → IsNameIn g.language name → content ≡ name ++ tail → AreBytes tail → Reads (k w name tail after) bytes

    framed_reads : (k : Inside) (rest bytes : List ℕ) → AreBytes rest → InsideReads k rest bytes → Reads (framed_at g.language k rest) bytes
    unfolding Reads
    framed_reads k rest bytes fits next o e =
        let f = bind_ok (frame_at rest) (λ f. name_in g.language f.1 >>= λ n. k f.0 n.0 n.1 f.2) o e in
        let t = frame_takes rest f.0 fits f.1 in
        let n = bind_ok (name_in g.language f.0.1) (λ n. k f.0.0 n.0 n.1 f.0.2) o f.2 in
        let p = name_in_takes g.language f.0.1 n.0.0 n.0.1 t.inside_fits n.1 in
        next f.0.0 n.0.0 n.0.1 f.0.1 f.0.2 t p.0 p.1 (bytes_after n.0.0 n.0.1 (subst AreBytes p.1 t.inside_fits)) o n.2

    scope_reads : (rest bytes : List ℕ) → bytes ≡ (16 ∷ []) ++ rest → InsideReads scope_inside rest bytes
    scope_reads rest bytes is w name tail content after f p e fits =
        let same = none_after name tail content e in
        opens (fills (def_scope name) w tail after) bytes (
          fits,
          f.after_fits,
          λ n enough. (
            frame_parts (16 ∷ []) rest content _ after bytes w is f.parts same,
            record { stands = plain; takes = tt; is_standard = p; owns = refl; fits = subst (FrameFits w) same f.fits; over = tt },
          ),
        )

    device_reads : (rest bytes : List ℕ) → bytes ≡ (91 ∷ 130 ∷ []) ++ rest → InsideReads device_inside rest bytes
    device_reads rest bytes is w name tail content after f p e fits =
        let same = none_after name tail content e in
        opens (fills (def_device name) w tail after) bytes (
          fits,
          f.after_fits,
          λ n enough. (
            frame_parts (91 ∷ 130 ∷ []) rest content _ after bytes w is f.parts same,
            record { stands = plain; takes = tt; is_standard = p; owns = refl; fits = subst (FrameFits w) same f.fits; over = tt },
          ),
        )

    method_is : (rest bytes : List ℕ) (w : ℕ) (name inside content after : List ℕ) (args : ℕ) (serialized : Bool) → bytes ≡ (20 ∷ []) ++ rest → Framed rest w content after → IsNameIn g.language name → args ≤ 7
        → content ≡ (name ++ method_flags args serialized ∷ []) ++ inside → AreBytes inside → Reads (Ok (fills (def_method name args serialized) w inside after)) bytes
    method_is rest bytes w name inside content after args serialized is f p few e fits =
        let same = none_after (name ++ method_flags args serialized ∷ []) inside content e in
        opens (fills (def_method name args serialized) w inside after) bytes (
          fits,
          f.after_fits,
          λ n enough. (
            frame_parts (20 ∷ []) rest content _ after bytes w is f.parts same,
            record { stands = plain; takes = tt; is_standard = p; owns = rw (le-leb args 7 few) refl; fits = subst (FrameFits w) same f.fits; over = tt },
          ),
        )

    leveled_is : (rest bytes : List ℕ) (w : ℕ) (name inside content after : List ℕ) (args : ℕ) (serialized : Bool) (level : ℕ) → IsFurther → bytes ≡ (20 ∷ []) ++ rest → Framed rest w content after → IsNameIn g.language name → args ≤ 7
        → 1 ≤ level → level ≤ 15 → content ≡ (name ++ leveled_flags args serialized level ∷ []) ++ inside → AreBytes inside → Reads (Ok (fills (def_leveled_method name args serialized level) w inside after)) bytes
    leveled_is rest bytes w name inside content after args serialized level more is f p few low high e fits =
        let same = none_after (name ++ leveled_flags args serialized level ∷ []) inside content e in
        opens (fills (def_leveled_method name args serialized level) w inside after) bytes (
          fits,
          f.after_fits,
          λ n enough. (
            frame_parts (20 ∷ []) rest content _ after bytes w is f.parts same,
            record { stands = plain; takes = tt; is_standard = (more, p, low, high); owns = rw (le-leb args 7 few) refl; fits = subst (FrameFits w) same f.fits; over = tt },
          ),
        )

    method_reads : (rest bytes : List ℕ) → bytes ≡ (20 ∷ []) ++ rest → InsideReads (method_inside g.language) rest bytes
    method_reads rest bytes is w name [] content after f p e fits = refused bytes
    method_reads rest bytes is w name (flags ∷ inside) content after f p e fits =
        either_way (ltb flags 16) _ _ bytes (λ h.
        let lt : flags < 16 = ltb-true flags 16 h in
        let back : flags ≡ method_flags (flags % 8) (nat_le 8 flags) = sym (serialized_flags flags (nat_le 8 flags) refl lt) in
        method_is rest bytes w name inside content after (flags % 8) (nat_le 8 flags) is f p (omega arith)
        (grouped name (method_flags (flags % 8) (nat_le 8 flags) ∷ []) inside content (flags ∷ inside) e (ap (λ (x : ℕ). x ∷ inside) back)) fits.1)
        (λ h. further_reads _ bytes (λ more.
        let ge : 16 ≤ flags = ltb-false flags 16 h in
        let top : flags < 256 = fits.0 in
        let back : flags ≡ leveled_flags (flags % 8) (nat_le 8 (flags % 16)) (flags / 16) = sym (leveled_back flags (nat_le 8 (flags % 16)) refl) in
        leveled_is rest bytes w name inside content after (flags % 8) (nat_le 8 (flags % 16)) (flags / 16) more is f p (omega arith) (omega arith) (omega arith)
        (grouped name (leveled_flags (flags % 8) (nat_le 8 (flags % 16)) (flags / 16) ∷ []) inside content (flags ∷ inside) e (ap (λ (x : ℕ). x ∷ inside) back)) fits.1))

    thermal_reads : (rest bytes : List ℕ) → IsFurther → bytes ≡ (91 ∷ 133 ∷ []) ++ rest → InsideReads thermal_inside rest bytes
    thermal_reads rest bytes more is w name tail content after f p e fits =
        let same = none_after name tail content e in
        opens (fills (def_thermal_zone name) w tail after) bytes (
          fits,
          f.after_fits,
          λ n enough. (
            frame_parts (91 ∷ 133 ∷ []) rest content _ after bytes w is f.parts same,
            record { stands = plain; takes = tt; is_standard = (more, p); owns = refl; fits = subst (FrameFits w) same f.fits; over = tt },
          ),
        )

    processor_is : (rest bytes : List ℕ) (w : ℕ) (name inside content after : List ℕ) (id address : ℕ) → IsFurther → bytes ≡ (91 ∷ 131 ∷ []) ++ rest → Framed rest w content after → IsNameIn g.language name
        → id < 256 → address < 2 ^ 32 → content ≡ name ++ (id ∷ (le 4 address ++ inside)) → AreBytes inside → Reads (processor_end w name id address inside after) bytes
    processor_is rest bytes w name [] content after id address more is f p low below e fits = refused bytes
    processor_is rest bytes w name (size ∷ inside) content after id address more is f p low below e fits =
        let mid = id ∷ (le 4 address ++ size ∷ []) in
        let same = none_after (name ++ mid) inside content (grouped name mid inside content (id ∷ (le 4 address ++ size ∷ inside)) e (ap (λ (l : List ℕ). id ∷ l) (sym (append_assoc (le 4 address) (size ∷ []) inside)))) in
        opens (fills (def_processor name id address size) w inside after) bytes (
          fits.1,
          f.after_fits,
          λ n enough. (
            frame_parts (91 ∷ 131 ∷ []) rest content _ after bytes w is f.parts same,
            record { stands = plain; takes = tt; is_standard = (more, p, low, below, fits.0); owns = refl; fits = subst (FrameFits w) same f.fits; over = tt },
          ),
        )

    processor_reads : (rest bytes : List ℕ) → IsFurther → bytes ≡ (91 ∷ 131 ∷ []) ++ rest → InsideReads processor_inside rest bytes
    unfolding Reads
    processor_reads rest bytes more is w name [] content after f p e fits o r = absurd cc
    processor_reads rest bytes more is w name (id ∷ tail) content after f p e fits o r =
        let h = bind_ok (high_at 4 tail) (λ h. processor_end w name id h.0 h.1 after) o r in
        let t = high_takes 4 tail h.0 fits.1 h.1 in
        processor_is rest bytes w name h.0.1 content after id h.0.0 more is f p fits.0 t.below (e ∙ ap (λ (l : List ℕ). name ++ id ∷ l) t.parts) t.fits o h.2

    power_reads : (rest bytes : List ℕ) → bytes ≡ (91 ∷ 132 ∷ []) ++ rest → InsideReads power_inside rest bytes
    unfolding Reads
    power_reads rest bytes is w name [] content after f p e fits o r = absurd cc
    power_reads rest bytes is w name (level ∷ tail) content after f p e fits o r =
        let h = bind_ok (high_at 2 tail) (λ h. Ok (fills (def_power_res name level h.0) w h.1 after)) o r in
        let t = high_takes 2 tail h.0 fits.1 h.1 in
        let same = none_after (name ++ level ∷ le 2 h.0.0) h.0.1 content (grouped name (level ∷ le 2 h.0.0) h.0.1 content (level ∷ tail) e (ap (λ (l : List ℕ). level ∷ l) t.parts)) in
        opens (fills (def_power_res name level h.0.0) w h.0.1 after) bytes (
          t.fits,
          f.after_fits,
          λ n enough. (
            frame_parts (91 ∷ 132 ∷ []) rest content _ after bytes w is f.parts same,
            record { stands = plain; takes = tt; is_standard = (p, fits.0, t.below); owns = refl; fits = subst (FrameFits w) same f.fits; over = tt },
          ),
        ) o h.2

    field_is : (rest bytes : List ℕ) (w : ℕ) (name inside content after : List ℕ) (access lock update : ℕ) (entries : List Entry) → bytes ≡ (91 ∷ 129 ∷ []) ++ rest → Framed rest w content after → IsNameIn g.language name
        → access ≤ 5 → lock ≤ 1 → update ≤ 2 → content ≡ name ++ field_flags access lock update ∷ inside → AreEntries g.language inside entries → OpenTakes bytes (follows (def_field name access lock update entries) w 0 after)
    field_is rest bytes w name inside content after access lock update entries is f p a l u e t =
        let before = name ++ field_flags access lock update ∷ entries_bytes entries in
        let same : content ≡ before ++ [] = e ∙ ap (λ (l : List ℕ). name ++ field_flags access lock update ∷ l) t.parts ∙ sym (append-nil before) in
        let parts : bytes ≡ ((91 ∷ 129 ∷ []) ++ with_length w (before ++ [])) ++ after = frame_parts (91 ∷ 129 ∷ []) rest content _ after bytes w is f.parts same in
        let fits : FrameFits w (before ++ []) = subst (FrameFits w) same f.fits in
        let head : IsLegal g m (def_field name access lock update entries) w 0 [] = record { stands = plain; takes = refl; is_standard = (p, a, l, u, t.standard); owns = entries_owned entries t.fits; fits = (t.fits, fits); over = tt } in (
          f.after_fits,
          λ inner after_it split ends.
              let none = ends.nothing refl in
              let rest_is : after ≡ after_it = split ∙ ap (λ (l : List ℕ). l ++ after_it) none in
              subst (λ (l : List ℕ). (bytes ≡ spelled (def_field name access lock update entries) w 0 l ++ after_it) × IsLegal g m (def_field name access lock update entries) w 0 l) (sym none)
              (parts ∙ ap (λ (l : List ℕ). ((91 ∷ 129 ∷ []) ++ with_length w (before ++ [])) ++ l) rest_is, head),
        )

    field_reads : (rest bytes : List ℕ) → bytes ≡ (91 ∷ 129 ∷ []) ++ rest → InsideReads (field_inside g.language) rest bytes
    unfolding Reads
    field_reads rest bytes is w name [] content after f p e fits o r = absurd cc
    field_reads rest bytes is w name (flags ∷ inside) content after f p e fits o r =
        let low = admitted (ltb (flags % 16) 6) Bad _ o r in
        let high = admitted (ltb flags 96) Bad _ o low.1 in
        let a = bind_ok (entries_at g.language (length inside) inside) (λ e. Ok (follows (def_field name (flags % 16) (flags / 16 % 2) (flags / 32) e) w 0 after)) o high.1 in
        let t = entries_takes g.language (length inside) inside a.0 fits.1 a.1 in
        let small : flags % 16 < 6 = ltb-true _ 6 low.0 in
        let top : flags < 96 = ltb-true _ 96 high.0 in
        opens (follows (def_field name (flags % 16) (flags / 16 % 2) (flags / 32) a.0) w 0 after) bytes
        (field_is rest bytes w name inside content after (flags % 16) (flags / 16 % 2) (flags / 32) a.0 is f p (omega arith) (omega arith) (omega arith) (e ∙ ap (λ (x : ℕ). name ++ x ∷ inside) (sym (flags_is flags))) t) o a.2

    index_is : (rest bytes : List ℕ) (w : ℕ) (index name inside content after : List ℕ) (access lock update : ℕ) (entries : List Entry) → IsFurther → bytes ≡ (91 ∷ 134 ∷ []) ++ rest → Framed rest w content after
        → IsNameIn g.language index → IsNameIn g.language name
        → access ≤ 5 → lock ≤ 1 → update ≤ 2 → content ≡ index ++ (name ++ field_flags access lock update ∷ inside) → AreEntries g.language inside entries → OpenTakes bytes (follows (def_index_field index name access lock update entries) w 0 after)
    index_is rest bytes w index name inside content after access lock update entries more is f p q a l u e t =
        let before = index ++ (name ++ field_flags access lock update ∷ entries_bytes entries) in
        let same : content ≡ before ++ [] = e ∙ ap (λ (l : List ℕ). index ++ (name ++ field_flags access lock update ∷ l)) t.parts ∙ sym (append-nil before) in
        let parts : bytes ≡ ((91 ∷ 134 ∷ []) ++ with_length w (before ++ [])) ++ after = frame_parts (91 ∷ 134 ∷ []) rest content _ after bytes w is f.parts same in
        let fits : FrameFits w (before ++ []) = subst (FrameFits w) same f.fits in
        let head : IsLegal g m (def_index_field index name access lock update entries) w 0 [] = record { stands = plain; takes = refl; is_standard = (more, p, q, a, l, u, t.standard); owns = entries_owned entries t.fits; fits = (t.fits, fits); over = tt } in (
          f.after_fits,
          λ inner after_it split ends.
              let none = ends.nothing refl in
              let rest_is : after ≡ after_it = split ∙ ap (λ (l : List ℕ). l ++ after_it) none in
              subst (λ (l : List ℕ). (bytes ≡ spelled (def_index_field index name access lock update entries) w 0 l ++ after_it) × IsLegal g m (def_index_field index name access lock update entries) w 0 l) (sym none)
              (parts ∙ ap (λ (l : List ℕ). ((91 ∷ 134 ∷ []) ++ with_length w (before ++ [])) ++ l) rest_is, head),
        )

    index_flagged : (rest bytes : List ℕ) (w : ℕ) (index name inside content after : List ℕ) → IsFurther → bytes ≡ (91 ∷ 134 ∷ []) ++ rest → Framed rest w content after → IsNameIn g.language index → IsNameIn g.language name
        → content ≡ index ++ (name ++ inside) → AreBytes inside → Reads (index_flags g.language w index name inside after) bytes
    unfolding Reads
    index_flagged rest bytes w index name [] content after more is f p q e fits o r = absurd cc
    index_flagged rest bytes w index name (flags ∷ inside) content after more is f p q e fits o r =
        let low = admitted (ltb (flags % 16) 6) Bad _ o r in
        let high = admitted (ltb flags 96) Bad _ o low.1 in
        let a = bind_ok (entries_at g.language (length inside) inside) (λ e. Ok (follows (def_index_field index name (flags % 16) (flags / 16 % 2) (flags / 32) e) w 0 after)) o high.1 in
        let t = entries_takes g.language (length inside) inside a.0 fits.1 a.1 in
        let small : flags % 16 < 6 = ltb-true _ 6 low.0 in
        let top : flags < 96 = ltb-true _ 96 high.0 in
        opens (follows (def_index_field index name (flags % 16) (flags / 16 % 2) (flags / 32) a.0) w 0 after) bytes
        (index_is rest bytes w index name inside content after (flags % 16) (flags / 16 % 2) (flags / 32) a.0 more is f p q (omega arith) (omega arith) (omega arith) (e ∙ ap (λ (x : ℕ). index ++ (name ++ x ∷ inside)) (sym (flags_is flags))) t) o a.2

    index_reads : (rest bytes : List ℕ) → IsFurther → bytes ≡ (91 ∷ 134 ∷ []) ++ rest → InsideReads (index_inside g.language) rest bytes
    unfolding Reads
    index_reads rest bytes more is w index tail content after f p e fits o r =
        let n = bind_ok (name_in g.language tail) (λ n. index_flags g.language w index n.0 n.1 after) o r in
        let q = name_in_takes g.language tail n.0.0 n.0.1 fits n.1 in
        index_flagged rest bytes w index n.0.0 n.0.1 content after more is f p q.0 (e ∙ ap (λ (l : List ℕ). index ++ l) q.1) (bytes_after n.0.0 n.0.1 (subst AreBytes q.1 fits)) o n.2

    framed_within : (code rest name bank inside content after bytes : List ℕ) (w : ℕ) → bytes ≡ code ++ rest → Framed rest w content after → content ≡ name ++ (bank ++ inside) → length inside + length after ≤ length bytes
    framed_within code rest name bank inside content after bytes w is f e =
        omega (arith, ap length is, length-append code rest, ap length f.parts, length-append (with_length w content) after, length-append (length_bytes w (w + length content)) content, ap length e, length-append name (bank ++ inside), length-append bank inside)

    bank_is : (rest bytes : List ℕ) (w : ℕ) (name bank inside content after : List ℕ) → IsFurther → bytes ≡ (91 ∷ 135 ∷ []) ++ rest → Framed rest w content after → IsNameIn g.language name → IsNameIn g.language bank
        → content ≡ name ++ (bank ++ inside) → AreBytes inside → OpenTakes bytes (banks w name bank inside after)
    bank_is rest bytes w name bank inside content after more is f p q e fits = (
      fits,
      f.after_fits,
      is_further g.language more,
      framed_within (91 ∷ 135 ∷ []) rest name bank inside content after bytes w is f e,
      λ children access lock update entries a l u standard carried split.
          let mid = name ++ bank in
          let tail = field_flags access lock update ∷ entries_bytes entries in
          let same : content ≡ mid ++ (children ++ tail) = e ∙ sym (append_assoc name bank inside) ∙ ap (λ (l : List ℕ). mid ++ l) split in (
            frame_parts (91 ∷ 135 ∷ []) rest content _ after bytes w is f.parts same,
            record { stands = plain; takes = refl; is_standard = (more, p, q, a, l, u, standard); owns = entries_owned entries carried; fits = (carried, subst (FrameFits w) same f.fits); over = tt },
          ),
    )

    bank_reads : (rest bytes : List ℕ) → IsFurther → bytes ≡ (91 ∷ 135 ∷ []) ++ rest → InsideReads (bank_inside g.language) rest bytes
    unfolding Reads
    bank_reads rest bytes more is w name tail content after f p e fits o r =
        let n = bind_ok (name_in g.language tail) (λ n. Ok (banks w name n.0 n.1 after)) o r in
        let q = name_in_takes g.language tail n.0.0 n.0.1 fits n.1 in
        opens (banks w name n.0.0 n.0.1 after) bytes (bank_is rest bytes w name n.0.0 n.0.1 content after more is f p q.0 (e ∙ ap (λ (l : List ℕ). name ++ l) q.1) (bytes_after n.0.0 n.0.1 (subst AreBytes q.1 fits))) o n.2

    -- ---- other frames

    -- a head whose row is its opcode and a frame
    record IsPlain (h : Head) (k : ℕ) : Type 0 where
      row : (w n : ℕ) (inside : List ℕ) → spelled h w n inside ≡ (k ∷ []) ++ with_length w (inside ++ [])
      fits : (w n : ℕ) (inside : List ℕ) → least_of h ≤ n → FrameFits w (inside ++ []) → IsLegal g m h w n inside

    plain_reads : (h : Head) (k b : ℕ) (rest : List ℕ) → IsPlain h k → b ≡ k → AreBytes rest → Reads (plain_at h rest) (b ∷ rest)
    unfolding Reads
    plain_reads h k b rest p is fits o e =
        let f = bind_ok (frame_at rest) (λ f. Ok (fills h f.0 f.1 f.2)) o e in
        let t = frame_takes rest f.0 fits f.1 in
        let same = none_after [] f.0.1 f.0.1 refl in
        let parts : b ∷ rest ≡ ((k ∷ []) ++ with_length f.0.0 (f.0.1 ++ [])) ++ f.0.2 = frame_parts (k ∷ []) rest f.0.1 (f.0.1 ++ []) f.0.2 (b ∷ rest) f.0.0 (one_byte b k rest is) t.parts same in
        opens (fills h f.0.0 f.0.1 f.0.2) (b ∷ rest) (t.inside_fits, t.after_fits, λ n enough. (parts ∙ ap (λ (l : List ℕ). l ++ f.0.2) (sym (p.row f.0.0 n f.0.1)), p.fits f.0.0 n f.0.1 enough (subst (FrameFits f.0.0) same t.fits))) o f.2

    package_legal : (w n : ℕ) (rest inside after : List ℕ) → Framed rest w (n ∷ inside) after → IsLegal g m def_package w n inside
    package_legal w n rest inside after f =
        record { stands = plain; takes = tt; is_standard = tt; owns = rw (le-leb n 255 (omega (arith, f.inside_fits.0))) refl; fits = subst (FrameFits w) (none_after (n ∷ []) inside (n ∷ inside) refl) f.fits; over = tt }

    roomy_legal : (w n k : ℕ) (rest inside after : List ℕ) → IsFurther → Framed rest w (n ∷ inside) after → k < n → IsLegal g m (def_roomy_package n) w k inside
    roomy_legal w n k rest inside after more f lt =
        record { stands = plain; takes = tt; is_standard = (more, f.inside_fits.0); owns = rw (lt-ltb k n lt) refl; fits = subst (FrameFits w) (none_after (n ∷ []) inside (n ∷ inside) refl) f.fits; over = tt }

    package_parts : (b w n : ℕ) (rest inside after : List ℕ) → b ≡ 18 → Framed rest w (n ∷ inside) after → b ∷ rest ≡ ((18 ∷ []) ++ with_length w ((n ∷ []) ++ (inside ++ []))) ++ after
    package_parts b w n rest inside after is f = frame_parts (18 ∷ []) rest (n ∷ inside) _ after (b ∷ rest) w (one_byte b 18 rest is) f.parts (none_after (n ∷ []) inside (n ∷ inside) refl)

    package_is : (b w : ℕ) (rest content after : List ℕ) → b ≡ 18 → Framed rest w content after → Reads (counted_frame g.language w content after) (b ∷ rest)
    package_is b w rest [] after is f = refused (b ∷ rest)
    package_is b w rest (n ∷ inside) after is f =
        let parts = package_parts b w n rest inside after is f in
        either_way (has g.language Standard) _ _ (b ∷ rest)
        (λ more. opens (rooms w n inside after) (b ∷ rest) (f.inside_fits.1, f.after_fits, (parts, package_legal w n rest inside after f), λ k lt. (parts, roomy_legal w n k rest inside after more f lt)))
        (λ _. opens (packs w n inside after) (b ∷ rest) (f.inside_fits.1, f.after_fits, parts, package_legal w n rest inside after f))

    package_reads : (b : ℕ) (rest : List ℕ) → b ≡ 18 → AreBytes rest → Reads (package_at g.language rest) (b ∷ rest)
    unfolding Reads
    package_reads b rest is fits o e =
        let f = bind_ok (frame_at rest) (λ f. counted_frame g.language f.0 f.1 f.2) o e in
        package_is b f.0.0 rest f.0.1 f.0.2 is (frame_takes rest f.0 fits f.1) o f.2

    buffer_is : (b w : ℕ) (rest content after : List ℕ) → b ≡ 17 → Framed rest w content after → OpenTakes (b ∷ rest) (begins w content after)
    buffer_is b w rest content after is f = (
      f.inside_fits,
      f.after_fits,
      λ inside bytes e. (
        frame_parts (17 ∷ []) rest content _ after (b ∷ rest) w (one_byte b 17 rest is) f.parts e,
        record { stands = plain; takes = refl; is_standard = bytes_after inside bytes (subst AreBytes e f.inside_fits); owns = refl; fits = subst (FrameFits w) e f.fits; over = tt },
      ),
    )

    buffer_reads : (b : ℕ) (rest : List ℕ) → b ≡ 17 → AreBytes rest → Reads (buffer_at rest) (b ∷ rest)
    unfolding Reads
    buffer_reads b rest is fits o e =
        let f = bind_ok (frame_at rest) (λ f. Ok (begins f.0 f.1 f.2)) o e in
        opens (begins f.0.0 f.0.1 f.0.2) (b ∷ rest) (buffer_is b f.0.0 rest f.0.1 f.0.2 is (frame_takes rest f.0 fits f.1)) o f.2

    -- ---- opcodes

    one_differs : (b k : ℕ) (o : Op) → opcode o ≡ b ∷ [] → opcode o ≡ 91 ∷ k ∷ [] → ⊥
    one_differs b k o same p = let e : b ∷ [] ≡ 91 ∷ k ∷ [] = sym same ∙ p in cc

    second_differs : (x k : ℕ) (o : Op) → eqb x k ≡ false → opcode o ≡ 91 ∷ x ∷ [] → opcode o ≡ 91 ∷ k ∷ [] → ⊥
    second_differs x k o other same p = let e : 91 ∷ x ∷ [] ≡ 91 ∷ k ∷ [] = sym same ∙ p in eqb-false x k other cc

    over_any : (o : Op) (rest : List ℕ) → (opcode o ≡ 91 ∷ 35 ∷ [] → ⊥) → (opcode o ≡ 91 ∷ 39 ∷ [] → ⊥) → OverUnnamed o rest
    over_any o rest p q inside after e some = any_inside (place Standard o) inside (plain_op o p q)

    extended_reads : (b : ℕ) (rest : List ℕ) → b ≡ 91 → AreBytes rest → Reads (extended_at g.language rest) (b ∷ rest)
    extended_reads b [] is fits = refused (b ∷ [])
    extended_reads b (x ∷ rest) is fits =
        let all = b ∷ x ∷ rest in
        let two = λ (k : ℕ) (h : eqb x k ≡ true). two_bytes b 91 x k rest is (eqb-true x k h) in
        either_way (eqb x 1) _ _ all (λ h. named_reads mutex_after rest all fits.1 (mutex_reads rest all (two 1 h)))
        (λ _. either_way (eqb x 35) _ _ all (λ h. named_or_operator_reads acquire_after Acquire rest all refl refl (two 35 h) fits.1 (acquire_reads rest all (two 35 h)))
        (λ not_acquire. either_way (eqb x 39) _ _ all (λ h. named_or_operator_reads release_after Release rest all refl refl (two 39 h) fits.1 (release_reads rest all (two 39 h)))
        (λ not_release. either_way (eqb x 50) _ _ all (λ h. further_reads _ all (λ more. fatal_reads rest all more (two 50 h) fits.1))
        (λ _. either_way (eqb x 128) _ _ all (λ h. named_reads region_after rest all fits.1 (region_reads rest all (two 128 h)))
        (λ _. either_way (eqb x 129) _ _ all (λ h. framed_reads (field_inside g.language) rest all fits.1 (field_reads rest all (two 129 h)))
        (λ _. either_way (eqb x 130) _ _ all (λ h. framed_reads device_inside rest all fits.1 (device_reads rest all (two 130 h)))
        (λ _. either_way (eqb x 131) _ _ all (λ h. further_reads _ all (λ more. framed_reads processor_inside rest all fits.1 (processor_reads rest all more (two 131 h))))
        (λ _. either_way (eqb x 132) _ _ all (λ h. framed_reads power_inside rest all fits.1 (power_reads rest all (two 132 h)))
        (λ _. either_way (eqb x 133) _ _ all (λ h. further_reads _ all (λ more. framed_reads thermal_inside rest all fits.1 (thermal_reads rest all more (two 133 h))))
        (λ _. either_way (eqb x 134) _ _ all (λ h. further_reads _ all (λ more. framed_reads (index_inside g.language) rest all fits.1 (index_reads rest all more (two 134 h))))
        (λ _. either_way (eqb x 135) _ _ all (λ h. further_reads _ all (λ more. framed_reads (bank_inside g.language) rest all fits.1 (bank_reads rest all more (two 135 h))))
        (λ _. operator_reads (91 ∷ x ∷ []) (op_of (91 ∷ x ∷ [])) rest all refl (two_bytes b 91 x x rest is refl) fits.1 (λ o same. over_any o rest (λ p. second_differs x 35 o not_acquire same p) (λ p. second_differs x 39 o not_release same p))))))))))))))

    local_or_op_reads : (b : ℕ) (rest : List ℕ) → AreBytes rest → Reads (local_at g.language b rest) (b ∷ rest)
    local_or_op_reads b rest fits =
        either_way (nat_le 96 b && nat_le b 103) _ _ (b ∷ rest)
        (λ h. let p = and_parts (nat_le 96 b) (nat_le b 103) h in let low = leb-true 96 b p.0 in let high = leb-true b 103 p.1 in local_reads b (b - 96) rest (omega arith) (omega arith) fits)
        (λ h. either_way (nat_le 104 b && nat_le b 110) _ _ (b ∷ rest)
        (λ h. let p = and_parts (nat_le 104 b) (nat_le b 110) h in let low = leb-true 104 b p.0 in let high = leb-true b 110 p.1 in arg_reads b (b - 104) rest (omega arith) (omega arith) fits)
        (λ h. operator_reads (b ∷ []) (op_of (b ∷ [])) rest (b ∷ rest) refl refl fits (λ o same. over_any o rest (λ p. one_differs b 35 o same p) (λ p. one_differs b 39 o same p))))

    varpack_plain : IsPlain def_var_package 19
    varpack_plain = record { row = λ w n inside. refl; fits = λ w n inside enough f. record { stands = plain; takes = enough; is_standard = tt; owns = refl; fits = f; over = tt } }

    branch_plain : IsPlain def_if 160
    branch_plain = record { row = λ w n inside. refl; fits = λ w n inside enough f. record { stands = plain; takes = enough; is_standard = tt; owns = refl; fits = f; over = tt } }

    loop_plain : IsPlain def_while 162
    loop_plain = record { row = λ w n inside. refl; fits = λ w n inside enough f. record { stands = plain; takes = enough; is_standard = tt; owns = refl; fits = f; over = tt } }

    otherwise_plain : IsPlain def_else 161
    otherwise_plain = record { row = λ w n inside. refl; fits = λ w n inside enough f. record { stands = plain; takes = tt; is_standard = tt; owns = refl; fits = f; over = tt } }

    opcode_reads : (b : ℕ) (rest : List ℕ) → AreBytes rest → Reads (opcode_at g.language b rest) (b ∷ rest)
    opcode_reads b rest fits =
        let all = b ∷ rest in
        let first = λ (k : ℕ) (h : eqb b k ≡ true). one_byte b k rest (eqb-true b k h) in
        either_way (ltb b 2) _ _ all (λ h. small_reads b rest (ltb-true b 2 h) fits)
        (λ _. either_way (eqb b 8) _ _ all (λ h. named_reads define_after rest all fits (define_reads rest all (first 8 h)))
        (λ _. either_way (eqb b 10) _ _ all (λ h. number_reads b 1 rest (eqb-true b 10 h) (λ z. cc) (omega arith) (omega arith) fits)
        (λ _. either_way (eqb b 11) _ _ all (λ h. number_reads b 2 rest (eqb-true b 11 h) (λ z. cc) (omega arith) (omega arith) fits)
        (λ _. either_way (eqb b 12) _ _ all (λ h. number_reads b 4 rest (eqb-true b 12 h) (λ z. cc) (omega arith) (omega arith) fits)
        (λ _. either_way (eqb b 13) _ _ all (λ h. string_reads b rest (eqb-true b 13 h) fits)
        (λ _. either_way (eqb b 14) _ _ all (λ h. number_reads b 8 rest (eqb-true b 14 h) (λ z. cc) (omega arith) (omega arith) fits)
        (λ _. either_way (eqb b 16) _ _ all (λ h. framed_reads scope_inside rest all fits (scope_reads rest all (first 16 h)))
        (λ _. either_way (eqb b 17) _ _ all (λ h. buffer_reads b rest (eqb-true b 17 h) fits)
        (λ _. either_way (eqb b 18) _ _ all (λ h. package_reads b rest (eqb-true b 18 h) fits)
        (λ _. either_way (eqb b 19) _ _ all (λ h. plain_reads def_var_package 19 b rest varpack_plain (eqb-true b 19 h) fits)
        (λ _. either_way (eqb b 20) _ _ all (λ h. framed_reads (method_inside g.language) rest all fits (method_reads rest all (first 20 h)))
        (λ _. either_way (eqb b 21) _ _ all (λ h. further_reads _ all (λ more. named_reads external_after rest all fits (external_reads rest all more (first 21 h))))
        (λ _. either_way (eqb b 91) _ _ all (λ h. extended_reads b rest (eqb-true b 91 h) fits)
        (λ _. either_way (eqb b 160) _ _ all (λ h. plain_reads def_if 160 b rest branch_plain (eqb-true b 160 h) fits)
        (λ _. either_way (eqb b 161) _ _ all (λ h. plain_reads def_else 161 b rest otherwise_plain (eqb-true b 161 h) fits)
        (λ _. either_way (eqb b 162) _ _ all (λ h. plain_reads def_while 162 b rest loop_plain (eqb-true b 162 h) fits)
        (λ _. either_way (eqb b 255) _ _ all (λ h. ones_reads b rest (eqb-true b 255 h) fits)
        (λ _. local_or_op_reads b rest fits))))))))))))))))))

    call_is : (bytes name rest : List ℕ) → AreBytes bytes → IsNameIn g.language name × (bytes ≡ name ++ rest) → Reads (Ok (follows (call name) 0 (arguments g.arity m name) rest)) bytes
    call_is bytes name rest fits t =
        bare_reads (call name) (arguments g.arity m name) name rest bytes (record { row = λ inside. refl; fits = λ inside. record { stands = plain; takes = refl; is_standard = t.0; owns = refl; fits = refl; over = tt } }) t.1 (bytes_after name rest (subst AreBytes t.1 fits))

    call_reads : (bytes : List ℕ) → AreBytes bytes → Reads (name_in g.language bytes >>= λ n. Ok (follows (call n.0) 0 (arguments g.arity m n.0) n.1)) bytes
    unfolding Reads
    call_reads bytes fits o e =
        let n = bind_ok (name_in g.language bytes) (λ n. Ok (follows (call n.0) 0 (arguments g.arity m n.0) n.1)) o e in
        call_is bytes n.0.0 n.0.1 fits (name_in_takes g.language bytes n.0.0 n.0.1 fits n.1) o n.2

    head_reads : (bytes : List ℕ) → AreBytes bytes → Reads (head_at g m bytes) bytes
    unfolding head_at
    head_reads [] fits = refused []
    head_reads (b ∷ rest) fits = either_way (begins_name g.language b) _ _ (b ∷ rest) (λ h. call_reads (b ∷ rest) fits) (λ h. opcode_reads b rest fits.1)

  -- the timeout of an Acquire
  timeout_is : (bytes : List ℕ) → is_test g.language m ≡ false → is_timeout g.language m ≡ true → IsFurther → AreBytes bytes → Reads (high_at 2 bytes >>= λ h. Ok (follows (def_timeout h.0) 0 0 h.1)) bytes
  unfolding Reads
  timeout_is bytes plain timed more fits o r =
      let h = bind_ok (high_at 2 bytes) (λ h. Ok (follows (def_timeout h.0) 0 0 h.1)) o r in
      let t = high_takes 2 bytes h.0 fits h.1 in
      bare_reads (def_timeout h.0.0) 0 (le 2 h.0.0) h.0.1 bytes
      (record { row = λ inside. refl; fits = λ inside. record { stands = (plain, timed); takes = refl; is_standard = (more, t.below); owns = refl; fits = refl; over = tt } }) t.parts t.fits o h.2

  timeout_reads : (bytes : List ℕ) → is_test g.language m ≡ false → is_timeout g.language m ≡ true → AreBytes bytes → Reads (timeout_at g.language bytes) bytes
  timeout_reads bytes plain timed fits = further_reads _ bytes (λ more. timeout_is bytes plain timed more fits)

  -- a test of a Match
  test_reads : (bytes : List ℕ) → is_test g.language m ≡ true → AreBytes bytes → Reads (test_at g.language bytes) bytes
  test_reads [] test fits = refused []
  test_reads (k ∷ rest) test fits =
      further_reads _ (k ∷ rest) (λ more. where_it_holds (nat_le k 5) _ (k ∷ rest)
      (λ h. bare_reads (match_test k) 1 (k ∷ []) rest (k ∷ rest)
      (record { row = λ inside. refl; fits = λ inside. record { stands = test; takes = refl; is_standard = (more, leb-true k 5 h); owns = refl; fits = refl; over = tt } }) refl fits.1))

  pub open_takes : (bytes : List ℕ) (o : Opened) → AreBytes bytes → open_at g m bytes ≡ Ok o → OpenTakes bytes o
  unfolding open_at Reads
  open_takes bytes o fits e =
      either_way (is_test g.language m) _ _ bytes (λ t. test_reads bytes t fits)
      (λ p. either_way (is_timeout g.language m) _ _ bytes (λ t. timeout_reads bytes p t fits) (λ q. head_reads (p, q) bytes fits)) o e
