-- Heads: what is spelled so is opened.
use Rattle.std.proofs.Common.{◌≡◌, ℕ, zero, suc, ◌+◌, ◌-◌, ◌*◌, ◌/◌, ◌%◌, ◌<◌, ◌≤◌, Bool, true, false, cond, ltb, List, [], ◌∷◌, ◌++◌, length, Some, None, Result, Ok, Err, refl, sym, ap, subst, ◌∙◌, append_assoc, arith}
use Rattle.std.specs.Prelude.{nat_le, ◌&&◌}
use Rattle.std.proofs.lemmas.Bool.{leb-true, lt-ltb, le-ltb, le-leb, lt-leb}
use Rattle.std.proofs.lemmas.Bool.Decides.{nat_tests}
use Rattle.std.proofs.lemmas.List.{append-nil}
use Rattle.acpi_base.specs.declared.error.Error.{Error}
use Rattle.acpi_base.specs.Bytes.{le}
use Rattle.acpi_base.specs.Number.{number_limit, number_bytes}
use Rattle.acpi_term.specs.declared.op.Op.{Op}
use Rattle.acpi_term.specs.declared.op.Op.TheVariants.{CreateField, Acquire, Release}
use Rattle.acpi_term.specs.declared.mode.Mode.{Mode}
use Rattle.acpi_term.specs.Tree.{Entry, Head, number, ones, string, local, arg, call, def_scope, def_device, def_method, def_power_res, def_field, def_op_region, def_name, def_mutex, def_acquire, def_release, def_buffer, def_package, def_var_package, def_if, def_while, def_else, op, def_external, def_leveled_method, def_processor, def_thermal_zone, def_roomy_package, def_index_field, def_bank_field, def_fatal, match_test, def_timeout, unread}
use Rattle.acpi_term.specs.Name.{IsNameIn, begins_name}
use Rattle.acpi_term.specs.Length.{with_length, FrameFits}
use Rattle.acpi_term.specs.declared.language.Language.{Language}
use Rattle.acpi_term.specs.declared.language.Language.TheVariants.{Standard}
use Rattle.acpi_term.specs.Language.{Grammar, is_standard, has}
use Rattle.acpi_term.specs.Operator.{opcode, operands, language_of, op_of, place}
use Rattle.acpi_term.specs.Row.{entries_bytes, field_flags, method_flags, leveled_flags}
use Rattle.acpi_term.specs.Spelling.{spelled, arguments, IsPlain, AreStandardEntries, EntriesFit, IsUnnamed, takes_names, IsLegal}
use Rattle.acpi_term.specs.Reading.{Fault, Bad, name_in, names_first, After, named_at, define_after, release_after, mutex_after, region_after, acquire_after, external_after, Inside, framed_at, scope_inside, device_inside, thermal_inside, method_inside, processor_inside, index_inside, bank_inside, power_inside, field_inside, fatal_at, opcode_at, Opened, follows, fills, packs, rooms, begins, banks, head_at, open_at}
use Rattle.acpi_term.proofs.Names.{name_in_again}
use Rattle.acpi_term.proofs.Beginnings.{name_begins, name_first}
use Rattle.acpi_term.proofs.Texts.{text_again}
use Rattle.acpi_term.proofs.Frames.{high_again, frame_again}
use Rattle.acpi_term.proofs.Constants.{number_limit_few}
use Rattle.acpi_term.proofs.Entries.{entries_again}
use Rattle.acpi_term.proofs.Operators.{unnamed_first}

-- a head with n children, whose spellings joined are the bytes inside, where it is opened
abbrev pub opened : Language → Head → ℕ → ℕ → List ℕ → List ℕ → Opened
opened l (def_scope name) w n inside after = fills (def_scope name) w inside after
opened l (def_device name) w n inside after = fills (def_device name) w inside after
opened l (def_method name args serialized) w n inside after = fills (def_method name args serialized) w inside after
opened l (def_power_res name level order) w n inside after = fills (def_power_res name level order) w inside after
opened l def_var_package w n inside after = fills def_var_package w inside after
opened l def_if w n inside after = fills def_if w inside after
opened l def_while w n inside after = fills def_while w inside after
opened l def_else w n inside after = fills def_else w inside after
opened l def_package w n inside after = cond (has l Standard) (rooms w n inside after) (packs w n inside after)
opened l (def_leveled_method name args serialized level) w n inside after = fills (def_leveled_method name args serialized level) w inside after
opened l (def_processor name id address size) w n inside after = fills (def_processor name id address size) w inside after
opened l (def_thermal_zone name) w n inside after = fills (def_thermal_zone name) w inside after
opened l (def_roomy_package room) w n inside after = rooms w room inside after
opened l (def_buffer bytes) w n inside after = begins w (inside ++ bytes) after
opened l (def_bank_field name bank access lock update entries) w n inside after = banks w name bank (inside ++ field_flags access lock update ∷ entries_bytes entries) after
opened l h w n inside after = follows h w n (inside ++ after)

-- ---- parts

-- a value of a head's own that isn't refused
pub owned : (t : Bool) (e : Error) → cond t None (Some e) ≡ None → t ≡ true
owned true e h = refl
owned false e h = absurd cc

regroup : (a b c d : List ℕ) → ((a ++ b) ++ c) ++ d ≡ a ++ (b ++ (c ++ d))
regroup a b c d = append_assoc (a ++ b) c d ∙ append_assoc a b (c ++ d)

named_opens : (l : Language) (k : After) (name rest : List ℕ) → IsNameIn l name → named_at l k (name ++ rest) ≡ k name rest
named_opens l k name rest p = rw (name_in_again l name rest p) refl

framed_opens : (l : Language) (k : Inside) (w : ℕ) (name mid inside after : List ℕ) → IsNameIn l name → FrameFits w ((name ++ mid) ++ (inside ++ [])) → framed_at l k (with_length w ((name ++ mid) ++ (inside ++ [])) ++ after) ≡ k w name (mid ++ inside) after
framed_opens l k w name mid inside after p fits =
    rw (frame_again w ((name ++ mid) ++ (inside ++ [])) after fits, append_assoc name mid (inside ++ []), name_in_again l name (mid ++ (inside ++ [])) p, append-nil inside) refl

plainly_opens : (l : Language) (k : Inside) (w : ℕ) (name inside after : List ℕ) → IsNameIn l name → FrameFits w (name ++ (inside ++ [])) → framed_at l k (with_length w (name ++ (inside ++ [])) ++ after) ≡ k w name inside after
plainly_opens l k w name inside after p fits = rw (frame_again w (name ++ (inside ++ [])) after fits, name_in_again l name (inside ++ []) p, append-nil inside) refl

method_opens : (l : Language) (w : ℕ) (name : List ℕ) (args : ℕ) (serialized : Bool) (inside after : List ℕ) → args ≤ 7 → method_inside l w name (method_flags args serialized ∷ inside) after ≡ Ok (fills (def_method name args serialized) w inside after)
method_opens l w name args true inside after few =
    let low : ltb (args + 8) 16 ≡ true = lt-ltb _ _ (omega arith) in
    let r : (args + 8) % 8 ≡ args = omega arith in
    let high : nat_le 8 (args + 8) ≡ true = le-leb 8 (args + 8) (omega arith) in
    rw (low, r, high) refl
method_opens l w name args false inside after few =
    let same : args + 0 ≡ args = omega arith in
    let low : ltb args 16 ≡ true = lt-ltb _ _ (omega arith) in
    let r : args % 8 ≡ args = omega arith in
    let high : nat_le 8 args ≡ false = lt-leb 8 args (omega arith) in
    rw (same, low, r, high) refl

-- flags of any method with a level
leveled_from : (l : Language) (w flags : ℕ) (name : List ℕ) (args : ℕ) (serialized : Bool) (level : ℕ) (inside after : List ℕ) → has l Standard ≡ true → ltb flags 16 ≡ false → flags % 8 ≡ args → nat_le 8 (flags % 16) ≡ serialized → flags / 16 ≡ level
    → method_inside l w name (flags ∷ inside) after ≡ Ok (fills (def_leveled_method name args serialized level) w inside after)
leveled_from l w flags name args serialized level inside after more high a s v = rw (high, more, a, s, v) refl

leveled_opens : (l : Language) (w : ℕ) (name : List ℕ) (args : ℕ) (serialized : Bool) (level : ℕ) (inside after : List ℕ) → has l Standard ≡ true → args ≤ 7 → 1 ≤ level
    → method_inside l w name (leveled_flags args serialized level ∷ inside) after ≡ Ok (fills (def_leveled_method name args serialized level) w inside after)
leveled_opens l w name args true level inside after more few some =
    leveled_from l w (leveled_flags args true level) name args true level inside after more (le-ltb (args + 8 + 16 * level) 16 (omega arith)) (omega arith) (le-leb 8 _ (omega arith)) (omega arith)
leveled_opens l w name args false level inside after more few some =
    leveled_from l w (leveled_flags args false level) name args false level inside after more (le-ltb (args + 0 + 16 * level) 16 (omega arith)) (omega arith) (lt-leb 8 _ (omega arith)) (omega arith)

-- the flags of a field, taken apart again
pub flags_low : (access lock update : ℕ) → access ≤ 5 → lock ≤ 1 → update ≤ 2
    → (field_flags access lock update < 96) × (field_flags access lock update % 16 ≡ access) × (field_flags access lock update / 16 % 2 ≡ lock) × (field_flags access lock update / 32 ≡ update)
flags_low access lock update a l u = (omega arith, omega arith, omega arith, omega arith)

field_opens : (l : Language) (w : ℕ) (name : List ℕ) (access lock update : ℕ) (entries : List Entry) (after : List ℕ) → access ≤ 5 → lock ≤ 1 → update ≤ 2 → AreStandardEntries l entries → EntriesFit entries
    → field_inside l w name (field_flags access lock update ∷ entries_bytes entries) after ≡ Ok (follows (def_field name access lock update entries) w 0 after)
field_opens l w name access lock update entries after a k u f g =
    let p = flags_low access lock update a k u in
    let below : ltb (access + 16 * lock + 32 * update) 96 ≡ true = lt-ltb _ 96 p.0 in
    let small : ltb access 6 ≡ true = lt-ltb access 6 (omega arith) in
    rw (below, p.1, p.2, p.3, small, entries_again l entries (length (entries_bytes entries)) (omega arith) f g) refl

index_opens : (l : Language) (w : ℕ) (index name : List ℕ) (access lock update : ℕ) (entries : List Entry) (after : List ℕ) → IsNameIn l name → access ≤ 5 → lock ≤ 1 → update ≤ 2 → AreStandardEntries l entries → EntriesFit entries
    → index_inside l w index (name ++ field_flags access lock update ∷ entries_bytes entries) after ≡ Ok (follows (def_index_field index name access lock update entries) w 0 after)
index_opens l w index name access lock update entries after q a k u f e =
    let p = flags_low access lock update a k u in
    let below : ltb (access + 16 * lock + 32 * update) 96 ≡ true = lt-ltb _ 96 p.0 in
    let small : ltb access 6 ≡ true = lt-ltb access 6 (omega arith) in
    rw (name_in_again l name (field_flags access lock update ∷ entries_bytes entries) q, below, p.1, p.2, p.3, small, entries_again l entries (length (entries_bytes entries)) (omega arith) f e) refl

package_choice : (t : Bool) (w n : ℕ) (inside after : List ℕ) → ◌≡◌ {A = Result Opened Fault} (cond t (Ok (rooms w n inside after)) (Ok (packs w n inside after))) (Ok (cond t (rooms w n inside after) (packs w n inside after)))
package_choice true w n inside after = refl
package_choice false w n inside after = refl

-- ---- heads

module _ (g : Grammar) (m : Mode) where
  call_opens : (s rest : List ℕ) → IsNameIn g.language s → head_at g m (s ++ rest) ≡ Ok (follows (call s) 0 (arguments g.arity m s) rest)
  unfolding head_at
  call_opens s rest p =
      let x = name_begins g.language s rest p in
      let again : name_in g.language (x.0 ∷ x.1) ≡ Ok (s, rest) = ap (name_in g.language) (sym x.2) ∙ name_in_again g.language s rest p in
      ap (head_at g m) x.2 ∙ rw (x.3, again) refl

  number_opens : (v w : ℕ) (rest : List ℕ) → v < number_limit w → head_at g m (number_bytes v w ++ rest) ≡ Ok (follows (number v) w 0 rest)
  unfolding head_at
  number_opens v zero rest fits =
      let small : ltb v 2 ≡ true = lt-ltb v 2 fits in
      let other : begins_name g.language v ≡ false = grind (arith, nat_tests) in
      rw (other, small) refl
  number_opens v (suc zero) rest fits = rw (high_again 1 v rest fits) refl
  number_opens v (suc (suc zero)) rest fits = rw (high_again 2 v rest fits) refl
  number_opens v (suc (suc (suc zero))) rest fits = absurd (omega arith)
  number_opens v (suc (suc (suc (suc zero)))) rest fits = rw (high_again 4 v rest fits) refl
  number_opens v (suc (suc (suc (suc (suc zero))))) rest fits = absurd (omega arith)
  number_opens v (suc (suc (suc (suc (suc (suc zero)))))) rest fits = absurd (omega arith)
  number_opens v (suc (suc (suc (suc (suc (suc (suc zero))))))) rest fits = absurd (omega arith)
  number_opens v (suc (suc (suc (suc (suc (suc (suc (suc zero)))))))) rest fits = rw (high_again 8 v rest fits) refl
  number_opens v (suc (suc (suc (suc (suc (suc (suc (suc (suc w))))))))) rest fits =
      absurd (omega (arith, number_limit_few (suc (suc (suc (suc (suc (suc (suc (suc (suc w))))))))) (omega arith)))

  local_opens : (k : ℕ) (rest : List ℕ) → k ≤ 7 → head_at g m ((96 + k) ∷ rest) ≡ Ok (follows (local k) 0 0 rest)
  unfolding head_at
  local_opens k rest few =
      let other : begins_name g.language (96 + k) ≡ false = grind (arith, nat_tests) in
      let back : 96 + k - 96 ≡ k = omega arith in
      let at : opcode_at g.language (96 + k) rest ≡ Ok (follows (local (96 + k - 96)) 0 0 rest) = grind (arith, nat_tests) in
      rw other (at ∙ rw back refl)

  arg_opens : (k : ℕ) (rest : List ℕ) → k ≤ 6 → head_at g m ((104 + k) ∷ rest) ≡ Ok (follows (arg k) 0 0 rest)
  unfolding head_at
  arg_opens k rest few =
      let other : begins_name g.language (104 + k) ≡ false = grind (arith, nat_tests) in
      let back : 104 + k - 104 ≡ k = omega arith in
      let at : opcode_at g.language (104 + k) rest ≡ Ok (follows (arg (104 + k - 104)) 0 0 rest) = grind (arith, nat_tests) in
      rw other (at ∙ rw back refl)

  -- where none may stand over a name, the rest begins no name
  abbrev OverUnnamed : Op → List ℕ → Type 0
  OverUnnamed o rest = takes_names (place Standard o) ≡ false → names_first rest ≡ false

  op_opens : (o : Op) (rest : List ℕ) → OverUnnamed o rest → has g.language (language_of o) ≡ true → head_at g m (opcode o ++ rest) ≡ Ok (follows (op o) 0 (operands o) rest)
  unfolding head_at op_of
  op_opens CreateField rest none within = refl
  op_opens Acquire rest none within = rw (within, none refl) refl
  op_opens Release rest none within = rw (within, none refl) refl
  op_opens o rest none within = ap (λ (t : Bool). cond t (Ok (follows (op o) 0 (operands o) rest)) (Err Bad)) within

  -- inside of an operator
  over_unnamed : (o : Op) (inside after : List ℕ) → IsUnnamed (place Standard o) inside → OverUnnamed o (inside ++ after)
  over_unnamed Acquire inside after none over = unnamed_first inside after none
  over_unnamed Release inside after none over = unnamed_first inside after none
  over_unnamed o inside after none over = absurd cc

  abbrev IsFurther : Type 0
  IsFurther = has g.language Standard ≡ true

  none_first : (t : Bool) → (t && false) ≡ false
  none_first true = refl
  none_first false = refl

  acquire_opens : (rest : List ℕ) → names_first rest ≡ true → head_at g m (91 ∷ 35 ∷ rest) ≡ named_at g.language acquire_after rest
  unfolding head_at
  acquire_opens rest first = rw (first, none_first (is_standard g.language)) refl

  release_opens : (rest : List ℕ) → names_first rest ≡ true → head_at g m (91 ∷ 39 ∷ rest) ≡ named_at g.language release_after rest
  unfolding head_at
  release_opens rest first = rw (first, none_first (is_standard g.language)) refl

  external_opens : (rest : List ℕ) → IsFurther → head_at g m (21 ∷ rest) ≡ named_at g.language external_after rest
  unfolding head_at
  external_opens rest more = rw more refl

  processor_opens : (rest : List ℕ) → IsFurther → head_at g m (91 ∷ 131 ∷ rest) ≡ framed_at g.language processor_inside rest
  unfolding head_at
  processor_opens rest more = rw more refl

  thermal_opens : (rest : List ℕ) → IsFurther → head_at g m (91 ∷ 133 ∷ rest) ≡ framed_at g.language thermal_inside rest
  unfolding head_at
  thermal_opens rest more = rw more refl

  indexed_opens : (rest : List ℕ) → IsFurther → head_at g m (91 ∷ 134 ∷ rest) ≡ framed_at g.language (index_inside g.language) rest
  unfolding head_at
  indexed_opens rest more = rw more refl

  banked_opens : (rest : List ℕ) → IsFurther → head_at g m (91 ∷ 135 ∷ rest) ≡ framed_at g.language (bank_inside g.language) rest
  unfolding head_at
  banked_opens rest more = rw more refl

  fatal_opens : (rest : List ℕ) → IsFurther → head_at g m (91 ∷ 50 ∷ rest) ≡ fatal_at rest
  unfolding head_at
  fatal_opens rest more = rw more refl

  -- a head that fits is opened where it is spelled, if a term stands there; where it has no children, nothing is inside
  head_again : (h : Head) (w n : ℕ) (inside after : List ℕ) → IsLegal g m h w n inside → IsPlain g.language m → (n ≡ 0 → inside ≡ []) → head_at g m (spelled h w n inside ++ after) ≡ Ok (opened g.language h w n inside after)
  unfolding head_at
  head_again (number v) w n inside after f plain nothing = rw (append_assoc (number_bytes v w) inside after, f.takes) (number_opens v w (inside ++ after) f.fits)
  head_again ones w n inside after f plain nothing = rw (f.fits, f.takes) refl
  head_again (string s) w n inside after f plain nothing =
      rw (f.fits, f.takes) (ap (λ (l : List ℕ). head_at g m (13 ∷ l)) (regroup s (0 ∷ []) inside after) ∙ rw (text_again s (inside ++ after) f.is_standard) refl)
  head_again (local k) w n inside after f plain nothing = rw (f.fits, f.takes) (local_opens k (inside ++ after) (leb-true k 7 (owned _ _ f.owns)))
  head_again (arg k) w n inside after f plain nothing = rw (f.fits, f.takes) (arg_opens k (inside ++ after) (leb-true k 6 (owned _ _ f.owns)))
  head_again (call name) w n inside after f plain nothing = rw (f.fits, append_assoc name inside after, f.takes) (call_opens name (inside ++ after) f.is_standard)
  head_again (def_scope name) w n inside after f plain nothing = plainly_opens g.language scope_inside w name inside after f.is_standard f.fits
  head_again (def_device name) w n inside after f plain nothing = plainly_opens g.language device_inside w name inside after f.is_standard f.fits
  head_again (def_method name args serialized) w n inside after f plain nothing =
      framed_opens g.language (method_inside g.language) w name (method_flags args serialized ∷ []) inside after f.is_standard f.fits ∙ method_opens g.language w name args serialized inside after (leb-true args 7 (owned _ _ f.owns))
  head_again (def_power_res name level order) w n inside after f plain nothing =
      framed_opens g.language power_inside w name (level ∷ le 2 order) inside after f.is_standard.0 f.fits ∙ rw (high_again 2 order inside f.is_standard.2) refl
  head_again (def_field name access lock update entries) w n inside after f plain nothing =
      let mid = field_flags access lock update ∷ entries_bytes entries in
      let none : inside ≡ [] = nothing f.takes in
      let fits : FrameFits w ((name ++ mid) ++ []) = subst (λ (l : List ℕ). FrameFits w ((name ++ mid) ++ (l ++ []))) none f.fits.1 in
      rw (none, f.takes)
      (framed_opens g.language (field_inside g.language) w name mid [] after f.is_standard.0 fits ∙ ap (λ (l : List ℕ). field_inside g.language w name l after) (append-nil mid)
      ∙ field_opens g.language w name access lock update entries after f.is_standard.1 f.is_standard.2 f.is_standard.3 f.is_standard.4 f.fits.0)
  head_again (def_op_region name space) w n inside after f plain nothing =
      rw (f.fits, f.takes) (ap (λ (l : List ℕ). head_at g m (91 ∷ 128 ∷ l)) (regroup name (space ∷ []) inside after) ∙ named_opens g.language region_after name (space ∷ (inside ++ after)) f.is_standard.0)
  head_again (def_name name) w n inside after f plain nothing = rw (f.fits, f.takes) (ap (λ (l : List ℕ). head_at g m (8 ∷ l)) (append_assoc name inside after) ∙ named_opens g.language define_after name (inside ++ after) f.is_standard)
  head_again (def_mutex name level) w n inside after f plain nothing =
      rw (f.fits, f.takes) (ap (λ (l : List ℕ). head_at g m (91 ∷ 1 ∷ l)) (regroup name (level ∷ []) inside after) ∙ named_opens g.language mutex_after name (level ∷ (inside ++ after)) f.is_standard.0)
  head_again (def_acquire name timeout) w n inside after f plain nothing =
      rw (f.fits, f.takes)
      (ap (λ (l : List ℕ). head_at g m (91 ∷ 35 ∷ l)) (regroup name (le 2 timeout) inside after) ∙ acquire_opens (name ++ (le 2 timeout ++ (inside ++ after))) (name_first g.language name (le 2 timeout ++ (inside ++ after)) f.is_standard.0) ∙ named_opens g.language acquire_after name (le 2 timeout ++ (inside ++ after)) f.is_standard.0
      ∙ rw (high_again 2 timeout (inside ++ after) f.is_standard.1) refl)
  head_again (def_release name) w n inside after f plain nothing =
      rw (f.fits, f.takes)
      (ap (λ (l : List ℕ). head_at g m (91 ∷ 39 ∷ l)) (append_assoc name inside after) ∙ release_opens (name ++ (inside ++ after)) (name_first g.language name (inside ++ after) f.is_standard)
      ∙ named_opens g.language release_after name (inside ++ after) f.is_standard)
  head_again (def_buffer bytes) w n inside after f plain nothing = rw (frame_again w (inside ++ bytes) after f.fits) refl
  head_again def_package w n inside after f plain nothing = rw (frame_again w (n ∷ (inside ++ [])) after f.fits, append-nil inside) (package_choice (has g.language Standard) w n inside after)
  head_again (def_external name kind args) w n inside after f plain nothing =
      rw (f.fits, f.takes) (ap (λ (l : List ℕ). head_at g m (21 ∷ l)) (regroup name (kind ∷ args ∷ []) inside after) ∙ external_opens (name ++ (kind ∷ args ∷ (inside ++ after))) f.is_standard.0
      ∙ named_opens g.language external_after name (kind ∷ args ∷ (inside ++ after)) f.is_standard.1)
  head_again (def_leveled_method name args serialized level) w n inside after f plain nothing =
      framed_opens g.language (method_inside g.language) w name (leveled_flags args serialized level ∷ []) inside after f.is_standard.1 f.fits
      ∙ leveled_opens g.language w name args serialized level inside after f.is_standard.0 (leb-true args 7 (owned _ _ f.owns)) f.is_standard.2
  head_again (def_processor name id address size) w n inside after f plain nothing =
      let mid = id ∷ (le 4 address ++ size ∷ []) in
      processor_opens (with_length w ((name ++ mid) ++ (inside ++ [])) ++ after) f.is_standard.0
      ∙ framed_opens g.language processor_inside w name mid inside after f.is_standard.1 f.fits ∙ rw (high_again 4 address (size ∷ inside) f.is_standard.3) refl
  head_again (def_thermal_zone name) w n inside after f plain nothing =
      thermal_opens (with_length w (name ++ (inside ++ [])) ++ after) f.is_standard.0 ∙ plainly_opens g.language thermal_inside w name inside after f.is_standard.1 f.fits
  head_again (def_roomy_package room) w n inside after f plain nothing = rw (frame_again w (room ∷ (inside ++ [])) after f.fits, append-nil inside, f.is_standard.0) refl
  head_again (def_index_field index name access lock update entries) w n inside after f plain nothing =
      let mid = name ++ field_flags access lock update ∷ entries_bytes entries in
      let none : inside ≡ [] = nothing f.takes in
      let fits : FrameFits w ((index ++ mid) ++ []) = subst (λ (l : List ℕ). FrameFits w ((index ++ mid) ++ (l ++ []))) none f.fits.1 in
      rw (none, f.takes)
      (indexed_opens (with_length w ((index ++ mid) ++ []) ++ after) f.is_standard.0
      ∙ framed_opens g.language (index_inside g.language) w index mid [] after f.is_standard.1 fits ∙ ap (λ (l : List ℕ). index_inside g.language w index l after) (append-nil mid)
      ∙ index_opens g.language w index name access lock update entries after f.is_standard.2 f.is_standard.3 f.is_standard.4 f.is_standard.5 f.is_standard.6 f.fits.0)
  head_again (def_bank_field name bank access lock update entries) w n inside after f plain nothing =
      let tail = field_flags access lock update ∷ entries_bytes entries in
      let content = (name ++ bank) ++ (inside ++ tail) in
      banked_opens (with_length w content ++ after) f.is_standard.0
      ∙ rw (frame_again w content after f.fits.1, append_assoc name bank (inside ++ tail), name_in_again g.language name (bank ++ (inside ++ tail)) f.is_standard.1, name_in_again g.language bank (inside ++ tail) f.is_standard.2) refl
  head_again def_var_package w n inside after f plain nothing = rw (frame_again w (inside ++ []) after f.fits, append-nil inside) refl
  head_again def_if w n inside after f plain nothing = rw (frame_again w (inside ++ []) after f.fits, append-nil inside) refl
  head_again def_while w n inside after f plain nothing = rw (frame_again w (inside ++ []) after f.fits, append-nil inside) refl
  head_again def_else w n inside after f plain nothing = rw (frame_again w (inside ++ []) after f.fits, append-nil inside) refl
  head_again (op o) w n inside after f plain nothing =
      rw (f.fits, append_assoc (opcode o) inside after, f.takes) (op_opens o (inside ++ after) (over_unnamed o inside after f.over) f.is_standard)
  head_again (def_fatal kind code) w n inside after f plain nothing =
      rw (f.fits, f.takes)
      (ap (λ (l : List ℕ). head_at g m (91 ∷ 50 ∷ kind ∷ l)) (append_assoc (le 4 code) inside after) ∙ fatal_opens (kind ∷ (le 4 code ++ (inside ++ after))) f.is_standard.0
      ∙ rw (high_again 4 code (inside ++ after) f.is_standard.2) refl)
  head_again (match_test k) w n inside after f plain nothing = let clash : true ≡ false = sym f.stands ∙ plain.0 in absurd cc
  head_again (def_timeout t) w n inside after f plain nothing = let clash : true ≡ false = sym f.stands.1 ∙ plain.1 in absurd cc
  head_again (unread error bytes) w n inside after f plain nothing = absurd f.is_standard

  -- the same in every place
  pub open_again : (h : Head) (w n : ℕ) (inside after : List ℕ) → IsLegal g m h w n inside → (n ≡ 0 → inside ≡ []) → open_at g m (spelled h w n inside ++ after) ≡ Ok (opened g.language h w n inside after)
  unfolding open_at
  open_again (match_test k) w n inside after f nothing = rw (f.stands, f.fits, f.takes, f.is_standard.0, le-leb k 5 f.is_standard.1) refl
  open_again (def_timeout t) w n inside after f nothing =
      rw (f.stands.0, f.stands.1, f.fits, f.takes, append_assoc (le 2 t) inside after, f.is_standard.0, high_again 2 t (inside ++ after) f.is_standard.1) refl
  open_again h w n inside after f nothing = rw (f.stands.0, f.stands.1) (head_again h w n inside after f f.stands nothing)
