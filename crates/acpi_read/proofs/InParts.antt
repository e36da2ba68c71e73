-- Terms that are read as far as they can be.
use Rattle.std.proofs.Common.{◌≡◌, ℕ, zero, suc, ◌-◌, ◌<◌, ◌≤◌, Bool, true, false, List, [], ◌∷◌, ◌++◌, length, Result, Ok, Err, refl, sym, ap, subst, ◌∙◌, arith}
use Rattle.std.specs.Prelude.{IfOk}
use Rattle.std.proofs.lemmas.List.{append-nil, append_assoc, length-append}
use Rattle.acpi_base.specs.Bytes.{AreBytes}
use Rattle.acpi_term.specs.declared.mode.Mode.TheVariants.{Term}
use Rattle.acpi_term.specs.declared.read_error.ReadError.{ReadError}
use Rattle.acpi_term.specs.declared.read_error.ReadError.TheVariants as errors
use Rattle.acpi_term.specs.Language.{Grammar}
use Rattle.acpi_term.specs.Tree.{Head, number, ones, string, local as local_object, arg, call, def_scope, def_device, def_method, def_power_res, def_field, def_op_region, def_name, def_mutex, def_acquire, def_release, def_buffer, def_package, def_var_package, def_if, def_while, def_else, op, def_external, def_leveled_method, def_processor, def_thermal_zone, def_roomy_package, def_index_field, def_bank_field, def_fatal, match_test, unread, Terms, end, term, one, count, depth}
use Rattle.acpi_term.specs.View.{Parts}
use Rattle.acpi_term.specs.Spelling.{inner, IsLegal, AreLegal, spelled, spelling}
use Rattle.acpi_term.specs.Reading.{Fault, Deep, Bad, Opened, follows, fills, packs, rooms, begins, banks, least_of, open_at, counted, term_at}
use Rattle.acpi_term.proofs.Steps.{ok_is}
use Rattle.acpi_term.proofs.Again.{head_some, nothing_inside}
use Rattle.acpi_term.proofs.Opens.{opened, open_again}
use Rattle.acpi_term.proofs.Openings.{OpenTakes, open_takes}
use Rattle.acpi_term.proofs.Taken.{Found, OneTaken, term_takes}
use Rattle.acpi_term.proofs.Unique.{first_reads}
use Rattle.acpi_read.specs.Cause.{FailsBy, Gives, IsPlaced, cause_kind, error_kind}
use Rattle.acpi_read.specs.TermStart.{seen, block_head, block_width, first_head, first_width, LiesWithin}
use Rattle.acpi_read.specs.declared.terms.cause.Cause.{Cause}
use Rattle.acpi_read.specs.declared.terms.cause.Cause.TheVariants as causes
use Rattle.acpi_read.specs.declared.terms.open.TermStart.{TermStart}
use Rattle.acpi_read.specs.declared.terms.open.Block.{Block}
use Rattle.acpi_read.specs.declared.terms.open.Block.TheVariants as blocks
use Rattle.acpi_read.specs.declared.terms.open.FirstAndBlock.{FirstAndBlock}
use Rattle.acpi_read.specs.declared.terms.in_part.ListFrame.{ListFrame}
use Rattle.acpi_read.specs.declared.terms.in_part.ListFrame.TheVariants as frames
use Rattle.acpi_read.proofs.Closings.{block_least, first_least}
use Rattle.acpi_read.specs.InPart.{Content, terms, first_and_terms, content, has_terms, opens_terms, IsFrameOf, IsFrameAt, IsFault, IsTerm, BeginNoTerm, IsBefore, BeginNoFrame, BeginNoList, IsUnreadTerm, IsFrame, AreInPart, IsOneInPart, IsListInPart, IsBranch}
use Rattle.acpi_read.proofs.TermLists.{joins, and_one, joins_more, joins_end}

-- ---- lists of terms

spelling_joins : (a b : Terms) → spelling (joins a b) ≡ spelling a ++ spelling b
spelling_joins end b = refl
spelling_joins (term h w c o) b =
    ap (λ (l : List ℕ). spelled h w (count c) (spelling c) ++ l) (spelling_joins o b) ∙ sym (append_assoc (spelled h w (count c) (spelling c)) (spelling o) (spelling b))

-- an error of reading a term that isn't out of memory
pub is_fault : (to : ℕ) (e : ReadError) → IsPlaced to e → (e ≡ errors.Memory → ⊥) → IsFault to e
is_fault to errors.Memory placed other = absurd (other refl)
is_fault to e placed other = placed

block_content : (f : Block) → content (block_head f) ≡ terms
block_content (blocks.Scope w name) = refl
block_content (blocks.Device w name) = refl
block_content (blocks.Method w name args serialized) = refl
block_content (blocks.PowerResource w name level order) = refl
block_content (blocks.Else w) = refl
block_content (blocks.LeveledMethod w name args serialized level) = refl
block_content (blocks.Processor w name id address size) = refl
block_content (blocks.ThermalZone w name) = refl

module _ (g : Grammar) where
  -- ---- what is read whole is read in part

  -- a term before others, if its children are read in part wherever they are a list
  term_grows : (d to : ℕ) (h : Head) (w : ℕ) (c o : Terms) → IsLegal g Term h w (count c) (spelling c) → AreLegal g (inner g.language h) c → depth c < d
      → (inner g.language h ≡ Term → AreInPart g (d - 1) (to - length (spelling o)) false c) → (inner g.language h ≡ Term → AreInPart g (d - 1) (to - length (spelling o)) true c) → AreInPart g d to false o
      → AreInPart g d to false (term h w c o)
  term_grows d to (def_scope name) w c o f k deep all first others = (((omega arith, f), all refl), others)
  term_grows d to (def_device name) w c o f k deep all first others = (((omega arith, f), all refl), others)
  term_grows d to (def_method name args serialized) w c o f k deep all first others = (((omega arith, f), all refl), others)
  term_grows d to (def_power_res name level order) w c o f k deep all first others = (((omega arith, f), all refl), others)
  term_grows d to def_else w c o f k deep all first others = (((omega arith, f), all refl), others)
  term_grows d to (def_leveled_method name args serialized level) w c o f k deep all first others = (((omega arith, f), all refl), others)
  term_grows d to (def_processor name id address size) w c o f k deep all first others = (((omega arith, f), all refl), others)
  term_grows d to (def_thermal_zone name) w c o f k deep all first others = (((omega arith, f), all refl), others)
  term_grows d to def_if w c o f k deep all first others = (((omega arith, f), first refl), others)
  term_grows d to def_while w c o f k deep all first others = (((omega arith, f), first refl), others)
  term_grows d to (unread error hole) w c o f k deep all first others = absurd f.is_standard
  term_grows d to h w c o f k deep all first others = (((f, k, tt), omega arith), others)

  legal_in_part : (ts : Terms) (d to : ℕ) → AreLegal g Term ts → depth ts ≤ d → AreInPart g d to false ts × AreInPart g d to true ts
  legal_in_part end d to f deep = (tt, tt)
  legal_in_part (term h w c o) d to f deep =
      let others = (legal_in_part o d to f.2 (omega (arith, deep))).0 in
      let inside = λ (e : inner g.language h ≡ Term). legal_in_part c (d - 1) (to - length (spelling o)) (subst (λ m. AreLegal g m c) e f.1) (omega (arith, deep)) in (
        term_grows d to h w c o f.0 f.1 (omega (arith, deep)) (λ e. (inside e).0) (λ e. (inside e).1) others,
        (((f.0, f.1, tt), omega (arith, deep)), others),
      )

  -- a term that was read
  pub taken_is_one : (d to : ℕ) (bytes : List ℕ) (h : Head) (w : ℕ) (c : Terms) (after : List ℕ) → OneTaken g d Term bytes (h, w, c, after) → IsOneInPart g d to bytes h w c after
  taken_is_one d to bytes h w c after t =
      let front = spelled h w (count c) (spelling c) in
      let some : 0 < length front = head_some g Term h w (count c) (spelling c) t.head in
      let deep : depth c < d = t.deep in
      record {
        parts = t.parts ∙ ap (λ (l : List ℕ). l ++ after) (sym (append-nil front));
        fits = t.rest_fits;
        shorter = omega (arith, ap length t.parts, length-append front after, some);
        grows = λ others o e.
            let inside = λ (m : inner g.language h ≡ Term). legal_in_part c (d - 1) (to - length (spelling others)) (subst (λ x. AreLegal g x c) m t.children) (omega (arith, deep)) in
            term_grows d to h w c others t.head t.children deep (λ m. (inside m).0) (λ m. (inside m).1) o;
      }

  -- ---- frames

  frame_some : (d : ℕ) (h : Head) (w : ℕ) (c o : Terms) → IsFrame g d h w c → spelling (term h w c o) ≡ [] → ⊥
  frame_some d h w c o f e = omega (arith, ap length e, length-append (spelled h w (count c) (spelling c)) (spelling o), head_some g Term h w (count c) (spelling c) f.1)

  term_some : (d : ℕ) (h : Head) (w : ℕ) (c o : Terms) → IsTerm g d h w c → spelling (term h w c o) ≡ [] → ⊥
  term_some d h w c o f e = omega (arith, ap length e, length-append (spelled h w (count c) (spelling c)) (spelling o), head_some g Term h w (count c) (spelling c) f.0.0)

  hole_some : (d to : ℕ) (error : ReadError) (hole : List ℕ) (w : ℕ) (c o : Terms) → IsUnreadTerm g d to error hole w c o → spelling (term (unread error hole) w c o) ≡ [] → ⊥
  hole_some d to error hole w c o f e =
      omega (arith, ap length e, length-append (hole ++ spelling c) (spelling o), length-append hole (spelling c), f.some)

  -- a term has at least a byte
  one_some : (d to : ℕ) (h : Head) (w : ℕ) (c o : Terms) → AreInPart g d to false (term h w c o) → spelling (term h w c o) ≡ [] → ⊥
  one_some d to (def_scope name) w c o p e = frame_some d (def_scope name) w c o p.0.0 e
  one_some d to (def_device name) w c o p e = frame_some d (def_device name) w c o p.0.0 e
  one_some d to (def_method name args serialized) w c o p e = frame_some d (def_method name args serialized) w c o p.0.0 e
  one_some d to (def_power_res name level order) w c o p e = frame_some d (def_power_res name level order) w c o p.0.0 e
  one_some d to def_else w c o p e = frame_some d def_else w c o p.0.0 e
  one_some d to (def_leveled_method name args serialized level) w c o p e = frame_some d (def_leveled_method name args serialized level) w c o p.0.0 e
  one_some d to (def_processor name id address size) w c o p e = frame_some d (def_processor name id address size) w c o p.0.0 e
  one_some d to (def_thermal_zone name) w c o p e = frame_some d (def_thermal_zone name) w c o p.0.0 e
  one_some d to def_if w c o p e = frame_some d def_if w c o p.0.0 e
  one_some d to def_while w c o p e = frame_some d def_while w c o p.0.0 e
  one_some d to (unread error hole) w c o p e = hole_some d to error hole w c o p.0 e
  one_some d to h w c o p e = term_some d h w c o p.0 e

  none_spelled : (d to : ℕ) (ts : Terms) → AreInPart g d to false ts → spelling ts ≡ [] → ts ≡ end
  none_spelled d to end p e = refl
  none_spelled d to (term h w c o) p e = absurd (one_some d to h w c o p e)

  -- a frame before others
  frame_grows : (d to : ℕ) (h : Head) (w : ℕ) (c o : Terms) → IsFrame g d h w c → content h ≡ terms → AreInPart g (d - 1) (to - length (spelling o)) false c → AreInPart g d to false o → AreInPart g d to false (term h w c o)
  frame_grows d to h w c o f is inside others = rw is (((f, inside)), others)

  branch_grows : (d to : ℕ) (h : Head) (w : ℕ) (c o : Terms) → IsFrame g d h w c → content h ≡ first_and_terms → AreInPart g (d - 1) (to - length (spelling o)) true c → AreInPart g d to false o → AreInPart g d to false (term h w c o)
  branch_grows d to h w c o f is inside others = rw is ((f, inside), others)

  module _ (d to : ℕ) (bytes : List ℕ) (h : Head) (w : ℕ) (inside after : List ℕ) (opens : OpenTakes g Term bytes (fills h w inside after)) (some : 0 < d) (c : Terms) (enough : least_of h ≤ count c) where
    framed : (first : Bool) → IsListInPart g (d - 1) (to - length after) first inside c → (bytes ≡ spelled h w (count c) (spelling c) ++ after) × IsLegal g Term h w (count c) (spelling c)
    framed first p = subst (λ (l : List ℕ). (bytes ≡ spelled h w (count c) l ++ after) × IsLegal g Term h w (count c) l) p.parts (opens.2 (count c) enough)

    from_frame : (first : Bool) → IsListInPart g (d - 1) (to - length after) first inside c
        → ((o : Terms) → IsFrame g d h w c → AreInPart g (d - 1) (to - length (spelling o)) first c → AreInPart g d to false o → AreInPart g d to false (term h w c o)) → IsOneInPart g d to bytes h w c after
    from_frame first p grows =
        let f = framed first p in
        let front = spelled h w (count c) (spelling c) in
        let long : 0 < length front = head_some g Term h w (count c) (spelling c) f.1 in
        record {
          parts = f.0 ∙ ap (λ (l : List ℕ). l ++ after) (sym (append-nil front));
          fits = opens.1;
          shorter = omega (arith, ap length f.0, length-append front after, long);
          grows = λ o part e. grows o (omega arith, f.1) (subst (λ (l : List ℕ). AreInPart g (d - 1) (to - length l) first c) (sym e) p.in_part) part;
        }

    pub frame_is_one : content h ≡ terms → IsListInPart g (d - 1) (to - length after) false inside c → IsOneInPart g d to bytes h w c after
    frame_is_one is p = from_frame false p (λ o f inside others. frame_grows d to h w c o f is inside others)

    pub branch_is_one : content h ≡ first_and_terms → IsListInPart g (d - 1) (to - length after) true inside c → IsOneInPart g d to bytes h w c after
    branch_is_one is p = from_frame true p (λ o f inside others. branch_grows d to h w c o f is inside others)

  -- ---- what can't be read

  pub no_term : (d : ℕ) (hole : List ℕ) (f : Fault) → term_at g d Term hole ≡ Err f → BeginNoTerm g d hole
  unfolding counted
  no_term d hole f failed h w c rest t e =
      let reads = first_reads g Term d (one h w c) rest t.0 t.1 in
      let again : counted (term_at g d) 1 Term hole ≡ Ok (one h w c, rest) = ap (counted (term_at g d) 1 Term) e ∙ reads in
      let not : counted (term_at g d) 1 Term hole ≡ Err f = rw failed refl in
      let clash : ◌≡◌ {A = Result (Terms × List ℕ) Fault} (Ok (one h w c, rest)) (Err f) = sym again ∙ not in
      cc

  -- the head that was opened has no list inside, or nothing that may be before the list begins its bytes
  abbrev pub HasNoList : ℕ → Result Opened Fault → Type 0
  HasNoList d (Err f) = Unit {0}
  HasNoList d (Ok (fills h w inside after)) = BeginNoList g d h inside
  HasNoList d (Ok o) = Unit {0}

  no_list : (d : ℕ) (hole : List ℕ) (r : Result Opened Fault) → open_at g Term hole ≡ r → HasNoList (d - 1) r
      → (h : Head) (w : ℕ) (first : Terms) (inside rest : List ℕ) → IsBefore g (d - 1) (content h) first → open_at g Term hole ≡ Ok (fills h w (spelling first ++ inside) rest) → ⊥
  no_list d hole r opened none h w first inside rest before e = (subst (HasNoList (d - 1)) (sym opened ∙ e) none) first inside before refl

  with_list : (d : ℕ) (hole : List ℕ) (r : Result Opened Fault) → open_at g Term hole ≡ r → HasNoList (d - 1) r
      → (h : Head) (w : ℕ) (first : Terms) (inside rest : List ℕ) → IsBefore g (d - 1) (content h) first → open_at g Term hole ≡ Ok (opened g.language h w 1 (spelling first ++ inside) rest) → ⊥
  with_list d hole r o none (def_scope name) w first inside rest before e = no_list d hole r o none (def_scope name) w first inside rest before e
  with_list d hole r o none (def_device name) w first inside rest before e = no_list d hole r o none (def_device name) w first inside rest before e
  with_list d hole r o none (def_method name args serialized) w first inside rest before e = no_list d hole r o none (def_method name args serialized) w first inside rest before e
  with_list d hole r o none (def_power_res name level order) w first inside rest before e = no_list d hole r o none (def_power_res name level order) w first inside rest before e
  with_list d hole r o none def_else w first inside rest before e = no_list d hole r o none def_else w first inside rest before e
  with_list d hole r o none (def_leveled_method name args serialized level) w first inside rest before e = no_list d hole r o none (def_leveled_method name args serialized level) w first inside rest before e
  with_list d hole r o none (def_processor name id address size) w first inside rest before e = no_list d hole r o none (def_processor name id address size) w first inside rest before e
  with_list d hole r o none (def_thermal_zone name) w first inside rest before e = no_list d hole r o none (def_thermal_zone name) w first inside rest before e
  with_list d hole r o none def_if w first inside rest before e = no_list d hole r o none def_if w first inside rest before e
  with_list d hole r o none def_while w first inside rest before e = no_list d hole r o none def_while w first inside rest before e
  with_list d hole r o none h w first inside rest before e = absurd before

  pub no_frame : (d : ℕ) (hole : List ℕ) (r : Result Opened Fault) → open_at g Term hole ≡ r → HasNoList (d - 1) r → BeginNoFrame g d hole
  no_frame d hole r opened none h w first inside rest some before legal e =
      let all = spelling first ++ inside in
      let opens = ap (open_at g Term) e ∙ open_again g Term h w 1 all rest legal (λ z. cc) in
      with_list d hole r opened none h w first inside rest before opens

  -- a hole is the last term of a list
  pub hole_is_one : (d to : ℕ) (error : ReadError) (hole : List ℕ) → IsFault to error → 0 < length hole → BeginNoTerm g d hole → BeginNoFrame g d hole → IsOneInPart g d to hole (unread error hole) 0 end []
  hole_is_one d to error hole fault some none frameless = record {
    parts = sym (append-nil hole) ∙ sym (append-nil (hole ++ [])) ∙ sym (append-nil ((hole ++ []) ++ []));
    fits = tt;
    shorter = some;
    grows = λ others o e. (
      record {
        fault = fault;
        some = some;
        no_term = none;
        no_frame = frameless;
        no_width = refl;
        no_children = refl;
        last = none_spelled d to others o e;
      },
      o,
    );
  }

  -- ---- a first term and a list

  first_none : (d : ℕ) (inside : List ℕ) (f : Fault) → term_at g d Term inside ≡ Err f → (first : Terms) (more : List ℕ) → IsBefore g d first_and_terms first → inside ≡ spelling first ++ more → ⊥
  first_none d inside f failed end more before e = absurd cc
  first_none d inside f failed (term h w c end) more before e = no_term d inside f failed h w c more (before.1, before.2) e
  first_none d inside f failed (term h w c (term h' w' c' o)) more before e = absurd cc

  pub not_before : (d : ℕ) (h : Head) (inside : List ℕ) (f : Fault) → content h ≡ first_and_terms → term_at g d Term inside ≡ Err f → BeginNoList g d h inside
  not_before d h inside f is failed first more before e = first_none d inside f failed first more (subst (λ k. IsBefore g d k first) is before) e

  -- ---- the loop

  pub record PartRead (d to : ℕ) (bytes : List ℕ) (front : Terms) (rest : List ℕ) : Type 0 where
    pub rest_fits : AreBytes rest
    pub within : length rest ≤ length bytes
    pub parts : bytes ≡ spelling front ++ rest
    pub grows : (o : Terms) → AreInPart g d to false o → spelling o ≡ rest → AreInPart g d to false (joins front o)

  pub part_begin : (d to : ℕ) (bytes : List ℕ) → AreBytes bytes → PartRead d to bytes end bytes
  part_begin d to bytes fits = record { rest_fits = fits; within = omega arith; parts = refl; grows = λ o p e. p }

  pub part_go_on : (d to : ℕ) (bytes : List ℕ) (front : Terms) (rest : List ℕ) → PartRead d to bytes front rest → (h : Head) (w : ℕ) (c : Terms) (after : List ℕ) → IsOneInPart g d to rest h w c after → PartRead d to bytes (and_one front h w c) after
  part_go_on d to bytes front rest p h w c after t = record {
    rest_fits = t.fits;
    within = omega (arith, p.within, t.shorter);
    parts = p.parts ∙ ap (λ (l : List ℕ). spelling front ++ l) t.parts ∙ sym (append_assoc (spelling front) (spelling (one h w c)) after) ∙ ap (λ (l : List ℕ). l ++ after) (sym (spelling_joins front (one h w c)));
    grows = λ o q e. subst (AreInPart g d to false) (joins_more front h w c o) (p.grows (term h w c o) (t.grows o q e)
        (ap (λ (l : List ℕ). spelled h w (count c) (spelling c) ++ l) e ∙ ap (λ (l : List ℕ). l ++ after) (sym (append-nil (spelled h w (count c) (spelling c)))) ∙ sym t.parts));
  }

  pub part_end : (d to : ℕ) (bytes : List ℕ) (front : Terms) (rest : List ℕ) → PartRead d to bytes front rest → rest ≡ [] → IsListInPart g d to false bytes front
  part_end d to bytes front rest p none = record {
    parts = p.parts ∙ ap (λ (l : List ℕ). spelling front ++ l) none ∙ append-nil (spelling front);
    in_part = subst (AreInPart g d to false) (joins_end front) (p.grows end tt (sym none));
  }

  -- ---- what the reader found

  pub read_is_one : (d to : ℕ) (bytes : List ℕ) (x : Found) → AreBytes bytes → term_at g d Term bytes ≡ Ok x → IsOneInPart g d to bytes x.0 x.1 x.2 x.3
  read_is_one d to bytes x fits read = taken_is_one d to bytes x.0 x.1 x.2 x.3 ((term_takes g d).takes Term bytes x fits read)

  fault_of : (e : ReadError) (r : Result Found Fault) → (e ≡ errors.Memory → ⊥) → FailsBy (error_kind e) r → (f : Fault) × (r ≡ Err f)
  fault_of errors.Memory r other fails = absurd (other refl)
  fault_of (errors.TooDeep offset) r other fails = (Deep, fails)
  fault_of e r other fails = (Bad, fails)

  pub error_is_one : (d to : ℕ) (bytes : List ℕ) (e : ReadError) → FailsBy (error_kind e) (term_at g d Term bytes) → IsPlaced to e → (e ≡ errors.Memory → ⊥) → 0 < length bytes → BeginNoFrame g d bytes
      → IsOneInPart g d to bytes (unread e bytes) 0 end []
  error_is_one d to bytes e fails placed other some frameless =
      let f = fault_of e (term_at g d Term bytes) other fails in
      hole_is_one d to e bytes (is_fault to e placed other) some (no_term d bytes f.0 f.1) frameless

  pub error_is_before : (d : ℕ) (h : Head) (inside : List ℕ) (e : ReadError) → content h ≡ first_and_terms → (e ≡ errors.Memory → ⊥) → FailsBy (error_kind e) (term_at g d Term inside) → BeginNoList g d h inside
  error_is_before d h inside e is other fails =
      let f = fault_of e (term_at g d Term inside) other fails in
      not_before d h inside f.0 is f.1

  pub branch_is : (d to : ℕ) (inside : List ℕ) (x : Found) (others : Terms) → AreBytes inside → term_at g d Term inside ≡ Ok x → IsListInPart g d to false x.3 others
      → IsListInPart g d to true inside (term x.0 x.1 x.2 others)
  branch_is d to inside x others fits read list_is =
      let t = (term_takes g d).takes Term inside x fits read in
      let deep : depth x.2 < d = t.deep in
      record {
        parts = t.parts ∙ ap (λ (l : List ℕ). spelled x.0 x.1 (count x.2) (spelling x.2) ++ l) list_is.parts;
        in_part = (((t.head, t.children, tt), omega arith), list_is.in_part);
      }

  -- ---- frames that were opened

  content_none : (d : ℕ) (k : Content) → has_terms k ≡ false → (first : Terms) → IsBefore g d k first → ⊥
  content_none d terms none first before = absurd cc
  content_none d first_and_terms none first before = absurd cc
  content_none d k none first before = before

  without_terms : (d : ℕ) (bytes : List ℕ) (o : Opened) → open_at g Term bytes ≡ Ok o → opens_terms o ≡ false → HasNoList (d - 1) (Ok o)
  without_terms d bytes (follows h w n rest) opened none = tt
  without_terms d bytes (fills h w inside after) opened none = λ first more before e. content_none (d - 1) (content h) none first before
  without_terms d bytes (packs w n inside after) opened none = tt
  without_terms d bytes (rooms w n inside after) opened none = tt
  without_terms d bytes (begins w content after) opened none = tt
  without_terms d bytes (banks w name bank content after) opened none = tt

  frame_is_at : (d : ℕ) (bytes : List ℕ) (o : Opened) (f : ListFrame) → open_at g Term bytes ≡ Ok o → IsFrameOf o f → LiesWithin (length bytes) o → IsFrameAt g d bytes f
  frame_is_at d bytes o (frames.Terms head inside after) opened is lies = (opened ∙ ap (λ (x : Opened). Ok x) is, subst (LiesWithin (length bytes)) is lies)
  frame_is_at d bytes o (frames.FirstAndTerms start inside after) opened is lies = (opened ∙ ap (λ (x : Opened). Ok x) is.0, is.1, subst (LiesWithin (length bytes)) is.0 lies)
  frame_is_at d bytes o frames.Other opened is lies = no_frame d bytes (Ok o) opened (without_terms d bytes o opened is)

  pub opened_frame : (d : ℕ) (bytes : List ℕ) (x : TermStart) (f : ListFrame) → Gives seen (Ok x) (open_at g Term bytes) → IsFrameOf (seen x) f → LiesWithin (length bytes) (seen x) → IsFrameAt g d bytes f
  opened_frame d bytes x f opened is lies = frame_is_at d bytes (seen x) f opened is lies

  pub unopened_frame : (d : ℕ) (bytes : List ℕ) (e : Cause) → (e ≡ causes.Memory → ⊥) → FailsBy (cause_kind e) (open_at g Term bytes) → BeginNoFrame g d bytes
  unopened_frame d bytes causes.Memory other fails = absurd (other refl)
  unopened_frame d bytes e other fails = no_frame d bytes (Err Bad) fails tt

  pub none_at_zero : (bytes : List ℕ) (d : ℕ) → d ≡ 0 → BeginNoFrame g d bytes
  none_at_zero bytes d is h w first inside rest some before legal e = absurd (omega arith)

  module _ (d to : ℕ) (bytes : List ℕ) (fits : AreBytes bytes) (some : 0 < d) where
    pub terms_are_one : (f : Block) (inside after : List ℕ) (c : Terms) → open_at g Term bytes ≡ Ok (fills (block_head f) (block_width f) inside after)
        → IsListInPart g (d - 1) (to - length after) false inside c → IsOneInPart g d to bytes (block_head f) (block_width f) c after
    terms_are_one f inside after c opened list_is =
        frame_is_one d to bytes (block_head f) (block_width f) inside after (open_takes g Term bytes _ fits opened) some c (omega (arith, block_least f)) (block_content f) list_is

    pub branch_is_found : (f : FirstAndBlock) (inside after : List ℕ) (h : Head) (w : ℕ) (c : Terms) → content (first_head f) ≡ first_and_terms → open_at g Term bytes ≡ Ok (fills (first_head f) (first_width f) inside after)
        → IsBranch g (d - 1) (to - length after) (first_head f) (first_width f) inside h w c → IsOneInPart g d to bytes h w c after
    branch_is_found f inside after h w c is opened b =
        subst (λ (x : Head). IsOneInPart g d to bytes x w c after) (sym b.head) (subst (λ (x : ℕ). IsOneInPart g d to bytes (first_head f) x c after) (sym b.width)
        (branch_is_one d to bytes (first_head f) (first_width f) inside after (open_takes g Term bytes _ fits opened) some c (omega (arith, first_least f, b.some)) is b.is))

    pub no_branch_found : (f : FirstAndBlock) (inside after : List ℕ) → open_at g Term bytes ≡ Ok (fills (first_head f) (first_width f) inside after) → BeginNoList g (d - 1) (first_head f) inside → BeginNoFrame g d bytes
    no_branch_found f inside after opened none = no_frame d bytes (Ok (fills (first_head f) (first_width f) inside after)) opened none

  pub hole_found : {X E : Type 0} (view : X → Parts) (after : X → List ℕ) (r : Result X E) (d to : ℕ) (bytes : List ℕ) (e : ReadError) → IfOk r (λ x. view x ≡ (unread e bytes, 0, end)) → IfOk r (λ x. after x ≡ [])
      → IsOneInPart g d to bytes (unread e bytes) 0 end [] → IfOk r (λ x. IsOneInPart g d to bytes (view x).0 (view x).1 (view x).2 (after x))
  hole_found view after (Ok x) d to bytes e is none one_is = rw (is, none) one_is
  hole_found view after (Err x) d to bytes e is none one_is = tt
