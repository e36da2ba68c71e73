-- Terms that are read in part, if all of their bytes are read.
use Rattle.std.proofs.Common.{◌≡◌, ℕ, ◌-◌, ◌≤◌, ◌||◌, Bool, true, false, List, [], ◌∷◌, length, map, refl, sym, ap, subst, ◌∙◌, arith}
use Rattle.acpi_read.specs.InPart.{IsFrame, AreInPart, AreReadInPart}
use Rattle.acpi_read.specs.Terms.{AreReadIn}
use Rattle.acpi_term.specs.Arity.{grammar_by}
use Rattle.acpi_term.specs.Language.{Grammar}
use Rattle.acpi_term.specs.Spelling.{inner, AreLegal}
use Rattle.acpi_term.specs.Tree.{Head, def_scope, def_device, def_method, def_power_res, def_if, def_while, def_else, def_leveled_method, def_processor, def_thermal_zone, unread, Terms, end, term, depth}
use Rattle.acpi_term.specs.declared.language.Language.TheVariants.{Standard}
use Rattle.acpi_term.specs.declared.mode.Mode.TheVariants.{Term}
use Rattle.acpi_terms_text.specs.Block.{AreBlockTerms, AreBlockTermsInPart}
use Rattle.acpi_terms_text.specs.Objects.{Callee, callee_by, objects, all_callees, first_numbers, own_numbers, with_other, AreOwn}
use Rattle.acpi_terms_text.specs.Scoped.{any, is_unread, AreInScopes}
use Rattle.acpi_terms_text.specs.declared.objects.Object.{Object}
use Rattle.acpi_terms_text.proofs.Scopes.{scoped_kept}

abbrev Counts : Type 0
Counts = List (List ℕ × ℕ)

no_objects : (all : List Object) → length all ≡ 0 → map callee_by all ≡ []
no_objects [] none = refl
no_objects (m ∷ all) none = absurd (omega (arith, none))

pub first_false : (a b : Bool) → (a || b) ≡ false → a ≡ false
first_false true b none = none
first_false false b none = refl

pub second_false : (a b : Bool) → (a || b) ≡ false → b ≡ false
second_false true b none = absurd cc
second_false false b none = none

of_children : (h : Head) (w : ℕ) (c o : Terms) → any is_unread (term h w c o) ≡ false → any is_unread c ≡ false
of_children h w c o none =
    first_false (any is_unread c) (any is_unread o) (second_false (is_unread h) (any is_unread c || any is_unread o) none)

of_others : (h : Head) (w : ℕ) (c o : Terms) → any is_unread (term h w c o) ≡ false → any is_unread o ≡ false
of_others h w c o none =
    second_false (any is_unread c) (any is_unread o) (second_false (is_unread h) (any is_unread c || any is_unread o) none)

module _ (g : Grammar) where
  -- terms that are at most d deep
  abbrev AreShallow : ℕ → Terms → Type 0
  AreShallow d ts = AreLegal g Term ts × (depth ts ≤ d)

  -- a frame around terms, before others
  over : (d : ℕ) (h : Head) (w : ℕ) (c o : Terms) → IsFrame g d h w c → inner g.language h ≡ Term → AreShallow (d - 1) c → AreShallow d o
      → AreShallow d (term h w c o)
  over d h w c o frame is inside others =
      ((frame.1, subst (λ m. AreLegal g m c) (sym is) inside.0, others.0), omega (arith, frame.0, inside.1, others.1))

  are_shallow : (ts : Terms) (d to : ℕ) (first : Bool) → AreInPart g d to first ts → any is_unread ts ≡ false → AreShallow d ts
  are_shallow end d to first p none = (tt, omega arith)
  are_shallow (term h w c o) d to true p none =
      let others = are_shallow o d to false p.1 (of_others h w c o none) in
      ((p.0.0.0, p.0.0.1, others.0), omega (arith, p.0.1, others.1))
  are_shallow (term (def_scope name) w c o) d to false p none =
      over d (def_scope name) w c o p.0.0 refl (are_shallow c (d - 1) _ false p.0.1 (of_children (def_scope name) w c o none))
      (are_shallow o d to false p.1 (of_others (def_scope name) w c o none))
  are_shallow (term (def_device name) w c o) d to false p none =
      over d (def_device name) w c o p.0.0 refl (are_shallow c (d - 1) _ false p.0.1 (of_children (def_device name) w c o none))
      (are_shallow o d to false p.1 (of_others (def_device name) w c o none))
  are_shallow (term (def_method name args serialized) w c o) d to false p none =
      over d (def_method name args serialized) w c o p.0.0 refl (are_shallow c (d - 1) _ false p.0.1 (of_children (def_method name args serialized) w c o none))
      (are_shallow o d to false p.1 (of_others (def_method name args serialized) w c o none))
  are_shallow (term (def_power_res name level order) w c o) d to false p none =
      over d (def_power_res name level order) w c o p.0.0 refl (are_shallow c (d - 1) _ false p.0.1 (of_children (def_power_res name level order) w c o none))
      (are_shallow o d to false p.1 (of_others (def_power_res name level order) w c o none))
  are_shallow (term def_else w c o) d to false p none =
      over d def_else w c o p.0.0 refl (are_shallow c (d - 1) _ false p.0.1 (of_children def_else w c o none))
      (are_shallow o d to false p.1 (of_others def_else w c o none))
  are_shallow (term (def_leveled_method name args serialized level) w c o) d to false p none =
      over d (def_leveled_method name args serialized level) w c o p.0.0 refl (are_shallow c (d - 1) _ false p.0.1 (of_children (def_leveled_method name args serialized level) w c o none))
      (are_shallow o d to false p.1 (of_others (def_leveled_method name args serialized level) w c o none))
  are_shallow (term (def_processor name id address size) w c o) d to false p none =
      over d (def_processor name id address size) w c o p.0.0 refl (are_shallow c (d - 1) _ false p.0.1 (of_children (def_processor name id address size) w c o none))
      (are_shallow o d to false p.1 (of_others (def_processor name id address size) w c o none))
  are_shallow (term (def_thermal_zone name) w c o) d to false p none =
      over d (def_thermal_zone name) w c o p.0.0 refl (are_shallow c (d - 1) _ false p.0.1 (of_children (def_thermal_zone name) w c o none))
      (are_shallow o d to false p.1 (of_others (def_thermal_zone name) w c o none))
  are_shallow (term def_if w c o) d to false p none =
      over d def_if w c o p.0.0 refl (are_shallow c (d - 1) _ true p.0.1 (of_children def_if w c o none))
      (are_shallow o d to false p.1 (of_others def_if w c o none))
  are_shallow (term def_while w c o) d to false p none =
      over d def_while w c o p.0.0 refl (are_shallow c (d - 1) _ true p.0.1 (of_children def_while w c o none))
      (are_shallow o d to false p.1 (of_others def_while w c o none))
  are_shallow (term (unread error bytes) w c o) d to false p none = absurd cc
  are_shallow (term h w c o) d to false p none =
      let others = are_shallow o d to false p.1 (of_others h w c o none) in
      ((p.0.0.0, p.0.0.1, others.0), omega (arith, p.0.1, others.1))

-- Terms that are read in part are read whole, if none stands for bytes that aren't read.
pub whole_of_part : (g : Grammar) (bytes : List ℕ) (ts : Terms) → AreReadInPart g bytes ts → any is_unread ts ≡ false → AreReadIn g bytes ts
whole_of_part g bytes ts read none =
    let whole = are_shallow g ts 255 (length bytes) false read.in_part none in
    record { spelled = (whole.0, read.spelled); shallow = whole.1 }

-- ---- a block in which no method takes arguments

module _ (stated : Counts) (further : List Callee) (bytes : List ℕ) (first : Counts) (is_first : first ≡ first_numbers stated)
    (terms : Terms) (read : AreReadInPart (grammar_by Standard first) bytes terms)
    (all : List Object) (are : map callee_by all ≡ all_callees terms further) (none : length all ≡ 0) where
  no_callees : all_callees terms further ≡ []
  no_callees = sym are ∙ no_objects all none

  are_own : AreOwn stated further bytes first
  are_own = record {
    terms = terms;
    read = subst (λ (l : Counts). AreReadInPart (grammar_by Standard l) bytes terms) is_first read;
    is = is_first ∙ ap (own_numbers stated) (sym no_callees);
  }

  in_scopes : AreInScopes stated further first terms terms
  in_scopes = scoped_kept stated first [] all (all_callees terms further) (with_other first (all_callees terms further)) terms none are

  pub block_of_part : any is_unread terms ≡ false → AreBlockTerms stated further bytes terms
  block_of_part whole = record {
    own = first;
    methods = are_own;
    whole = terms;
    read = whole_of_part (grammar_by Standard first) bytes terms read whole;
    scoped = in_scopes;
  }

  pub block_in_part : AreBlockTermsInPart stated further bytes terms
  block_in_part = record { own = first; methods = are_own; whole = terms; read = read; scoped = in_scopes }
