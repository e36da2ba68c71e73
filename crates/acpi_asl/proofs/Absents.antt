-- Names that become known, and External statements, item by item.
use Rattle.std.proofs.Common.{◌≡◌, ℕ, zero, suc, ◌+◌, ◌-◌, ◌/◌, ◌<◌, ◌≤◌, ◌==◌, ◌&&◌, ◌||◌, min, if◌then◌else◌, Bool, true, false, Option, Some, None, is_some, List, [], ◌∷◌, ◌++◌, length, map, get_or, drop, refl, sym, ap, subst, ◌∙◌, append_assoc, arith}
use Rattle.std.proofs.lemmas.Bool.{and_parts}
use Rattle.std.proofs.lemmas.List.{append-nil, length-append}
use Rattle.acpi_read.proofs.Lines.{count_views}
use Rattle.acpi_read.proofs.Texts.{dropped, past}
use Rattle.acpi_term.specs.Tree.{Head, def_scope, call, def_field, def_index_field, def_bank_field, def_acquire, def_release, op, def_external, Entry, named, connection, Terms, end, term, count}
use Rattle.acpi_term.specs.View.{entry_view, view, views, single, IsApart}
use Rattle.acpi_term.specs.declared.term.Term.{Term}
use Rattle.acpi_term.specs.declared.term.TermEntry.{TermEntry}
use Rattle.acpi_terms_text.specs.Objects.{inside, name_at}
use Rattle.acpi_terms_text.specs.Path.{parent, path_in}
use Rattle.acpi_terms_text.specs.Scoped.{any}
use Rattle.acpi_term.specs.PathText.{name_of_segments}
use Rattle.acpi_terms_text.proofs.Relative.{one_scope_less}
use Rattle.acpi_terms_text.proofs.Wholes.{first_false, second_false}
use Rattle.acpi_asl.specs.Namespace.{named_by}
use Rattle.acpi_asl.specs.Absent.{Known, finds, is_found, absent, Item, made, used, made_named, made_operand, made_units, made_items, made_around, around_items, scope_items, is_call, method_items, connection_items, other_items, left_after, own_items, items, all_items, uses_name, absent_line, known_by, line, known_after, lines, AreAdded, first_objects, absent_text, are_found, own_found, all_found, made_in, path_made, made_by_path, parent_items}
use Rattle.std.specs.Str.{bytes_eq}
use Rattle.acpi_asl.specs.Paths.{has}
use Rattle.acpi_asl.specs.declared.absent.Pass.{Pass}
use Rattle.acpi_asl.specs.declared.absent.Pass.TheVariants.{Objects, Scopes, Methods, Around, Parents, Others}
use Rattle.acpi_asl.specs.declared.place.Body.TheVariants.{Statements}
use Rattle.acpi_asl.specs.declared.place.Place.{Place}
use Rattle.acpi_asl.specs.Place.{place, next, in_braces}

-- ---- one list of items after another

known_both : (all : Known) (a b : List Item) → known_after all (a ++ b) ≡ known_after (known_after all a) b
known_both all [] b = refl
known_both all (i ∷ a) b = known_both (known_by all i) a b

lines_both : (all : Known) (a b : List Item) → lines all (a ++ b) ≡ lines all a ++ lines (known_after all a) b
lines_both all [] b = refl
lines_both all (i ∷ a) b =
    ap (λ (l : List ℕ). line all i ++ l) (lines_both (known_by all i) a b)
    ∙ sym (append_assoc (line all i) (lines (known_by all i) a) (lines (known_after (known_by all i) a) b))

pub added_none : (all : Known) (text : List ℕ) → AreAdded [] all all text text
added_none all text = record { known = refl; text = sym (append-nil text) }

pub added_both : (a b : List Item) (old mid new : Known) (before between after : List ℕ) → AreAdded a old mid before between
    → AreAdded b mid new between after → AreAdded (a ++ b) old new before after
added_both a b old mid new before between after p q = record {
  known = q.known ∙ ap (λ (k : Known). known_after k b) p.known ∙ sym (known_both old a b);
  text =
      q.text ∙ ap (λ (k : Known). between ++ lines k b) p.known ∙ ap (λ (l : List ℕ). l ++ lines (known_after old a) b) p.text
      ∙ append_assoc before (lines old a) (lines (known_after old a) b) ∙ ap (λ (l : List ℕ). before ++ l) (sym (lines_both old a b));
}

-- an item, and those after it
pub one_added : (i : Item) (is : List Item) (old mid new : Known) (before between after : List ℕ) → AreAdded (i ∷ []) old mid before between
    → AreAdded is mid new between after → AreAdded (i ∷ is) old new before after
one_added i is = added_both (i ∷ []) is

-- ---- names that find an object

module _ (all : Known) (segment : List ℕ) where
  here_or_around : (n : ℕ) (scope : List ℕ) → 0 < n → has all (scope ++ segment) ≡ false
      → finds n all scope segment ≡ finds (n - 1) all (parent scope) segment
  here_or_around zero scope some none = absurd (omega (arith, some))
  here_or_around (suc n) scope some none =
      let less : n ≡ suc n - 1 = omega arith in
      ap (λ (b : Bool). b || finds n all (parent scope) segment) none ∙ ap (λ (k : ℕ). finds k all (parent scope) segment) less

  -- a scope in which the segment finds nothing, and the one around it
  pub finds_outward : (scope outer : List ℕ) (whole : Bool) → 4 ≤ length scope → outer ≡ parent scope → has all (scope ++ segment) ≡ false
      → finds (length scope / 4) all scope segment ≡ whole → finds (length outer / 4) all outer segment ≡ whole
  finds_outward scope outer whole some is none before =
      let n = length scope / 4 in
      ap (λ (k : ℕ). finds k all outer segment) (one_scope_less scope outer is) ∙ ap (λ (s : List ℕ). finds (n - 1) all s segment) is
      ∙ sym (here_or_around n scope (omega (arith, some)) none) ∙ before

  found_here : (n : ℕ) (scope : List ℕ) → has all (scope ++ segment) ≡ true → finds n all scope segment ≡ true
  found_here zero scope found = found
  found_here (suc n) scope found = ap (λ (b : Bool). b || finds n all (parent scope) segment) found

  pub finds_here : (scope : List ℕ) (whole : Bool) → has all (scope ++ segment) ≡ true → finds (length scope / 4) all scope segment ≡ whole
      → true ≡ whole
  finds_here scope whole found before = sym (found_here (length scope / 4) scope found) ∙ before

  -- the root is the last scope
  pub finds_last : (scope : List ℕ) (whole found : Bool) → length scope < 4 → found ≡ has all (scope ++ segment)
      → finds (length scope / 4) all scope segment ≡ whole → found ≡ whole
  finds_last scope whole found last is before =
      let none : 0 ≡ length scope / 4 = omega (arith, last) in
      is ∙ ap (λ (n : ℕ). finds n all scope segment) none ∙ before

-- ---- the items that are left of a list

pub record Going (rest whole : List Item) (old now : Known) (before so_far : List ℕ) : Type 0 where
  pub known : known_after now rest ≡ known_after old whole
  pub text : so_far ++ lines now rest ≡ before ++ lines old whole

pub going_start : (whole : List Item) (all : Known) (text : List ℕ) → Going whole whole all all text text
going_start whole all text = record { known = refl; text = refl }

module _ (rest whole : List Item) (old now : Known) (before text : List ℕ) (g : Going rest whole old now before text) where
  pub going_on : (one left : List Item) (new : Known) (after : List ℕ) → rest ≡ one ++ left → AreAdded one now new text after
      → Going left whole old new before after
  going_on one left new after is added =
      let mid = known_after now one in
      record {
        known = ap (λ (k : Known). known_after k left) added.known ∙ sym (known_both now one left) ∙ ap (known_after now) (sym is) ∙ g.known;
        text =
            ap (λ (k : Known). after ++ lines k left) added.known ∙ ap (λ (l : List ℕ). l ++ lines mid left) added.text
            ∙ append_assoc text (lines now one) (lines mid left) ∙ ap (λ (l : List ℕ). text ++ l) (sym (lines_both now one left))
            ∙ ap (λ (l : List Item). text ++ lines now l) (sym is) ∙ g.text;
      }

  pub going_done : rest ≡ [] → AreAdded whole old now before text
  going_done none = record {
    known = ap (known_after now) (sym none) ∙ g.known;
    text = sym (append-nil text) ∙ ap (λ (l : List Item). text ++ lines now l) (sym none) ∙ g.text;
  }

-- ---- terms

-- the place after the terms from i on: that after the term i, and then after the others
pub places_split : (at : Place) (ts : List Term) (i : ℕ) (t : Term) → i < length ts → t ≡ get_or ts i t
    → left_after at (views (drop i ts)) ≡ left_after (next at false) (views (drop (i + 1) ts))
places_split at ts i t inside is = ap (λ (l : List Term). left_after at (views l)) (dropped ts i t inside is)

pub places_past : (at : Place) (ts : List Term) (i : ℕ) → length ts ≤ i → left_after at (views (drop i ts)) ≡ at
places_past at ts i all = ap (λ (l : List Term). left_after at (views l)) (past ts i all)

module _ (p : Pass) where
  items_step : (at : Place) (scope : List ℕ) (t : Term) (ts : List Term)
      → items p at scope (views (t ∷ ts)) ≡ items p at scope (single (view t)) ++ items p (next at false) scope (views ts)
  items_step at scope t ts =
      let own = own_items p at scope (view t).0 (view t).2 in
      let inner = items p (place (view t).0 (count (view t).2)) (inside scope (view t).0) (view t).2 in
      ap (λ (l : List Item). own ++ (l ++ items p (next at false) scope (views ts))) (sym (append-nil inner))
      ∙ sym (append_assoc own (inner ++ []) (items p (next at false) scope (views ts)))

  items_both : (at : Place) (scope : List ℕ) (a b : List Term)
      → items p at scope (views (a ++ b)) ≡ items p at scope (views a) ++ items p (left_after at (views a)) scope (views b)
  items_both at scope [] b = refl
  items_both at scope (t ∷ a) b =
      let one = items p at scope (single (view t)) in
      let last = items p (left_after (next at false) (views a)) scope (views b) in
      items_step at scope t (a ++ b) ∙ ap (λ (l : List Item). one ++ l) (items_both (next at false) scope a b)
      ∙ sym (append_assoc one (items p (next at false) scope (views a)) last)
      ∙ ap (λ (l : List Item). l ++ last) (sym (items_step at scope t a))

  -- the terms from i on: the term i, and those after it
  pub items_split : (at : Place) (scope : List ℕ) (ts : List Term) (i : ℕ) (t : Term) → i < length ts → t ≡ get_or ts i t
      → items p at scope (views (drop i ts)) ≡ items p at scope (single (view t)) ++ items p (next at false) scope (views (drop (i + 1) ts))
  items_split at scope ts i t inside is =
      ap (λ (l : List Term). items p at scope (views l)) (dropped ts i t inside is) ∙ items_step at scope t (drop (i + 1) ts)

  -- no terms are left
  pub items_past : (at : Place) (scope : List ℕ) (ts : List Term) (i : ℕ) → length ts ≤ i → items p at scope (views (drop i ts)) ≡ []
  items_past at scope ts i all = ap (λ (l : List Term). items p at scope (views l)) (past ts i all)

  -- a term, and then its children in two lists
  module _ (at first left : Place) (scope inner : List ℕ) (t : Term) (h : Head) (w : ℕ) (a b : List Term) (apart : IsApart t h w a b)
      (into : inner ≡ inside scope h) (n : ℕ) (many : n ≡ length a + length b) (begins : first ≡ place h n) (after_first : left ≡ left_after first (views a)) where
    items_over : own_items p at scope h (views (a ++ b)) ++ (items p first inner (views a) ++ items p left inner (views b))
        ≡ items p at scope (single (view t))
    items_over =
        let v = view t in
        let counted : n ≡ count v.2 = many ∙ sym (length-append a b) ∙ sym (count_views (a ++ b)) ∙ ap count apart.children in
        let inner_is : items p first inner (views a) ++ items p left inner (views b) ≡ items p (place v.0 (count v.2)) (inside scope v.0) v.2 ++ [] =
        ap (λ (q : Place). items p first inner (views a) ++ items p q inner (views b)) after_first
        ∙ sym (items_both first inner a b) ∙ ap (items p first inner) apart.children
        ∙ ap (λ (l : List ℕ). items p first l v.2) (into ∙ ap (inside scope) apart.head)
        ∙ ap (λ (q : Place). items p q (inside scope v.0) v.2) (begins ∙ ap (λ (k : Head). place k n) apart.head ∙ ap (place v.0) counted)
        ∙ sym (append-nil (items p (place v.0 (count v.2)) (inside scope v.0) v.2))
        in
        let own_is : own_items p at scope h (views (a ++ b)) ≡ own_items p at scope v.0 v.2 =
        ap (own_items p at scope h) apart.children ∙ ap (λ (k : Head). own_items p at scope k v.2) apart.head
        in
        ap (λ (l : List Item). l ++ (items p first inner (views a) ++ items p left inner (views b))) own_is
        ∙ ap (λ (l : List Item). own_items p at scope v.0 v.2 ++ l) inner_is

    pub added_over : (k0 k1 k2 k3 : Known) (t0 t1 t2 t3 : List ℕ) → AreAdded (own_items p at scope h (views (a ++ b))) k0 k1 t0 t1
        → AreAdded (items p first inner (views a)) k1 k2 t1 t2 → AreAdded (items p left inner (views b)) k2 k3 t2 t3
        → AreAdded (items p at scope (single (view t))) k0 k3 t0 t3
    added_over k0 k1 k2 k3 t0 t1 t2 t3 q r u =
        let before = items p first inner (views a) in
        let others = items p left inner (views b) in
        subst (λ (l : List Item). AreAdded l k0 k3 t0 t3) items_over
        (added_both (own_items p at scope h (views (a ++ b))) (before ++ others) k0 k1 k3 t0 t1 t3 q (added_both before others k1 k2 k3 t1 t2 t3 r u))

-- ---- entries of fields

units_step : (scope : List ℕ) (e : Entry) (es : List Entry) → made_units scope (e ∷ es) ≡ made_units scope (e ∷ []) ++ made_units scope es
units_step scope (named name bits w) es = refl
units_step scope e es = refl

pub units_on : (scope : List ℕ) (es : List TermEntry) (i : ℕ) (e : TermEntry) (now new whole : Known) → i < length es → e ≡ get_or es i e
    → new ≡ known_after now (made_units scope (entry_view e ∷ []))
    → known_after now (made_units scope (map entry_view (drop i es))) ≡ whole
    → known_after new (made_units scope (map entry_view (drop (i + 1) es))) ≡ whole
units_on scope es i e now new whole inside is added before =
    let rest = map entry_view (drop (i + 1) es) in
    ap (λ (k : Known). known_after k (made_units scope rest)) added
    ∙ sym (known_both now (made_units scope (entry_view e ∷ [])) (made_units scope rest))
    ∙ ap (known_after now) (sym (units_step scope (entry_view e) rest))
    ∙ ap (λ (l : List TermEntry). known_after now (made_units scope (map entry_view l))) (sym (dropped es i e inside is)) ∙ before

connections_step : (scope : List ℕ) (e : Entry) (es : List Entry)
    → connection_items scope (e ∷ es) ≡ connection_items scope (e ∷ []) ++ connection_items scope es
connections_step scope (connection name) es = refl
connections_step scope e es = refl

pub connections_split : (scope : List ℕ) (es : List TermEntry) (i : ℕ) (e : TermEntry) → i < length es → e ≡ get_or es i e
    → connection_items scope (map entry_view (drop i es))
    ≡ connection_items scope (entry_view e ∷ []) ++ connection_items scope (map entry_view (drop (i + 1) es))
connections_split scope es i e inside is =
    ap (λ (l : List TermEntry). connection_items scope (map entry_view l)) (dropped es i e inside is)
    ∙ connections_step scope (entry_view e) (map entry_view (drop (i + 1) es))

pub connections_past : (scope : List ℕ) (es : List TermEntry) (i : ℕ) → length es ≤ i
    → connection_items scope (map entry_view (drop i es)) ≡ []
connections_past scope es i all = ap (λ (l : List TermEntry). connection_items scope (map entry_view l)) (past es i all)

-- ---- the scopes around an object of another block

around_step : (n : ℕ) (path : List ℕ) → 0 < n → made_around n path ≡ made (parent path) ∷ made_around (n - 1) (parent path)
around_step zero path some = absurd (omega (arith, some))
around_step (suc n) path some =
    let less : n ≡ suc n - 1 = omega arith in
    ap (λ (k : ℕ). made (parent path) ∷ made_around k (parent path)) less

-- a path, and the scope around it
pub around_on : (path outer : List ℕ) (now new whole : Known) → 4 ≤ length path → outer ≡ parent path → new ≡ known_by now (made outer)
    → known_after now (made_around (length path / 4) path) ≡ whole → known_after new (made_around (length outer / 4) outer) ≡ whole
around_on path outer now new whole some is added before =
    let n = length path / 4 in
    ap (λ (k : Known). known_after k (made_around (length outer / 4) outer)) (added ∙ ap (λ (l : List ℕ). known_by now (made l)) is)
    ∙ ap (λ (k : ℕ). known_after (known_by now (made (parent path))) (made_around k outer)) (one_scope_less path outer is)
    ∙ ap (λ (l : List ℕ). known_after (known_by now (made (parent path))) (made_around (n - 1) l)) is
    ∙ ap (known_after now) (sym (around_step n path (omega (arith, some)))) ∙ before

-- the root is the last scope
pub around_done : (path : List ℕ) (now whole : Known) → length path < 4 → known_after now (made_around (length path / 4) path) ≡ whole
    → now ≡ whole
around_done path now whole last before =
    let none : 0 ≡ length path / 4 = omega (arith, last) in
    ap (λ (k : ℕ). known_after now (made_around k path)) none ∙ before

-- ---- names that all find an object

and_true : (a b : Bool) → a ≡ true → b ≡ true → (a && b) ≡ true
and_true a b first second = ap (λ (t : Bool). t && b) first ∙ second

and_joined : (a b c : Bool) → (a && (b && c)) ≡ ((a && b) && c)
and_joined true b c = refl
and_joined false b c = refl

pub found_both : (all : Known) (a b : List Item) → are_found all (a ++ b) ≡ (are_found all a && are_found all b)
found_both all [] b = refl
found_both all (made path ∷ a) b = found_both all a b
found_both all (used scope name kind args ∷ a) b =
    let here = is_found all scope name in
    ap (λ (t : Bool). here && t) (found_both all a b) ∙ and_joined here (are_found all a) (are_found all b)
found_both all (made_in path ∷ a) b =
    ap (λ (t : Bool). has all path && t) (found_both all a b) ∙ and_joined (has all path) (are_found all a) (are_found all b)

found_joined : (all : Known) (a b : List Item) → are_found all a ≡ true → are_found all b ≡ true → are_found all (a ++ b) ≡ true
found_joined all a b first second = found_both all a b ∙ and_true (are_found all a) (are_found all b) first second

still_there : (all more : Known) (path : List ℕ) → has all path ≡ true → has (all ++ more) path ≡ true
still_there [] more path is = absurd cc
still_there (p ∷ all) more path is =
    elim (bytes_eq p path) as (λ b. (b || has all path) ≡ true → (b || has (all ++ more) path) ≡ true) [
      | true ↦ λ e. refl
      | false ↦ still_there all more path
    ] is

-- what these know is known to those, too
abbrev AreKnown : Known → Known → Type 0
AreKnown few all = (path : List ℕ) → has few path ≡ true → has all path ≡ true

one_of : (a b c d : Bool) → (a ≡ true → c ≡ true) → (b ≡ true → d ≡ true) → (a || b) ≡ true → (c || d) ≡ true
one_of true b c d first second is = ap (λ (t : Bool). t || d) (first refl)
one_of false b true d first second is = refl
one_of false b false d first second is = second is

finds_too : (few all : Known) → AreKnown few all → (n : ℕ) (scope segment : List ℕ) → finds n few scope segment ≡ true → finds n all scope segment ≡ true
finds_too few all known zero scope segment is = known (scope ++ segment) is
finds_too few all known (suc n) scope segment is =
    one_of (has few (scope ++ segment)) (finds n few (parent scope) segment) (has all (scope ++ segment)) (finds n all (parent scope) segment)
    (known (scope ++ segment)) (finds_too few all known n (parent scope) segment) is

found_too : (few all : Known) → AreKnown few all → (scope name : List ℕ) → is_found few scope name ≡ true → is_found all scope name ≡ true
found_too few all known scope name =
    elim (length name == 4) as (λ b. (if b then finds (length scope / 4) few scope name else has few (path_in scope name)) ≡ true
    → (if b then finds (length scope / 4) all scope name else has all (path_in scope name)) ≡ true) [
      | true ↦ finds_too few all known (length scope / 4) scope name
      | false ↦ known (path_in scope name)
    ]

-- Items have no statements, if each name finds an object of those that are known before them.
found_silent : (few all : Known) (is : List Item) → AreKnown few all → are_found few is ≡ true → lines all is ≡ []
found_silent few all [] known found = refl
found_silent few all (made path ∷ is) known found =
    found_silent few (all ++ path ∷ []) is (λ p h. still_there all (path ∷ []) p (known p h)) found
found_silent few all (used scope name kind args ∷ is) known found =
    let both = and_parts (is_found few scope name) (are_found few is) found in
    let text = absent_line kind args (name_of_segments true (absent scope name)) in
    let more = all ++ absent scope name ∷ [] in
    ap (λ (b : Bool). (if b then [] else text) ++ lines (if b then all else more) is) (found_too few all known scope name both.0)
    ∙ found_silent few all is known both.1
found_silent few all (made_in path ∷ is) known found =
    let both = and_parts (has few path) (are_found few is) found in
    let text = absent_line 6 0 (name_of_segments true path) in
    let more = all ++ path ∷ [] in
    ap (λ (b : Bool). (if b then [] else text) ++ lines (if b then all else more) is) (known path both.0)
    ∙ found_silent few all is known both.1

-- objects have none
silent : (all : Known) (is : List Item) → are_found [] is ≡ true → lines all is ≡ []
silent all is found = found_silent [] all is (λ w h. absurd cc) found

-- ---- the items of a head

module _ (all : Known) where
  units_found : (scope : List ℕ) (entries : List Entry) → are_found all (made_units scope entries) ≡ true
  units_found scope [] = refl
  units_found scope (named name bits w ∷ entries) = units_found scope entries
  units_found scope (e ∷ entries) = units_found scope entries

  named_found : (scope : List ℕ) (name : Option (List ℕ)) → are_found all (made_named scope name) ≡ true
  named_found scope None = refl
  named_found scope (Some name) = refl

  operand_found : (scope : List ℕ) (place : Option ℕ) (c : Terms) → are_found all (made_operand scope place c) ≡ true
  operand_found scope None c = refl
  operand_found scope (Some place) c = named_found scope (name_at place c)

  made_found : (scope : List ℕ) (h : Head) (c : Terms) → are_found all (made_items scope h c) ≡ true
  made_found scope (def_field name access lock update entries) c = units_found scope entries
  made_found scope (def_index_field index name access lock update entries) c = units_found scope entries
  made_found scope (def_bank_field name bank access lock update entries) c = units_found scope entries
  made_found scope (op o) c = operand_found scope (named_by o) c
  made_found scope h c = refl

  around_found : (n : ℕ) (path : List ℕ) → are_found all (made_around n path) ≡ true
  around_found zero path = refl
  around_found (suc n) path = around_found n (parent path)

  external_found : (scope : List ℕ) (h : Head) → are_found all (around_items scope h) ≡ true
  external_found scope (def_external name kind args) = around_found (length (path_in scope name) / 4) (path_in scope name)
  external_found scope h = refl

  calls_found : (at : Place) (scope : List ℕ) (h : Head) (n : ℕ) → are_found all (other_items scope h) ≡ true
      → are_found all (method_items at scope h n) ≡ true
  calls_found at scope (call name) n found =
      elim (is_call at n) as (λ b. are_found all (if b then used scope name 8 (min n 7) ∷ [] else []) ≡ true) [ true ↦ found | false ↦ refl ]
  calls_found at scope h n found = refl

  -- those of the scopes that a head opens, of the scope in which it makes an object, and of the others
  parts_found : (scope : List ℕ) (h : Head) → own_found all scope h ≡ true
      → (are_found all (scope_items scope h) ≡ true)
      × ((are_found all (parent_items scope h) ≡ true) × (are_found all (other_items scope h) ≡ true))
  parts_found scope h found =
      let parents = are_found all (parent_items scope h) in
      let others = are_found all (other_items scope h) in
      let both = and_parts (are_found all (scope_items scope h)) (parents && others) found in
      (both.0, and_parts parents others both.1)

  own_items_found : (p : Pass) (at : Place) (scope : List ℕ) (h : Head) (c : Terms) → own_found all scope h ≡ true
      → are_found all (own_items p at scope h c) ≡ true
  own_items_found Objects at scope h c found = made_found scope h c
  own_items_found Around at scope h c found = external_found scope h
  own_items_found Scopes at scope h c found = (parts_found scope h found).0
  own_items_found Methods at scope h c found = calls_found at scope h (count c) (parts_found scope h found).1.1
  own_items_found Parents at scope h c found = (parts_found scope h found).1.0
  own_items_found Others at scope h c found = (parts_found scope h found).1.1

  items_found : (p : Pass) (at : Place) (scope : List ℕ) (ts : Terms) → all_found all scope ts ≡ true → are_found all (items p at scope ts) ≡ true
  items_found p at scope end found = refl
  items_found p at scope (term h w c o) found =
      let own = own_items p at scope h c in
      let inner = items p (place h (count c)) (inside scope h) c in
      let others = items p (next at false) scope o in
      let first = and_parts (own_found all scope h) (all_found all (inside scope h) c && all_found all scope o) found in
      let second = and_parts (all_found all (inside scope h) c) (all_found all scope o) first.1 in
      found_joined all own (inner ++ others) (own_items_found p at scope h c first.0)
      (found_joined all inner others (items_found p (place h (count c)) (inside scope h) c second.0) (items_found p (next at false) scope o second.1))

  -- no object is made by a path
  unmade_found : (scope : List ℕ) (path : Option (List ℕ)) → is_some path ≡ false → (are_found all (made_by_path scope path) && true) ≡ true
  unmade_found scope None none = refl
  unmade_found scope (Some path) none = absurd cc

  -- a head that uses no name
  own_unused : (scope : List ℕ) (h : Head) → uses_name h ≡ false → own_found all scope h ≡ true
  own_unused scope (def_scope name) none = absurd cc
  own_unused scope (call name) none = absurd cc
  own_unused scope (def_field name access lock update entries) none = absurd cc
  own_unused scope (def_index_field index name access lock update entries) none = absurd cc
  own_unused scope (def_bank_field name bank access lock update entries) none = absurd cc
  own_unused scope (def_acquire name timeout) none = absurd cc
  own_unused scope (def_release name) none = absurd cc
  own_unused scope h none = unmade_found scope (path_made h) none

  unused_found : (scope : List ℕ) (ts : Terms) → any uses_name ts ≡ false → all_found all scope ts ≡ true
  unused_found scope end none = refl
  unused_found scope (term h w c o) none =
      let own = first_false (uses_name h) (any uses_name c || any uses_name o) none in
      let both = second_false (uses_name h) (any uses_name c || any uses_name o) none in
      let inner = unused_found (inside scope h) c (first_false (any uses_name c) (any uses_name o) both) in
      let others = unused_found scope o (second_false (any uses_name c) (any uses_name o) both) in
      and_true (own_found all scope h) (all_found all (inside scope h) c && all_found all scope o) (own_unused scope h own)
      (and_true (all_found all (inside scope h) c) (all_found all scope o) inner others)

pub external_added : (p : Pass) (at : Place) (scope : List ℕ) (h : Head) (c : Terms) (old new : Known) (text : List ℕ) → p ≡ Around
    → new ≡ known_after old (around_items scope h) → AreAdded (own_items p at scope h c) old new text text
external_added p at scope h c old new text around is =
    let none = sym (append-nil text) ∙ ap (λ (l : List ℕ). text ++ l) (sym (silent old (around_items scope h) (external_found [] scope h))) in
    subst (λ (q : Pass). AreAdded (own_items q at scope h c) old new text text) (sym around) (record { known = is; text = none })

pub made_added : (p : Pass) (at : Place) (scope : List ℕ) (h : Head) (c : Terms) (old new : Known) (text : List ℕ) → p ≡ Objects
    → new ≡ known_after old (made_items scope h c) → AreAdded (own_items p at scope h c) old new text text
made_added p at scope h c old new text objects is =
    let none = sym (append-nil text) ∙ ap (λ (l : List ℕ). text ++ l) (sym (silent old (made_items scope h c) (made_found [] scope h c))) in
    subst (λ (q : Pass). AreAdded (own_items q at scope h c) old new text text) (sym objects) (record { known = is; text = none })

-- calls by the number of their children, which are in two lists
pub method_added : (p : Pass) (at : Place) (scope : List ℕ) (h : Head) (a b : List Term) (n : ℕ) (old new : Known) (before after : List ℕ) → p ≡ Methods
    → n ≡ length a + length b → AreAdded (method_items at scope h n) old new before after
    → AreAdded (own_items p at scope h (views (a ++ b))) old new before after
method_added p at scope h a b n old new before after methods is added =
    let counted = subst (λ (k : ℕ). AreAdded (method_items at scope h k) old new before after)
    (is ∙ sym (length-append a b) ∙ sym (count_views (a ++ b))) added in
    subst (λ (q : Pass). AreAdded (own_items q at scope h (views (a ++ b))) old new before after) (sym methods) counted

-- ---- blocks

first_added : (text : List ℕ) → AreAdded first_objects [] (known_after [] first_objects) text text
first_added text = record { known = refl; text = sym (append-nil text) }

pub all_added : (ts : Terms) (k0 k1 k2 k3 k4 k5 k6 : Known) (t0 t1 t2 t3 t4 t5 t6 : List ℕ) → k0 ≡ known_after [] first_objects
    → AreAdded (all_items Objects ts) k0 k1 t0 t1 → AreAdded (all_items Scopes ts) k1 k2 t1 t2
    → AreAdded (all_items Methods ts) k2 k3 t2 t3 → AreAdded (all_items Around ts) k3 k4 t3 t4
    → AreAdded (all_items Parents ts) k4 k5 t4 t5 → AreAdded (all_items Others ts) k5 k6 t5 t6 → t6 ≡ t0 ++ absent_text ts
unfolding absent_text
all_added ts k0 k1 k2 k3 k4 k5 k6 t0 t1 t2 t3 t4 t5 t6 first a b c d e f =
    let objects = all_items Objects ts in
    let scopes = all_items Scopes ts in
    let methods = all_items Methods ts in
    let around = all_items Around ts in
    let parents = all_items Parents ts in
    let others = all_items Others ts in
    let last = added_both parents others k4 k5 k6 t4 t5 t6 e f in
    let declared = added_both around (parents ++ others) k3 k4 k6 t3 t4 t6 d last in
    let calls = added_both methods (around ++ (parents ++ others)) k2 k3 k6 t2 t3 t6 c declared in
    let uses = added_both scopes (methods ++ (around ++ (parents ++ others))) k1 k2 k6 t1 t2 t6 b calls in
    let all = added_both objects (scopes ++ (methods ++ (around ++ (parents ++ others)))) k0 k1 k6 t0 t1 t6 a uses in
    let begun = subst (λ (k : Known). AreAdded first_objects [] k t0 t0) (sym first) (first_added t0) in
    (added_both first_objects (objects ++ (scopes ++ (methods ++ (around ++ (parents ++ others))))) [] k0 k6 t0 t0 t6 begun all).text

-- the objects of a block
abbrev known_in : Terms → Known
known_in ts = known_after (known_after [] first_objects) (all_items Objects ts)

objects_found : (p : Pass) (at : Place) (scope : List ℕ) (ts : Terms) → p ≡ Objects → are_found [] (items p at scope ts) ≡ true
objects_found p at scope end objects = refl
objects_found p at scope (term h w c o) objects =
    let own = subst (λ (q : Pass). are_found [] (own_items q at scope h c) ≡ true) (sym objects) (made_found [] scope h c) in
    let inner = objects_found p (place h (count c)) (inside scope h) c objects in
    let others = objects_found p (next at false) scope o objects in
    found_joined [] (own_items p at scope h c) (items p (place h (count c)) (inside scope h) c ++ items p (next at false) scope o) own
    (found_joined [] (items p (place h (count c)) (inside scope h) c) (items p (next at false) scope o) inner others)

-- a block whose names all find an object of it
block_silent : (ts : Terms) → all_found (known_in ts) [] ts ≡ true → absent_text ts ≡ []
unfolding absent_text
block_silent ts found =
    let first = known_after [] first_objects in
    let known = known_in ts in
    let objects = all_items Objects ts in
    let scopes = all_items Scopes ts in
    let methods = all_items Methods ts in
    let around = all_items Around ts in
    let parents = all_items Parents ts in
    let others = all_items Others ts in
    let each : (p : Pass) → are_found known (all_items p ts) ≡ true = λ p. items_found known p (in_braces Statements) [] ts found in
    let last = found_joined known parents others (each Parents) (each Others) in
    let declared = found_joined known around (parents ++ others) (each Around) last in
    let calls = found_joined known methods (around ++ (parents ++ others)) (each Methods) declared in
    let after = scopes ++ (methods ++ (around ++ (parents ++ others))) in
    let uses = found_joined known scopes (methods ++ (around ++ (parents ++ others))) (each Scopes) calls in
    lines_both [] first_objects (objects ++ after)
    ∙ lines_both first objects after
    ∙ ap (λ (l : List ℕ). l ++ lines known after) (silent first objects (objects_found Objects (in_braces Statements) [] ts refl))
    ∙ found_silent known known after (λ w h. h) uses

pub none_added : (ts : Terms) (text : List ℕ) → any uses_name ts ≡ false → text ≡ text ++ absent_text ts
none_added ts text none =
    sym (append-nil text) ∙ ap (λ (l : List ℕ). text ++ l) (sym (block_silent ts (unused_found (known_in ts) [] ts none)))

pub found_added : (ts : Terms) (k0 k1 : Known) (t0 t1 root : List ℕ) (found : Bool) → k0 ≡ known_after [] first_objects
    → AreAdded (all_items Objects ts) k0 k1 t0 t1 → root ≡ [] → found ≡ all_found k1 root ts → found ≡ true → t1 ≡ t0 ++ absent_text ts
found_added ts k0 k1 t0 t1 root found first objects empty is holds =
    let own = all_items Objects ts in
    let known : k1 ≡ known_in ts = objects.known ∙ ap (λ (k : Known). known_after k own) first in
    let all : all_found (known_in ts) [] ts ≡ true =
    ap (λ (k : Known). all_found k [] ts) (sym known) ∙ ap (λ (l : List ℕ). all_found k1 l ts) (sym empty) ∙ sym is ∙ holds
    in
    objects.text ∙ ap (λ (l : List ℕ). t0 ++ l) (silent k0 own (objects_found Objects (in_braces Statements) [] ts refl) ∙ sym (block_silent ts all))

-- ---- terms whose names are looked for

and_none : (a : Bool) → (a && true) ≡ a
and_none true = refl
and_none false = refl

module _ (all : Known) (scope : List ℕ) where
  first_found : (t : Term) (ts : List Term)
      → all_found all scope (views (t ∷ ts)) ≡ (all_found all scope (single (view t)) && all_found all scope (views ts))
  first_found t ts =
      let own = own_found all scope (view t).0 in
      let inner = all_found all (inside scope (view t).0) (view t).2 in
      ap (λ (b : Bool). own && (b && all_found all scope (views ts))) (sym (and_none inner))
      ∙ and_joined own (inner && true) (all_found all scope (views ts))

  lists_found : (a b : List Term) → all_found all scope (views (a ++ b)) ≡ (all_found all scope (views a) && all_found all scope (views b))
  lists_found [] b = refl
  lists_found (t ∷ a) b =
      let one = all_found all scope (single (view t)) in
      first_found t (a ++ b) ∙ ap (λ (l : Bool). one && l) (lists_found a b)
      ∙ and_joined one (all_found all scope (views a)) (all_found all scope (views b))
      ∙ ap (λ (l : Bool). l && all_found all scope (views b)) (sym (first_found t a))

  -- the terms from i on: the term i, and those after it
  pub found_split : (ts : List Term) (i : ℕ) (t : Term) → i < length ts → t ≡ get_or ts i t
      → all_found all scope (views (drop i ts)) ≡ (all_found all scope (single (view t)) && all_found all scope (views (drop (i + 1) ts)))
  found_split ts i t inside is =
      ap (λ (l : List Term). all_found all scope (views l)) (dropped ts i t inside is) ∙ first_found t (drop (i + 1) ts)

-- a term, and its children in two lists
pub found_over : (all : Known) (scope inner : List ℕ) (t : Term) (h : Head) (w : ℕ) (a b : List Term) → IsApart t h w a b → inner ≡ inside scope h
    → (own_found all scope h && (all_found all inner (views a) && all_found all inner (views b))) ≡ all_found all scope (single (view t))
found_over all scope inner t h w a b apart into =
    let v = view t in
    let children : (all_found all inner (views a) && all_found all inner (views b)) ≡ (all_found all (inside scope h) v.2 && true) =
    sym (lists_found all inner a b) ∙ ap (all_found all inner) apart.children ∙ ap (λ (s : List ℕ). all_found all s v.2) into
    ∙ sym (and_none (all_found all (inside scope h) v.2))
    in
    ap (λ (l : Bool). own_found all scope h && l) children
    ∙ ap (λ (k : Head). own_found all scope k && (all_found all (inside scope k) v.2 && true)) apart.head

-- those of the head are found, and these are those of its children
pub found_over_as : (all : Known) (scope inner : List ℕ) (t : Term) (h : Head) (w : ℕ) (a b : List Term) → IsApart t h w a b → inner ≡ inside scope h
    → own_found all scope h ≡ true → (r : Bool) → r ≡ (all_found all inner (views a) && all_found all inner (views b))
    → r ≡ all_found all scope (single (view t))
found_over_as all scope inner t h w a b apart into own r is =
    is ∙ ap (λ (l : Bool). l && (all_found all inner (views a) && all_found all inner (views b))) (sym own)
    ∙ found_over all scope inner t h w a b apart into

-- ---- the entries of a field that are left

pub connections_found : (all : Known) (scope : List ℕ) (es : List TermEntry) (i : ℕ) (e : TermEntry) → i < length es → e ≡ get_or es i e
    → are_found all (connection_items scope (map entry_view (drop i es)))
    ≡ (are_found all (connection_items scope (entry_view e ∷ [])) && are_found all (connection_items scope (map entry_view (drop (i + 1) es))))
connections_found all scope es i e inside is =
    ap (are_found all) (connections_split scope es i e inside is)
    ∙ found_both all (connection_items scope (entry_view e ∷ [])) (connection_items scope (map entry_view (drop (i + 1) es)))
