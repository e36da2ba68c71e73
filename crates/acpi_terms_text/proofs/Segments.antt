-- Segments, and lists of the objects whose names end in them.
use Rattle.std.proofs.Common.{◌≡◌, ℕ, ◌<◌, ◌≤◌, ◌==◌, ◌||◌, not, Bool, true, false, if◌then◌else◌, Option, Some, None, List, [], ◌∷◌, ◌++◌, length, get_or, refl, sym, ap, ◌∙◌, append_assoc, arith}
use Rattle.std.proofs.lemmas.List.{append-nil}
use Rattle.std.specs.Str.{bytes_eq}
use Rattle.acpi_term.specs.Arity.{arity, with_all}
use Rattle.acpi_term.specs.Name.{is_segment, no_more, one_more, single as one_segment, relative, IsNameString, as_written}
use Rattle.acpi_term.specs.Tree.{Entry, named, reserved, access_as, extended_access_as, connection, connection_buffer, Head, number, ones, string, local, arg, call, def_scope, def_device, def_method, def_power_res, def_field, def_op_region, def_name, def_mutex, def_acquire, def_release, def_buffer, def_package, def_var_package, def_if, def_while, def_else, op, def_external, def_leveled_method, def_processor, def_thermal_zone, def_roomy_package, def_index_field, def_bank_field, def_fatal, match_test, def_timeout, unread, Terms, end, term}
use Rattle.acpi_term.specs.View.{view, views, single, IsApart}
use Rattle.acpi_term.specs.declared.term.Term.{Term}
use Rattle.acpi_terms_text.specs.declared.objects.Kept.{Kept}
use Rattle.acpi_terms_text.specs.declared.objects.Kept.TheVariants.{All, Among, In, Other}
use Rattle.acpi_terms_text.specs.Objects.{inside, is_method, Callee, makes, if_named, as_segment, own_unit, own_units, own_external, made_by, name_at, own_operand, own_objects, objects}
use Rattle.acpi_terms_text.specs.Objects.{own_segment, segments, all_among, segment_of, own_segments, segments_in, has_segment, if_kept, all_kept, named_in, with_other}
use Rattle.acpi_terms_text.specs.Path.{last_segment}
use Rattle.acpi_terms_text.proofs.Walks.{both_added, made_step, made_over}

-- four bytes that are a segment are a name
pub is_name : (s : List ℕ) → 4 ≤ length s → length s < 5
    → is_segment (get_or s 0 0) (get_or s 1 0) (get_or s 2 0) (get_or s 3 0) ≡ true → IsNameString s
is_name [] least most holds = absurd (omega (arith, least))
is_name (a ∷ []) least most holds = absurd (omega (arith, least))
is_name (a ∷ b ∷ []) least most holds = absurd (omega (arith, least))
is_name (a ∷ b ∷ c ∷ []) least most holds = absurd (omega (arith, least))
is_name (a ∷ b ∷ c ∷ d ∷ []) least most holds = as_written (relative (one_segment (one_more holds no_more)))
is_name (a ∷ b ∷ c ∷ d ∷ e ∷ s) least most holds = absurd (omega (arith, most))

-- bytes that begin with a segment have it
pub begins_with : (bytes segment : List ℕ) → 4 ≤ length bytes
    → bytes_eq (get_or bytes 0 0 ∷ get_or bytes 1 0 ∷ get_or bytes 2 0 ∷ get_or bytes 3 0 ∷ []) segment ≡ true → has_segment bytes segment ≡ true
begins_with [] segment some is = absurd (omega (arith, some))
begins_with (a ∷ []) segment some is = absurd (omega (arith, some))
begins_with (a ∷ b ∷ []) segment some is = absurd (omega (arith, some))
begins_with (a ∷ b ∷ c ∷ []) segment some is = absurd (omega (arith, some))
begins_with (a ∷ b ∷ c ∷ d ∷ bytes) segment some is = ap (λ (t : Bool). t || has_segment (b ∷ c ∷ d ∷ bytes) segment) is

-- fewer than four bytes have none
pub too_few : (bytes segment : List ℕ) → length bytes < 4 → has_segment bytes segment ≡ false
too_few [] segment few = refl
too_few (a ∷ []) segment few = refl
too_few (a ∷ b ∷ []) segment few = refl
too_few (a ∷ b ∷ c ∷ []) segment few = refl
too_few (a ∷ b ∷ c ∷ d ∷ bytes) segment few = absurd (omega (arith, few))

-- ---- the objects that are kept

abbrev Callees : Type 0
Callees = List Callee

not_branch : {X : Type 0} (b : Bool) (x y : X) → (if not b then x else y) ≡ (if b then y else x)
not_branch true x y = refl
not_branch false x y = refl

abbrev pub kept_as : Kept → Callees → Callees
kept_as All all = all
kept_as (Among among) all = all_among among.now all
kept_as (In bytes) all = named_in bytes.now all
kept_as (Other own) all = with_other own.now all

pub kept_is : (k : Kept) (all : Callees) → all_kept k all ≡ kept_as k all
kept_is All [] = refl
kept_is All (m ∷ all) = ap (λ (l : Callees). m ∷ l) (kept_is All all)
kept_is (Among among) [] = refl
kept_is (Among among) (m ∷ all) =
    ap (λ (l : Callees). if_kept (Among among) m ++ l) (kept_is (Among among) all)
    ∙ ap (λ (l : Callees). l ++ all_among among.now all) (not_branch (arity among.now (last_segment m.name) == 0) (m ∷ []) [])
kept_is (In bytes) [] = refl
kept_is (In bytes) (m ∷ all) = ap (λ (l : Callees). if_kept (In bytes) m ++ l) (kept_is (In bytes) all)
kept_is (Other own) [] = refl
kept_is (Other own) (m ∷ all) =
    ap (λ (l : Callees). if_kept (Other own) m ++ l) (kept_is (Other own) all)
    ∙ ap (λ (l : Callees). l ++ with_other own.now all) (not_branch (arity own.now (last_segment m.name) == m.args) (m ∷ []) [])

pub kept_both : (k : Kept) (a b : Callees) → all_kept k (a ++ b) ≡ all_kept k a ++ all_kept k b
kept_both k [] b = refl
kept_both k (m ∷ a) b =
    ap (λ (l : Callees). if_kept k m ++ l) (kept_both k a b) ∙ sym (append_assoc (if_kept k m) (all_kept k a) (all_kept k b))

-- those of a list of terms
pub kept_step : (k : Kept) (scope : List ℕ) (t : Term) (ts : List Term)
    → all_kept k (objects scope (views (t ∷ ts))) ≡ all_kept k (objects scope (single (view t))) ++ all_kept k (objects scope (views ts))
kept_step k scope t ts = ap (all_kept k) (made_step own_objects scope t ts) ∙ kept_both k (objects scope (single (view t))) (objects scope (views ts))

-- those of a term, and then those of its children in two lists
module _ (k : Kept) (scope inner : List ℕ) (t : Term) (h : Head) (w : ℕ) (a b : List Term) (apart : IsApart t h w a b) where
  pub kept_over : inner ≡ inside scope h → (text : List ℕ) → text ≡ scope
      → (old one two new : Callees) → one ≡ old ++ all_kept k (own_objects text h (views (a ++ b)))
      → two ≡ one ++ all_kept k (objects inner (views a)) → new ≡ two ++ all_kept k (objects inner (views b))
      → new ≡ old ++ all_kept k (objects scope (single (view t)))
  kept_over into text here old one two new p q r =
      let own = own_objects scope h (views (a ++ b)) in
      let first = objects inner (views a) in
      let second = objects inner (views b) in
      let whole : (own ++ first) ++ second ≡ objects scope (single (view t)) =
      made_over own_objects scope inner t h w a b apart into [] own (own ++ first) ((own ++ first) ++ second) refl refl refl
      in
      let kept : all_kept k (objects scope (single (view t))) ≡ (all_kept k own ++ all_kept k first) ++ all_kept k second =
      ap (all_kept k) (sym whole) ∙ kept_both k (own ++ first) second ∙ ap (λ (l : Callees). l ++ all_kept k second) (kept_both k own first)
      in
      r ∙ ap (λ (l : Callees). l ++ all_kept k second)
      (q
      ∙ ap (λ (l : Callees). l ++ all_kept k first) (p ∙ ap (λ (s : List ℕ). old ++ all_kept k (own_objects s h (views (a ++ b)))) here)
      ∙ append_assoc old (all_kept k own) (all_kept k first))
      ∙ append_assoc old (all_kept k own ++ all_kept k first) (all_kept k second) ∙ ap (λ (l : Callees). old ++ l) (sym kept)

-- all of a block
pub all_added : (ts : Terms) (old new : Callees) (root : List ℕ) → root ≡ [] → new ≡ old ++ all_kept All (objects root ts) → new ≡ old ++ objects [] ts
all_added ts old new root empty is =
    is ∙ ap (λ (s : List ℕ). old ++ all_kept All (objects s ts)) empty ∙ ap (λ (l : Callees). old ++ l) (kept_is All (objects [] ts))

-- those of a block, and of others
pub callees_kept : (k : Kept) (ts : Terms) (further old one all : Callees) (root : List ℕ) → old ≡ [] → root ≡ []
    → one ≡ old ++ all_kept k (objects root ts) → all ≡ one ++ all_kept k further → all ≡ kept_as k (objects [] ts ++ further)
callees_kept k ts further old one all root none empty p q =
    q
    ∙ ap (λ (l : Callees). l ++ all_kept k further)
    (p ∙ ap (λ (l : Callees). l ++ all_kept k (objects root ts)) none ∙ ap (λ (s : List ℕ). all_kept k (objects s ts)) empty)
    ∙ sym (kept_both k (objects [] ts) further) ∙ kept_is k (objects [] ts ++ further)

pub among_none : (all : Callees) → all_among [] all ≡ []
among_none [] = refl
among_none (m ∷ all) = among_none all

-- ---- the segments of objects

abbrev Counts : Type 0
Counts = List (List ℕ × ℕ)

pub segments_both : (a b : Callees) → segments (a ++ b) ≡ segments a ++ segments b
segments_both [] b = refl
segments_both (m ∷ a) b =
    ap (λ (l : Counts). own_segment m ++ l) (segments_both a b) ∙ sym (append_assoc (own_segment m) (segments a) (segments b))

named_none : (scope : List ℕ) (name : Option (List ℕ)) → segments (if_named scope name) ≡ []
named_none scope None = refl
named_none scope (Some name) = refl

unit_none : (scope : List ℕ) (e : Entry) → segments (own_unit scope e) ≡ []
unit_none scope (named name bits width) = named_none scope (as_segment name)
unit_none scope (reserved bits width) = refl
unit_none scope (access_as kind attrib) = refl
unit_none scope (extended_access_as kind attrib count) = refl
unit_none scope (connection name) = refl
unit_none scope (connection_buffer width size wide bytes) = refl

units_none : (scope : List ℕ) (entries : List Entry) → segments (own_units scope entries) ≡ []
units_none scope [] = refl
units_none scope (e ∷ entries) =
    segments_both (own_unit scope e) (own_units scope entries)
    ∙ ap (λ (l : Counts). l ++ segments (own_units scope entries)) (unit_none scope e) ∙ units_none scope entries

operand_none : (scope : List ℕ) (place : Option ℕ) (operands : Terms) → segments (own_operand scope place operands) ≡ []
operand_none scope None operands = refl
operand_none scope (Some place) operands = named_none scope (name_at place operands)

external_segment : (scope name : List ℕ) (kind args : ℕ)
    → segments (own_external scope name kind args) ≡ (if is_method kind args then segment_of name args else [])
external_segment scope name kind args =
    elim (is_method kind args) as (λ v. segments (if v then makes scope name args else if kind == 0 || kind == 8 then [] else makes scope name 0)
    ≡ (if v then segment_of name args else [])) [
      | true ↦ append-nil (segment_of name args)
      | false ↦ elim (kind == 0 || kind == 8) as (λ v. segments (if v then [] else makes scope name 0) ≡ []) [ true ↦ refl | false ↦ refl ]
    ]

own_made : (scope : List ℕ) (h : Head) (c : Terms) → segments (own_objects scope h c) ≡ own_segments h
own_made scope (number v) c = refl
own_made scope ones c = refl
own_made scope (string s) c = refl
own_made scope (local k) c = refl
own_made scope (arg k) c = refl
own_made scope (call name) c = refl
own_made scope (def_scope name) c = refl
own_made scope (def_device name) c = refl
own_made scope (def_method name args serialized) c = append-nil (segment_of name args)
own_made scope (def_power_res name level order) c = refl
own_made scope (def_field name access lock update entries) c = units_none scope entries
own_made scope (def_op_region name space) c = refl
own_made scope (def_name name) c = refl
own_made scope (def_mutex name level) c = refl
own_made scope (def_acquire name timeout) c = refl
own_made scope (def_release name) c = refl
own_made scope (def_buffer bytes) c = refl
own_made scope def_package c = refl
own_made scope def_var_package c = refl
own_made scope def_if c = refl
own_made scope def_while c = refl
own_made scope def_else c = refl
own_made scope (op o) c = operand_none scope (made_by o) c
own_made scope (def_external name kind args) c = external_segment scope name kind args
own_made scope (def_leveled_method name args serialized level) c = append-nil (segment_of name args)
own_made scope (def_processor name id address size) c = refl
own_made scope (def_thermal_zone name) c = refl
own_made scope (def_roomy_package room) c = refl
own_made scope (def_index_field index name access lock update entries) c = units_none scope entries
own_made scope (def_bank_field name bank access lock update entries) c = units_none scope entries
own_made scope (def_fatal kind code) c = refl
own_made scope (match_test k) c = refl
own_made scope (def_timeout t) c = refl
own_made scope (unread error bytes) c = refl

-- the segments of the objects of terms
pub segments_made : (scope : List ℕ) (ts : Terms) → segments (objects scope ts) ≡ segments_in ts
segments_made scope end = refl
segments_made scope (term h w c others) =
    let inner = objects (inside scope h) c in
    let after = objects scope others in
    segments_both (own_objects scope h c) (inner ++ after)
    ∙ ap (λ (l : Counts). l ++ segments (inner ++ after)) (own_made scope h c)
    ∙ ap (λ (l : Counts). own_segments h ++ l)
    (segments_both inner after ∙ ap (λ (l : Counts). l ++ segments after) (segments_made (inside scope h) c)
    ∙ ap (λ (l : Counts). segments_in c ++ l) (segments_made scope others))

pub segments_step : (t : Term) (ts : List Term) → segments_in (views (t ∷ ts)) ≡ segments_in (single (view t)) ++ segments_in (views ts)
segments_step t ts =
    let own = own_segments (view t).0 in
    let inner = segments_in (view t).2 in
    ap (λ (l : Counts). own ++ (l ++ segments_in (views ts))) (sym (append-nil inner)) ∙ sym (append_assoc own (inner ++ []) (segments_in (views ts)))

in_both : (a b : List Term) → segments_in (views (a ++ b)) ≡ segments_in (views a) ++ segments_in (views b)
in_both [] b = refl
in_both (t ∷ a) b =
    let one = segments_in (single (view t)) in
    segments_step t (a ++ b) ∙ ap (λ (l : Counts). one ++ l) (in_both a b) ∙ sym (append_assoc one (segments_in (views a)) (segments_in (views b)))
    ∙ ap (λ (l : Counts). l ++ segments_in (views b)) (sym (segments_step t a))

-- that of a term, and then those of its children in two lists
pub segments_over : (t : Term) (h : Head) (w : ℕ) (a b : List Term) → IsApart t h w a b → (old one two new : Counts)
    → one ≡ with_all old (own_segments h) → two ≡ with_all one (segments_in (views a)) → new ≡ with_all two (segments_in (views b))
    → new ≡ with_all old (segments_in (single (view t)))
segments_over t h w a b apart old one two new p q r =
    let own = own_segments h in
    let first = segments_in (views a) in
    let second = segments_in (views b) in
    let children : first ++ second ≡ segments_in (view t).2 ++ [] =
    sym (in_both a b) ∙ ap segments_in apart.children ∙ sym (append-nil (segments_in (view t).2))
    in
    r ∙ ap (λ (l : Counts). with_all l second) (q ∙ ap (λ (l : Counts). with_all l first) p) ∙ sym (both_added (with_all old own) first second)
    ∙ ap (with_all (with_all old own)) children ∙ sym (both_added old own (segments_in (view t).2 ++ []))
    ∙ ap (λ (k : Head). with_all old (own_segments k ++ (segments_in (view t).2 ++ []))) apart.head

-- those of a block, and then those of others
pub segments_all : (ts : Terms) (further : Callees) (one all : Counts) → one ≡ with_all [] (segments_in ts) → all ≡ with_all one (segments further)
    → all ≡ with_all [] (segments (objects [] ts ++ further))
segments_all ts further one all p q =
    q ∙ ap (λ (l : Counts). with_all l (segments further)) (p ∙ ap (with_all []) (sym (segments_made [] ts)))
    ∙ sym (both_added [] (segments (objects [] ts)) (segments further)) ∙ ap (with_all []) (sym (segments_both (objects [] ts) further))
