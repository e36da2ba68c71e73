-- Names after `^`, and objects by their paths from scopes.
use Rattle.std.proofs.Common.{◌≡◌, ℕ, zero, suc, ◌/◌, ◌-◌, ◌<◌, ◌==◌, Bool, true, false, cond, eqb, List, [], ◌∷◌, ◌++◌, length, Option, Some, None, refl, sym, ap, subst, ◌∙◌, arith}
use Rattle.std.specs.Prelude.{◌&&◌, nat_le, take, drop}
use Rattle.std.specs.Str.{bytes_eq}
use Rattle.std.proofs.lemmas.List.{length-take-le}
use Rattle.std.proofs.lemmas.Bool.{and_parts}
use Rattle.std.proofs.lemmas.Bool.Decides.{nat_tests}
use Rattle.acpi_term.specs.Arity.{with_all}
use Rattle.acpi_term.specs.Name.{is_lead, is_part, is_segment, IsAbove, path_above, further_up, relative, rooted, IsNameString, as_written, root_alone, upwards}
use Rattle.acpi_term.specs.PathText.{is_rooted, are_segments, lead, name_of_segments}
use Rattle.acpi_terms_text.specs.Objects.{Callee}
use Rattle.acpi_terms_text.specs.Path.{parent}
use Rattle.acpi_terms_text.specs.Scoped.{AreParents, all_below, relative as relative_names}
use Rattle.acpi_terms_text.proofs.Walks.{both_added}

-- ---- names after `^`

lead_unrooted : (b : ℕ) → is_lead b ≡ true → eqb b 92 ≡ false
lead_unrooted b h = grind (arith, nat_tests)

first_lead : (a b c d : ℕ) → is_segment a b c d ≡ true → is_lead a ≡ true
unfolding is_segment
first_lead a b c d h =
    (and_parts (is_lead a) (is_part b) (and_parts (is_lead a && is_part b) (is_part c) (and_parts (is_lead a && is_part b && is_part c) (is_part d) h).0).0).0

-- segments, and what says how many there are, begin with no root
unrooted_lead : (one two : Bool) (n : ℕ) (s : List ℕ) → is_rooted s ≡ false → is_rooted (cond one [] (cond two (0x2e ∷ []) (0x2f ∷ n ∷ [])) ++ s) ≡ false
unrooted_lead true two n s is = is
unrooted_lead false true n s is = refl
unrooted_lead false false n s is = refl

unrooted_segments : (s : List ℕ) → are_segments s ≡ true → is_rooted s ≡ false
unrooted_segments [] h = refl
unrooted_segments (a ∷ []) h = absurd cc
unrooted_segments (a ∷ b ∷ []) h = absurd cc
unrooted_segments (a ∷ b ∷ c ∷ []) h = absurd cc
unrooted_segments (a ∷ b ∷ c ∷ d ∷ s) h = lead_unrooted a (first_lead a b c d (and_parts (is_segment a b c d) (are_segments s) h).0)

unrooted_name : (t : Bool) (s n : List ℕ) → (t ≡ true → is_rooted s ≡ false) → ◌≡◌ {A = Option (List ℕ)} (cond t (Some s) None) (Some n) → is_rooted n ≡ false
unrooted_name true s n is e = subst (λ (o : Option (List ℕ)). is_some_unrooted o) e (is refl)
  where
    is_some_unrooted : Option (List ℕ) → Type 0
    is_some_unrooted None = Unit {0}
    is_some_unrooted (Some m) = is_rooted m ≡ false
unrooted_name false s n is e = absurd cc

-- a name that isn't rooted, after one `^` more
stands_above : (s : List ℕ) → IsNameString s → is_rooted s ≡ false → IsAbove s
stands_above _ (as_written (relative p)) is = path_above p
stands_above _ (as_written (rooted p)) is = absurd cc
stands_above _ root_alone is = absurd cc
stands_above _ (upwards a) is = further_up a

all_above : (up s : List ℕ) → AreParents up → IsAbove s → IsAbove (up ++ s)
all_above [] s are is = is
all_above (b ∷ up) s are is = rw are.0 (further_up (all_above up s are.1 is))

pub name_above : (up s : List ℕ) → AreParents up → IsNameString s → is_rooted s ≡ false → IsNameString (up ++ s)
name_above [] s are is down = is
name_above (b ∷ up) s are is down = rw are.0 (upwards (all_above up s are.1 (stands_above s is down)))

-- the name of segments, after these `^`
pub is_name : (up s n : List ℕ) → AreParents up → IsNameString n → name_of_segments false s ≡ Some n → IsNameString (up ++ n)
is_name up s n are is e =
    let k = length s / 4 in
    let down : is_rooted n ≡ false =
    unrooted_name (are_segments s && nat_le 1 k && nat_le k 255) (lead k ++ s) n
    (λ h. unrooted_lead (k == 1) (k == 2) k s (unrooted_segments s (and_parts (are_segments s) (nat_le 1 k) (and_parts (are_segments s && nat_le 1 k) (nat_le k 255) h).0).0)) e
    in
    name_above up n are is down

-- ---- scopes

-- one `^` more
pub one_more_up : (up : List ℕ) → AreParents up → (up ++ 0x5e ∷ [] ≡ 0x5e ∷ up) × AreParents (0x5e ∷ up)
one_more_up [] are = (refl, (refl, tt))
one_more_up (b ∷ up) are =
    let inner = one_more_up up are.1 in
    (rw are.0 (ap (λ (l : List ℕ). 0x5e ∷ l) inner.0), (refl, are))

abbrev Counts : Type 0
Counts = List (List ℕ × ℕ)

-- the scope around a scope has a segment less
parent_length : (scope : List ℕ) → length (parent scope) ≡ length scope - 4
parent_length scope = length-take-le (length scope - 4) scope (omega arith)

pub one_scope_less : (scope outer : List ℕ) → outer ≡ parent scope → length outer / 4 ≡ length scope / 4 - 1
one_scope_less scope outer is =
    let short : length outer ≡ length scope - 4 = ap length is ∙ parent_length scope in
    omega (arith, short)

module _ (all : List Callee) where
  relative_more : (n : ℕ) (up scope : List ℕ) → 0 < n
      → relative_names n up scope all ≡ all_below up scope all ++ relative_names (n - 1) (0x5e ∷ up) (parent scope) all
  relative_more zero up scope some = absurd (omega (arith, some))
  relative_more (suc n) up scope some =
      let same : n ≡ suc n - 1 = omega arith in
      ap (λ (k : ℕ). all_below up scope all ++ relative_names k (0x5e ∷ up) (parent scope) all) same

  -- the scope around this one, around which k are left
  pub relative_on : (n k : ℕ) (up more scope outer : List ℕ) (now new whole : Counts) → 0 < n → k ≡ n - 1 → more ≡ 0x5e ∷ up → outer ≡ parent scope
      → new ≡ with_all now (all_below up scope all) → with_all now (relative_names n up scope all) ≡ whole
      → with_all new (relative_names k more outer all) ≡ whole
  relative_on n k up more scope outer now new whole some left is out added before =
      let next = all_below up scope all in
      let rest = relative_names (n - 1) (0x5e ∷ up) (parent scope) all in
      let remaining : relative_names k more outer all ≡ rest = rw (left, is, out) refl in
      ap (with_all new) remaining ∙ ap (λ (l : Counts). with_all l rest) added ∙ sym (both_added now next rest)
      ∙ ap (with_all now) (sym (relative_more n up scope some)) ∙ before

  -- the outermost
  pub relative_end : (n : ℕ) (up scope : List ℕ) (now new whole : Counts) → n ≡ 0 → new ≡ with_all now (all_below up scope all)
      → with_all now (relative_names n up scope all) ≡ whole → new ≡ whole
  relative_end n up scope now new whole none added before =
      added ∙ sym (ap (λ (k : ℕ). with_all now (relative_names k up scope all)) none) ∙ before

-- ---- paths in two parts

module _ (rest : List ℕ) where
  -- a path that begins with the first part
  pub joined_is : (front path : List ℕ) → bytes_eq (take (length front) path) front ≡ true
      → bytes_eq (drop (length front) path) rest ≡ bytes_eq path (front ++ rest)
  joined_is [] path same = refl
  joined_is (a ∷ front) [] same = absurd cc
  joined_is (a ∷ front) (b ∷ path) same =
      let both = and_parts (b == a) (bytes_eq (take (length front) path) front) same in
      joined_is front path both.1 ∙ ap (λ (t : Bool). t && bytes_eq path (front ++ rest)) (sym both.0)

  -- another path
  pub not_joined : (front path : List ℕ) → bytes_eq (take (length front) path) front ≡ false → false ≡ bytes_eq path (front ++ rest)
  not_joined [] path other = absurd cc
  not_joined (a ∷ front) [] other = refl
  not_joined (a ∷ front) (b ∷ path) other =
      elim (b == a) as (λ t. (t && bytes_eq (take (length front) path) front) ≡ false → false ≡ (t && bytes_eq path (front ++ rest))) [
        | true ↦ not_joined front path
        | false ↦ λ e. refl
      ] other
