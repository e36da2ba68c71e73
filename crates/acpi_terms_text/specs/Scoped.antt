-- Calls by the search rules of names (ACPI 6.5, 5.3).
use Rattle.std.specs.Prelude.{◌≡◌, ◌≢◌, ◌⊎◌, ℕ, zero, suc, ◌==◌, ◌/◌, not, ◌&&◌, ◌||◌, Bool, true, false, map}
use Rattle.std.specs.Prelude.{if◌then◌else◌, List, [], ◌∷◌, ◌++◌, length, drop, nat_eq, nat_lt, Option, Some, None}
use Rattle.std.specs.List.{starts_with}
use Rattle.std.specs.Option.{option_map}
use Rattle.std.specs.Str.{bytes_eq}
use Rattle.acpi_read.specs.Terms.{AreReadIn, IsUnreadIn}
use Rattle.acpi_term.specs.Arity.{arity_above, grammar_by, is_stated, with_all}
use Rattle.acpi_term.specs.Carried.{AreCarried}
use Rattle.acpi_term.specs.Name.{without_parents}
use Rattle.acpi_term.specs.PathText.{is_rooted, name_of_segments}
use Rattle.acpi_term.specs.Spelling.{spelling}
use Rattle.acpi_term.specs.Tree.{Head, call, def_scope, def_device, def_method, def_power_res, def_leveled_method}
use Rattle.acpi_term.specs.Tree.{def_processor, def_thermal_zone, def_if, def_else, def_while, unread, Terms, end, term}
use Rattle.acpi_term.specs.declared.language.Language.TheVariants.{Standard}
use Rattle.acpi_term.specs.declared.read_error.ReadError.{ReadError}
use Rattle.acpi_term.specs.declared.read_error.ReadError.TheVariants.{Memory}
use Rattle.acpi_terms_text.specs.Objects.{inside, as_segment, counted, Callee, callee_by, called, all_callees, named_in}
use Rattle.acpi_terms_text.specs.Objects.{args_at, predefined, with_other}
use Rattle.acpi_terms_text.specs.Path.{parent, path_in, last_segment}
use Rattle.acpi_terms_text.specs.declared.scoped.Sought.{Sought}
use Rattle.acpi_terms_text.specs.declared.scoped.Sought.TheVariants.{Name, Path, Unread}

-- ---- the objects that are near to a scope

-- an object by its last segment, if it is in this scope
abbrev pub here : List ℕ → Callee → List (List ℕ × ℕ)
here scope m = if bytes_eq (parent m.path) scope then counted m.args (as_segment (last_segment m.name)) else []

abbrev pub made_in : List ℕ → List Callee → List (List ℕ × ℕ)
made_in scope [] = []
made_in scope (m ∷ all) = here scope m ++ made_in scope all

-- those of a scope, and then those of the n scopes around it
abbrev pub near : ℕ → List ℕ → List Callee → List (List ℕ × ℕ)
near zero scope all = made_in scope all
near (suc n) scope all = made_in scope all ++ near n (parent scope) all

-- those of a scope and of all scopes around it; the nearest comes first
abbrev pub nearest : List ℕ → List Callee → List (List ℕ × ℕ)
nearest scope all = near (length scope / 4) scope all

-- ---- the objects by their paths from a scope

-- bytes that are all `^`
abbrev pub AreParents : List ℕ → Type 0
AreParents [] = Unit {0}
AreParents (b ∷ up) = (b ≡ 0x5e) × AreParents up

-- an object by the segments of its path after those of a scope, if it is in this scope or deeper; before them stand these `^`
abbrev pub below : List ℕ → List ℕ → Callee → List (List ℕ × ℕ)
below up scope m =
    if starts_with nat_eq m.path scope
    then counted m.args (option_map (λ s. up ++ s) (name_of_segments false (drop (length scope) m.path))) else []

abbrev pub all_below : List ℕ → List ℕ → List Callee → List (List ℕ × ℕ)
all_below up scope [] = []
all_below up scope (m ∷ all) = below up scope m ++ all_below up scope all

-- those of a scope, and then those of the n scopes around it, with a `^` more for each
abbrev pub relative : ℕ → List ℕ → List ℕ → List Callee → List (List ℕ × ℕ)
relative zero up scope all = all_below up scope all
relative (suc n) up scope all = all_below up scope all ++ relative n (0x5e ∷ up) (parent scope) all

-- those of a scope and of all scopes around it
abbrev pub all_relative : List ℕ → List Callee → List (List ℕ × ℕ)
all_relative scope all = relative (length scope / 4) [] scope all

-- ---- the terms of a method's body

-- whether a head is this name, or has bytes that aren't read, which may have it
abbrev pub may_name : List ℕ → Head → Bool
may_name name (call other) = bytes_eq other name
may_name name (unread error bytes) = true
may_name name _ = false

-- whether one of these terms, or of those in them, has such a head
abbrev pub any : (Head → Bool) → Terms → Bool
any is end = false
any is (term h w children others) = is h || (any is children || any is others)

-- whether terms have one of these names
abbrev pub have_name : Terms → List (List ℕ × ℕ) → Bool
have_name terms [] = false
have_name terms (a ∷ all) = any (may_name a.0) terms || have_name terms all

-- whether a name is one whose object depends on the scope, and that isn't searched: it begins with `^`, or has several segments
abbrev pub is_relative : List ℕ → Bool
is_relative name = nat_lt 4 (length name) && not (is_rooted name)

-- whether there is a number, and it is another than this one
abbrev pub is_other : Option ℕ → ℕ → Bool
is_other None n = false
is_other (Some m) n = not (m == n)

-- whether such a name in a scope is that of an object with another number of arguments than the name has in a list; what is after
-- `^` has a number there, too, if it is the end of an object's path
abbrev pub has_other : List (List ℕ × ℕ) → List Callee → List ℕ → List ℕ → Bool
has_other own all scope name =
    is_relative name && is_stated own (without_parents name)
    && is_other (args_at (path_in scope name) all) (arity_above own name)

-- whether a head is one, or has bytes that aren't read
abbrev pub may_be_other : List (List ℕ × ℕ) → List Callee → List ℕ → Head → Bool
may_be_other own all scope (call name) = has_other own all scope name
may_be_other own all scope (unread error bytes) = true
may_be_other own all scope _ = false

-- whether a head stands for bytes that aren't read
abbrev pub is_unread : Head → Bool
is_unread (unread error bytes) = true
is_unread _ = false

-- what is looked for in terms
abbrev pub sought : Sought → Head → Bool
sought (Name name) = may_name name.now
sought (Path own all scope) = may_be_other own.now (map callee_by all.now) scope.now
sought Unread = is_unread

-- Whether terms in a scope may have other numbers than those of a list, by which they were read. These are all objects, and those
-- of them whose last segment has another number.
abbrev pub are_other : List (List ℕ × ℕ) → List Callee → List Callee → List ℕ → Terms → Bool
are_other own [] differing scope terms = false
are_other own (m ∷ all) differing scope terms =
    have_name terms (nearest scope differing) || any (may_be_other own (m ∷ all) scope) terms

-- The numbers in a scope: those that a caller states, those of the nearest objects, those of objects by their paths from the
-- scope, and then those of the whole block. If there are several for a name, the first one holds.
abbrev pub numbers_in : List (List ℕ × ℕ) → List Callee → List ℕ → List (List ℕ × ℕ)
numbers_in stated all scope =
    with_all (with_all (with_all (with_all stated (nearest scope all)) (all_relative scope all)) (called all)) predefined

-- those by which terms in a scope are read again: of the objects whose names their bytes may have
abbrev pub numbers_for : List (List ℕ × ℕ) → List Callee → List ℕ → Terms → List (List ℕ × ℕ)
numbers_for stated all scope terms = numbers_in stated (named_in (spelling terms) all) scope

-- the bytes of these terms spell others with other numbers
abbrev pub AreReadAgain : List (List ℕ × ℕ) → Terms → Terms → Type 0
AreReadAgain numbers old new = AreReadIn (grammar_by Standard numbers) (spelling old) new

-- the terms stay, since their bytes spell no terms with these numbers
pub record AreKept (numbers : List (List ℕ × ℕ)) (old new : Terms) : Type 0 where
  pub is : new ≡ old
  pub error : ReadError
  pub no_memory : error ≢ Memory
  pub unread : AreCarried old → IsUnreadIn (grammar_by Standard numbers) (spelling old) error

abbrev pub AreIfRead : Bool → List (List ℕ × ℕ) → Terms → Terms → Type 0
AreIfRead false numbers old new = new ≡ old
AreIfRead true numbers old new = AreReadAgain numbers old new ⊎ AreKept numbers old new

-- ---- the terms of a block

-- where the names of a head's children are looked for
pub data Body : Type 0 where
  -- in the scope that the head makes, or in the one around it; only the methods there are read again
  space : Body
  -- in that scope
  code : Body
  -- the children are those of the whole block
  other : Body

abbrev pub body : Head → Body
body (def_scope name) = space
body (def_device name) = space
body (def_power_res name level order) = space
body (def_processor name id address size) = space
body (def_thermal_zone name) = space
body def_if = space
body def_else = space
body def_while = space
body (def_method name args serialized) = code
body (def_leveled_method name args serialized level) = code
body _ = other

abbrev pub OfBody : Body → Type 0 → Type 0 → Type 0 → Type 0
OfBody space a b c = a
OfBody code a b c = b
OfBody other a b c = c

module _ (stated : List (List ℕ × ℕ)) (all differing : List Callee) (own : List (List ℕ × ℕ)) where
  -- the terms of a method's body in this scope
  abbrev pub IsBody : List ℕ → Terms → Terms → Type 0
  IsBody scope old new = AreIfRead (are_other own all differing scope old) (numbers_for stated all scope old) old new

  -- Terms in a scope, of which each method's body was read with the numbers of its scope.
  abbrev pub AreScoped : List ℕ → Terms → Terms → Type 0
  AreScoped scope end end = Unit {0}
  AreScoped scope end (term h w children others) = ⊥
  AreScoped scope (term h w children others) end = ⊥
  AreScoped scope (term h w children others) (term h' w' children' others') =
      (h' ≡ h)
      × (w' ≡ w)
      × OfBody (body h) (AreScoped (inside scope h) children children') (IsBody (inside scope h) children children')
      (children' ≡ children)
      × AreScoped scope others others'

-- The terms of a block that were read with the numbers `own`, of which each method's body was read with the numbers of its scope,
-- by the block's objects and those of further blocks.
abbrev pub AreInScopes : List (List ℕ × ℕ) → List Callee → List (List ℕ × ℕ) → Terms → Terms → Type 0
AreInScopes stated further own old new =
    AreScoped stated (all_callees old further) (with_other own (all_callees old further)) own [] old new
