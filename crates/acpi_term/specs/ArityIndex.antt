-- The numbers of a list of names, by name.
use Rattle.std.specs.Prelude.{◌≡◌, ℕ, if◌then◌else◌, List, [], ◌∷◌, ◌++◌, Option, Some, None, IfSome}
use Rattle.std.specs.BTreeMap.{get_by}
use Rattle.std.specs.Cmp.Lexicographic.{slice_cmp}
use Rattle.std.specs.Ordering.{nat_cmp}
use Rattle.std.specs.Str.{bytes_eq}
use Rattle.acpi_term.specs.declared.arity_index.ArityIndex.{ArityIndex}

-- the number that a list states first for a name
abbrev pub number_of : List (List ℕ × ℕ) → List ℕ → Option ℕ
number_of [] name = None
number_of (a ∷ all) name = if bytes_eq a.0 name then Some a.1 else number_of all name

-- the number of a name in an index
abbrev pub found : ArityIndex → List ℕ → Option ℕ
found index name = get_by (λ key. slice_cmp nat_cmp name key.items) index.numbers

-- an index finds for each name what a list states first
abbrev pub Indexes : ArityIndex → List (List ℕ × ℕ) → Type 0
Indexes index all = (name : List ℕ) → found index name ≡ number_of all name

-- an index of a list, if there is one
abbrev pub IsIndexed : Option ArityIndex → List (List ℕ × ℕ) → Type 0
IsIndexed index all = IfSome index (λ i. Indexes i all)

-- what an index of a list is with a further number: one of the list with this number at its end
abbrev pub Adds : ArityIndex → ArityIndex → List ℕ × ℕ → Type 0
Adds old new a = (all : List (List ℕ × ℕ)) → Indexes old all → Indexes new (all ++ a ∷ [])
