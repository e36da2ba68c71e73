-- Labels of structures: what a map has for them, with a further one.
use Rattle.std.proofs.Common.{◌≡◌, ℕ, true, List, [], ◌∷◌, Option, Some, refl, ◌∙◌, arith, nat_cmp, Bor, subst}
use Rattle.std.proofs.lemmas.Map.Text.{btree_map_updates_str}
use Rattle.std.specs.BTreeMap.{BTreeMap, UpdatesBy}
use Rattle.std.specs.Cmp.Lexicographic.{bytes_decides, slice_cmp}
use Rattle.std.specs.Str.{bytes_eq}
use Rattle.acpi_make.specs.Own.{alone, has_label, labelled, PutsLabel}

-- a heading has the label that it begins with
has_label_is : (label wanted : List ℕ) → bytes_eq label wanted ≡ has_label wanted (Some label)
has_label_is [] [] = refl
has_label_is [] (d ∷ wanted) = refl
has_label_is (c ∷ label) [] = refl
has_label_is (c ∷ label) (d ∷ wanted) = grind (arith, has_label_is label wanted)

-- a label that a heading has is the heading's
same : (label wanted : List ℕ) → has_label wanted (Some label) ≡ true → label ≡ wanted
same label wanted is = (bytes_decides label wanted).0 (has_label_is label wanted ∙ is)

-- a map after an insertion
pub puts : (old new : BTreeMap (Bor (List ℕ)) (Option ℕ)) (label : List ℕ) (at : ℕ) (place : Option ℕ)
    → place ≡ alone at (labelled old label)
    → UpdatesBy (λ x y. slice_cmp nat_cmp x.now y.now) (λ k. slice_cmp nat_cmp label k.now) old new (Some place)
    → PutsLabel old new (Some label) at
puts old new label at place is h wanted =
    let found = btree_map_updates_str label old new (Some place) h wanted in
    let eq = has_label_is label wanted in
    let one = same label wanted in
    grind (arith, found, eq, one, is)

-- the same, where the label is that of a heading
pub of_heading : (old new : BTreeMap (Bor (List ℕ)) (Option ℕ)) (label found : Option (List ℕ)) (at : ℕ) → label ≡ found
    → PutsLabel old new label at → PutsLabel old new found at
of_heading old new label found at is h = subst (λ (l : Option (List ℕ)). PutsLabel old new l at) is h
