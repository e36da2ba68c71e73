-- Structures that were found in a table.
use Rattle.std.proofs.Common.{◌≡◌, ℕ, ◌+◌, ◌<◌, ◌≤◌, List, ◌∷◌, length, drop, get_or, map, All, sym, subst, ap, ◌∙◌}
use Rattle.std.specs.List.{concat}
use Rattle.std.proofs.lemmas.List.{at_drop_more, at_drop_all}
use Rattle.std.proofs.lemmas.List.Elements.{All-map}
use Rattle.acpi_base.specs.Walk.{offsets_from}
use Rattle.acpi_base.specs.FurtherWalk.{AreStructuresOf}
use Rattle.acpi_read.specs.Pieces.{structure_offsets_of}
use Rattle.test_support.specs.Expected.{ReadsBack}

module _ {P : Type 0} (bytes : P → List ℕ) (offset : P → ℕ) (ps : List P) (i at : ℕ) where
  -- the piece at an offset, and those after it
  pub placed_more : (next : ℕ) (p : P) → i < length ps → p ≡ get_or ps i p → offset p ≡ at → next ≡ at + length (bytes p)
      → offsets_from next (map bytes (drop (i + 1) ps)) ≡ map offset (drop (i + 1) ps)
      → offsets_from at (map bytes (drop i ps)) ≡ map offset (drop i ps)
  placed_more next p inside is here after rest =
      let one : offsets_from at (map bytes (drop i ps)) ≡ at ∷ offsets_from (at + length (bytes (get_or ps i p))) (map bytes (drop (i + 1) ps))
      = at_drop_more (λ (l : List P). offsets_from at (map bytes l)) ps i p inside in
      let two : map offset (drop i ps) ≡ offset (get_or ps i p) ∷ map offset (drop (i + 1) ps) = at_drop_more (map offset) ps i p inside in
      let step : at + length (bytes (get_or ps i p)) ≡ next = ap (λ (q : P). at + length (bytes q)) (sym is) ∙ sym after in
      let first : at ≡ offset (get_or ps i p) = sym here ∙ ap offset is in
      one
      ∙ ap (λ (n : ℕ). at ∷ offsets_from n (map bytes (drop (i + 1) ps))) step
      ∙ ap (λ (l : List ℕ). at ∷ l) rest
      ∙ ap (λ (n : ℕ). n ∷ map offset (drop (i + 1) ps)) first
      ∙ sym two

  -- no pieces are left
  pub placed_all : length ps ≤ i → offsets_from at (map bytes (drop i ps)) ≡ map offset (drop i ps)
  placed_all past =
      at_drop_all (λ (l : List P). offsets_from at (map bytes l)) ps i past ∙ sym (at_drop_all (map offset) ps i past)

pub read_back : {P : Type 0} (bytes : P → List ℕ) (offset : P → ℕ) (ps qs : List P) (checked table structures : List ℕ) (start size : ℕ)
    → qs ≡ ps → checked ≡ table → AreStructuresOf checked (map bytes ps) → map offset ps ≡ structure_offsets_of checked (map bytes ps)
    → All (λ p. length (bytes p) ≡ size) qs → offsets_from start (map bytes qs) ≡ map offset qs → concat (map bytes qs) ≡ structures
    → ReadsBack start size structures table
read_back {P} bytes offset ps qs checked table structures start size same is found are sized placed joined = record {
  pieces = map bytes ps;
  found = subst (λ (l : List ℕ). AreStructuresOf l (map bytes ps)) is found;
  sized = All-map (λ (piece : List ℕ). length piece ≡ size) bytes ps (subst (λ (l : List P). All (λ p. length (bytes p) ≡ size) l) same sized);
  placed = subst (λ (l : List ℕ). structure_offsets_of l (map bytes ps) ≡ map offset ps) is (sym are) ∙ ap (map offset) (sym same) ∙ sym placed ∙ ap (λ (l : List P). offsets_from start (map bytes l)) same;
  joined = ap (λ (l : List P). concat (map bytes l)) (sym same) ∙ joined;
}
