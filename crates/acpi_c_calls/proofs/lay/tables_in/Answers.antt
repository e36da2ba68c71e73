use Rattle.std.proofs.Common.{◌≡◌, ℕ, List, [], ◌∷◌, ◌++◌, Some, take, drop, map, ap, ◌∙◌, rules}
use Rattle.std.proofs.lemmas.List.{map-append}
use Rattle.acpi_c_calls.specs.Lay.{first_table}
use Rattle.acpi_c_calls.proofs.Layings.{next_table}
use Rattle.acpi_c_calls.proofs.lay.tables_in.Goals as goal

pub tables-preserved : goal.tables-preserved
tables-preserved c =
    let n = c.in-Some.size in
    let rest = c.tables.rest.now in
    let first : first_table rest ≡ Some n = search rules in
    let table : c.in_ok-from_slice.field-0.items ≡ take n rest = search rules in
    let is : map (λ table. table.items) c.push.new.self.items ≡ map (λ table. table.items) c.tables.tables.items ++ take n rest ∷ [] =
    ap (map (λ table. table.items)) c.in_ok-push.ensures.items ∙ map-append (λ table. table.items) c.tables.tables.items (c.in_ok-from_slice.field-0 ∷ [])
    ∙ ap (λ (t : List ℕ). map (λ table. table.items) c.tables.tables.items ++ t ∷ []) table in
    let more : c.split_at.result.1.now ≡ drop n rest = search rules in
    rw (is, more) (next_table (map (λ table. table.items) c.tables.tables.items) c.args.bytes.now rest n c.tables.invariant.0 c.tables.invariant.1 first)
