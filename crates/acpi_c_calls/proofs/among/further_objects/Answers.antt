use Rattle.std.proofs.Common.{◌≡◌, ℕ, List, take, drop, map, subst, rules}
use Rattle.acpi_terms_text.specs.Objects.{callee_by, AddObjectsIn}
use Rattle.acpi_c_calls.specs.Among.{IsFurther}
use Rattle.acpi_c_calls.proofs.Amongs.{next_block}
use Rattle.acpi_c_calls.proofs.among.further_objects.Goals as goal

pub tables-preserved : goal.tables-preserved
tables-preserved c =
    let n = c.in-Some.size in
    let rest = c.tables.rest.now in
    let block : c.split_at.result.0.now ≡ take n rest = search rules in
    let more : c.split_at.result.1.now ≡ drop n rest = search rules in
    let is : IsFurther (take n rest) = search rules in
    let added = subst (λ (b : List ℕ). AddObjectsIn c.args.stated.now (drop 36 b) (map callee_by c.tables.all.items) (map callee_by c.add_block.new.all.items)) block c.in_ok-add_block.ensures in
    rw more (next_block c.args.stated.now c.args.bytes.now rest n _ _ c.tables.invariant is added)
