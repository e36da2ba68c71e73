use Rattle.std.proofs.Common.{length, drop, sym, ◌∙◌, ap, arith}
use Rattle.std.proofs.lemmas.List.{drop-drop, length-drop}
use Rattle.acpi_text.specs.Size.{inner_size}
use Rattle.acpi_rules.specs.Field.{inner_fields}
use Rattle.acpi_rules.specs.Field.{no_fields}
use Rattle.acpi_text.proofs.Pieces.{inner_within, has_next, goes_on}
use Rattle.acpi_rules.proofs.table.push_list.Goals as goal

pub inners-preserved : goal.inners-preserved
inners-preserved c =
    let list = c.args.list.now in
    let rest = c.inners.rest.now in
    let found = sym c.next_size.ensures ∙ c.in-Some.is in
    let fits = inner_within list c.in-Some.size rest (has_next c.inners.left (inner_size list) rest c.in-Some.size found).1 in
    record {
      within = omega (arith, c.inners.invariant.within, fits.fits, ap length c.inners.invariant.back, length-drop c.inners.at c.args.bytes.now);
      back = c.split_at.ensures.back ∙ ap (drop c.in-Some.size) c.inners.invariant.back ∙ drop-drop c.in-Some.size c.inners.at c.args.bytes.now;
      shown = goes_on (inner_size list) (inner_fields list) no_fields c.args.count c.args.start c.args.bytes.now _ c.inners.left c.inners.at c.in-Some.size rest _ _ _ _
          c.inners.invariant.shown found c.split_at.ensures.front c.split_at.ensures.back c.in_ok-push_inner.ensures;
    }

pub split_at-requires : goal.split_at-requires
split_at-requires c =
    let list = c.args.list.now in
    let found = sym c.next_size.ensures ∙ c.in-Some.is in
    (inner_within list c.in-Some.size c.inners.rest.now (has_next c.inners.left (inner_size list) c.inners.rest.now c.in-Some.size found).1).fits
