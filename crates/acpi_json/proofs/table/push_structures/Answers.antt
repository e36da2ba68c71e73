use Rattle.std.proofs.Common.{sym, ◌∙◌, arith}
use Rattle.acpi_text.proofs.Pieces.{front_within}
use Rattle.acpi_text.specs.Structure.{all_forms}
use Rattle.acpi_json.proofs.Structures.{element_added}
use Rattle.acpi_json.proofs.table.push_structures.Goals as goal

pub structures-preserved : goal.structures-preserved
structures-preserved c =
    let within = front_within (c.args.walk.now.sizes) c.in-Some.size c.structures.rest.now (sym c.front_size.ensures
    ∙ c.in-Some.is) in
    record {
      fits = omega (arith, c.structures.invariant.fits, within.fits, c.split_at.ensures.back_len);
      parts = element_added c.args.walk.now.kind (all_forms c.args.table.now) (c.args.walk.now.sizes) c.structures.first
          c.structures.at c.in-Some.size c.front_size.result c.structures.rest.now _ _ _ _ _ _ c.front_size.ensures c.in-Some.is
          c.split_at.ensures.front c.split_at.ensures.back c.structures.invariant.parts c.in_ok-push_separator.ensures
          c.in_ok-push_structure.ensures;
    }

pub split_at-requires : goal.split_at-requires
split_at-requires c = (front_within (c.args.walk.now.sizes) c.in-Some.size c.structures.rest.now (sym c.front_size.ensures ∙ c.in-Some.is)).fits

pub structures-smaller : goal.structures-smaller
structures-smaller c =
    let within = front_within (c.args.walk.now.sizes) c.in-Some.size c.structures.rest.now (sym c.front_size.ensures ∙ c.in-Some.is) in
    omega (arith, within.some, within.fits, c.split_at.ensures.back_len)
