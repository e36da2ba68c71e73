use Rattle.std.proofs.Common.{◌≤◌, ◌-◌, ◌+◌, sym, ap, ◌∙◌, arith, rules}
use Rattle.acpi_text.proofs.Pieces.{front_within}
use Rattle.acpitool_program.specs.Structures.{broken_at}
use Rattle.acpitool_program.proofs.Broken.{one_more}
use Rattle.acpitool_program.proofs.structures.broken_at.Goals as goal

pub structures-preserved : goal.structures-preserved
structures-preserved c =
    let front = sym c.front_size.ensures ∙ c.in-Some.is in
    let within = front_within c.args.sizes c.in-Some.size c.structures.rest.now front in
    let left : 1 ≤ c.structures.left = search rules in
    record {
      fits = omega (arith, c.structures.invariant.fits, within.fits, c.split_at.ensures.back_len);
      goes =
          ap (broken_at (c.structures.left - 1) c.args.sizes (c.structures.at + c.in-Some.size)) c.split_at.ensures.back
          ∙ sym (one_more c.structures.left c.structures.at c.in-Some.size c.args.sizes c.structures.rest.now left (omega (arith, within.some, within.fits)) front)
          ∙ c.structures.invariant.goes;
    }
