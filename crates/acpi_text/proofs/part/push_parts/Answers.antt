use Rattle.std.proofs.Common.{◌+◌, drop, refl}
use Rattle.std.proofs.lemmas.Result.{on_ok_weaker}
use Rattle.acpi_text.specs.Form.{part_slots}
use Rattle.acpi_text.proofs.Parts.{parts_done}
use Rattle.acpi_text.proofs.Shown.{each_start, each_more}
use Rattle.acpi_text.proofs.part.push_parts.Goals as goal

pub parts-init : goal.parts-init
parts-init c = each_start (part_slots c.args.depth c.args.start c.args.whole.now) c.args.parts.now c.args.start c.args.whole.now _

pub parts-preserved : goal.parts-preserved
parts-preserved c =
    each_more (part_slots c.args.depth c.args.start c.args.whole.now) c.args.parts.now c.args.start c.args.whole.now _
    c.parts.part-index (c.args.start + c.parts.at) c.parts.at _ _ _ (drop c.parts.at c.args.whole.now) _ _
    c.parts-test.true refl c.parts.invariant refl refl c.in_ok-at.ensures

pub returns : goal.returns
returns c =
    on_ok_weaker c.push_nameless.result
    (parts_done c.args.depth c.args.parts.now c.args.start c.args.whole.now _ c.parts.part-index c.parts.at _ _ _
    c.parts-test.false c.parts.invariant c.split_at.ensures.back)
    c.push_nameless.ensures
