use Rattle.std.proofs.Common.{◌+◌, drop, refl}
use Rattle.acpi_rules.specs.Field.{part_wanted}
use Rattle.acpi_rules.proofs.Found.{each_start, each_more, each_done, parts_done}
use Rattle.acpi_rules.proofs.part.push_parts.Goals as goal

pub parts-init : goal.parts-init
parts-init c = each_start (part_wanted c.args.start c.args.whole.now) c.args.parts.now c.args.start c.args.whole.now _

pub parts-preserved : goal.parts-preserved
parts-preserved c =
    each_more (part_wanted c.args.start c.args.whole.now) c.args.parts.now c.args.start c.args.whole.now _
    c.parts.part-index (c.args.start + c.parts.read) c.parts.read _ _ _ (drop c.parts.read c.args.whole.now) _ _
    c.parts-test.true refl c.parts.invariant refl refl c.in_ok-read.ensures

pub returns : goal.returns
returns c =
    parts_done c.args.parts.now c.args.start c.args.whole.now _ c.parts.read _
    (each_done (part_wanted c.args.start c.args.whole.now) c.args.parts.now c.args.start c.args.whole.now _ c.parts.part-index
    c.parts.read _ c.parts-test.false c.parts.invariant)
