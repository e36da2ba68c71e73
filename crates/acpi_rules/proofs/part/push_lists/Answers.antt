use Rattle.std.proofs.Common.{◌+◌, ◌*◌, [], ◌∷◌, refl, arith}
use Rattle.acpi_base.specs.Look as looks
use Rattle.acpi_rules.specs.Field.{sized}
use Rattle.acpi_rules.proofs.Found.{slice_rest, again, again_done}
use Rattle.acpi_rules.proofs.part.push_lists.Goals as goal

pub lists-preserved : goal.lists-preserved
lists-preserved c = record {
  few = omega arith;
  found = again (sized c.args.name.now looks.number c.args.width (c.args.width * c.args.columns)
      ∷ []) c.args.at c.args.bytes.now _ c.lists.done (c.args.at + c.lists.read) c.lists.read _ _ _ _ c.lists.invariant.found
      refl (slice_rest c.args.bytes.now c.lists.read) c.in_ok-read.ensures;
}

pub returns-else-read-bytes : goal.returns-else-read-bytes
returns-else-read-bytes c = again_done (sized c.args.name.now looks.number c.args.width (c.args.width * c.args.columns)
    ∷ []) c.args.at c.args.bytes.now _ c.lists.done c.args.count c.lists.read _ c.lists.invariant.few
    (λ less. omega (arith, c.lists.invariant.found.within)) c.lists.invariant.found
