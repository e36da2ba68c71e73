use Rattle.std.proofs.Common.{◌<◌, ◌≤◌, refl, sym, ◌∙◌, arith, length}
use Rattle.acpi_read.proofs.Cuts.{same_front_size, front_each, front_told, front_typed, same_no_front, none_each, none_long, none_sized}
use Rattle.acpi_read.proofs.pieces.front_size.Goals as goal
use Rattle.acpi_read.proofs.pieces.front_size.Goals.{in-EachOf, in-ToldAt+else-rest-end+else-size-end, in-ByType+in-Some}

pub returns-clause-ok : goal.returns-clause-ok
returns-clause-ok c =
    let rest = c.args.rest.now in
    let fits : c.match-sizes.size ≤ length rest = omega (arith, c.if-size-rest.false) in
    elim c.match-sizes.branch [
      | in-EachOf w ↦ same_front_size _ _ _ _ rest w.in-EachOf.is (w.size-is ∙ w.from-size.ensures) (front_each _ rest (omega (arith, fits, w.size-is, w.from-size.ensures)))
      | in-ToldAt+else-rest-end+else-size-end w ↦
          let place = w.in-ToldAt.place in
          same_front_size _ _ _ _ rest w.in-ToldAt.is w.size-is
          (front_told place _ rest (omega (arith, w.if-size-end.false, w.end-in-ToldAt.ensures)) (omega (arith, fits, w.size-is)) w.number-size.ensures)
      | in-ByType+in-Some w ↦ same_front_size _ _ _ _ rest w.in-ByType.is w.size-is (front_typed _ _ _ rest (omega (arith, fits, w.size-is)) (sym w.size.ensures ∙ w.in-Some.is))
    ]

pub returns-then-size-rest-clause-err : goal.returns-then-size-rest-clause-err
returns-then-size-rest-clause-err c =
    let rest = c.args.rest.now in
    let long : length rest < c.match-sizes.size = omega (arith, c.if-size-rest.true) in (
      refl,
      elim c.match-sizes.branch [
        | in-EachOf w ↦ same_no_front _ _ rest w.in-EachOf.is (none_each _ rest (omega (arith, long, w.size-is, w.from-size.ensures)))
        | in-ToldAt+else-rest-end+else-size-end w ↦ same_no_front _ _ rest w.in-ToldAt.is (none_long _ _ rest w.number-size.ensures (omega (arith, long, w.size-is)))
        | in-ByType+in-Some w ↦
            same_no_front _ _ rest w.in-ByType.is (none_sized w.in-ByType.kind w.in-ByType.types _ rest (sym w.size.ensures ∙ w.in-Some.is) (omega (arith, long, w.size-is)))
      ],
    )
