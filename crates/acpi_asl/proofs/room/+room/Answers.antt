use Rattle.std.proofs.Common.{arith}
use Rattle.acpi_term.proofs.Depths.{first_shallow, others_shallow, element_shallow}
use Rattle.acpi_asl.proofs.Rooms.{content_left}
use Rattle.acpi_asl.proofs.room.+room.Goals as goal

pub after_content-after_terms-left-requires : goal.after_content-after_terms-left-requires
after_content-after_terms-left-requires t c =
    let p = c.args.parts in
    let shallow = first_shallow p.first.now p.others.now in
    (omega (arith, shallow, c.decreases), tt)

pub after_content-after_terms-requires : goal.after_content-after_terms-requires
after_content-after_terms-requires t c =
    let p = c.args.parts in
    let shallow = others_shallow p.first.now p.others.now in
    (omega (arith, shallow, c.decreases), tt)

pub after_content-returns : goal.after_content-returns
after_content-returns t c =
    let p = c.args.parts in
    λ n. content_left p.first.now p.others.now _ _ _ _ c.after_terms-left.ensures c.after_terms.ensures (c.after_own-left.ensures n _)

pub after_terms-after_term-left-requires : goal.after_terms-after_term-left-requires
after_terms-after_term-left-requires t c =
    let shallow = element_shallow c.args.terms.now c.terms.term-index c.term-item.result c.terms-test.true c.term-item.is in
    (omega (arith, shallow, c.decreases), tt)
