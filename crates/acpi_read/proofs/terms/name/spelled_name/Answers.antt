use Rattle.std.proofs.Common.{◌≡◌, ◌+◌, ◌∷◌, length, arith, rules}
use Rattle.acpi_base.specs.Bytes.{AreBytes}
use Rattle.acpi_base.proofs.Bytes.{bytes_each}
use Rattle.acpi_term.specs.Reading.{name_at}
use Rattle.acpi_read.proofs.Fronts.{CutAt, rooted_cut}
use Rattle.acpi_read.proofs.terms.name.spelled_name.Goals as goal

pub split_at-requires : goal.split_at-requires
split_at-requires c =
    let is : c.args.bytes.now ≡ c.in-Some.lead.now ∷ c.in-Some.after.now = search rules in
    let fits : AreBytes (c.in-Some.lead.now ∷ c.in-Some.after.now) = rw is at (bytes_each c.args.bytes.now (λ i. omega (arith, c.type_inv.bytes i))) in
    let f = rooted_cut c.in-Some.lead.now c.in-Some.after.now c.in_ok-text.text.now c.in_ok-text.field-0-1.now fits.1 c.if-lead-ne92.false c.in_ok-text.ensures in
    rw is f.within

pub returns : goal.returns
returns c =
    let is : c.args.bytes.now ≡ c.in-Some.lead.now ∷ c.in-Some.after.now = search rules in
    let fits : AreBytes (c.in-Some.lead.now ∷ c.in-Some.after.now) = rw is at (bytes_each c.args.bytes.now (λ i. omega (arith, c.type_inv.bytes i))) in
    let f = rooted_cut c.in-Some.lead.now c.in-Some.after.now c.in_ok-text.text.now c.in_ok-text.field-0-1.now fits.1 c.if-lead-ne92.false c.in_ok-text.ensures in
    let cut : CutAt (1 + length c.in_ok-text.text.now) c.args.bytes.now (name_at c.args.bytes.now) = rw is f in
    rw (c.split_at.ensures.front, c.split_at.ensures.back) cut.is
