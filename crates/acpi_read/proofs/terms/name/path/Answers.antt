use Rattle.std.proofs.Common.{◌≡◌, ◌+◌, ◌∷◌, length, rules}
use Rattle.acpi_read.proofs.Fronts.{CutAt, two_cut, several_cut}
use Rattle.acpi_term.specs.Reading.{path_at}
use Rattle.acpi_read.proofs.terms.name.path.Goals as goal

pub split_at-requires : goal.split_at-requires
split_at-requires c =
    let is : c.args.bytes.now ≡ c.in-Some.lead.now ∷ c.in-Some-split_first.count.now ∷ c.in-Some-split_first.after.now = search rules in
    let f = several_cut c.in-Some.lead.now c.in-Some-split_first.count.now c.in-Some-split_first.after.now c.in_ok-text.text.now c.in_ok-text.field-0-1.now (search rules) (search rules) c.in_ok-text.ensures in
    rw is f.within

pub returns-then-lead-eq47 : goal.returns-then-lead-eq47
returns-then-lead-eq47 c =
    let is : c.args.bytes.now ≡ c.in-Some.lead.now ∷ c.in-Some-split_first.count.now ∷ c.in-Some-split_first.after.now = search rules in
    let f = several_cut c.in-Some.lead.now c.in-Some-split_first.count.now c.in-Some-split_first.after.now c.in_ok-text.text.now c.in_ok-text.field-0-1.now (search rules) (search rules) c.in_ok-text.ensures in
    let cut : CutAt (2 + length c.in_ok-text.text.now) c.args.bytes.now (path_at c.args.bytes.now) = rw is f in
    rw (c.split_at.ensures.front, c.split_at.ensures.back) cut.is

pub split_at-requires-2 : goal.split_at-requires-2
split_at-requires-2 c =
    let is : c.args.bytes.now ≡ c.in-Some.lead.now ∷ c.in-Some.after.now = search rules in
    let f = two_cut c.in-Some.lead.now c.in-Some.after.now c.in_ok-first.first.now c.in_ok-first.after.now c.in_ok-second.second.now c.in_ok-second.field-0-1.now c.if-lead-ne46.false c.in_ok-first.ensures c.in_ok-second.ensures in
    rw is f.within

pub returns : goal.returns
returns c =
    let is : c.args.bytes.now ≡ c.in-Some.lead.now ∷ c.in-Some.after.now = search rules in
    let f = two_cut c.in-Some.lead.now c.in-Some.after.now c.in_ok-first.first.now c.in_ok-first.after.now c.in_ok-second.second.now c.in_ok-second.field-0-1.now c.if-lead-ne46.false c.in_ok-first.ensures c.in_ok-second.ensures in
    let cut : CutAt (1 + length c.in_ok-first.first.now + length c.in_ok-second.second.now) c.args.bytes.now (path_at c.args.bytes.now) = rw is f in
    rw (c.split_at-2.ensures.front, c.split_at-2.ensures.back) cut.is
