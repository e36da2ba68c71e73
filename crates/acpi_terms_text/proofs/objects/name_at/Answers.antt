use Rattle.std.proofs.Common.{◌<◌, ◌≤◌, ◌-◌, length, sym, ap, ◌∙◌, arith, option_map}
use Rattle.acpi_terms_text.proofs.Operands.{below, at_one, at_none, at_first, at_second}
use Rattle.acpi_terms_text.proofs.objects.name_at.Goals as goal

pub returns-in_err-get-2 : goal.returns-in_err-get-2
returns-in_err-get-2 c =
    let past : length c.args.first.now ≤ c.args.place = omega (arith, c.if-place-first.false) in
    ap (option_map (λ name. name.now)) c.from_residual-in_err-get-2.ensures
    ∙ sym (at_second c.args.place c.args.first.now c.args.others.now past ∙ at_none (c.args.place - length c.args.first.now) c.args.others.now (omega (arith, c.in_err-get-2.ensures.lookup)))

pub returns-in_ok-get : goal.returns-in_ok-get
returns-in_ok-get c =
    let inside : c.args.place < length c.args.first.now = omega (arith, c.if-place-first.true) in
    c.alone.ensures ∙ sym (at_first c.args.place c.args.first.now c.args.others.now inside ∙ at_one c.args.place c.args.first.now c.in_ok-get.field-0.now inside c.in_ok-get.ensures.lookup.1)

pub returns-in_ok-get-2 : goal.returns-in_ok-get-2
returns-in_ok-get-2 c =
    let past : length c.args.first.now ≤ c.args.place = omega (arith, c.if-place-first.false) in
    let inside : c.args.place - length c.args.first.now < length c.args.others.now = below _ _ c.in_ok-get-2.ensures.lookup.0 in
    c.alone-else-place-first.ensures
    ∙ sym (at_second c.args.place c.args.first.now c.args.others.now past ∙ at_one (c.args.place - length c.args.first.now) c.args.others.now c.in_ok-get-2.field-0.now inside c.in_ok-get-2.ensures.lookup.1)
