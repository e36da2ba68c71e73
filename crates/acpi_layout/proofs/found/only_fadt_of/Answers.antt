use Rattle.std.proofs.Common.{◌≡◌, ◌-◌, ◌+◌, length, get_or, take, drop, codes, rules, arith, sym, ap, ◌∙◌, subst}
use Rattle.std.specs.List.{Contains}
use Rattle.std.proofs.lemmas.List.{take_rest}
use Rattle.std.proofs.lemmas.List.Elements.{Contains-get_or}
use Rattle.std.proofs.lemmas.Option.{slice_get-get_or}
use Rattle.acpi_layout.specs.Fault.{no_fadt, second_fadt, short_fadt}
use Rattle.acpi_layout.proofs.Founds.{none_yet, not_only, only_is, in_rest, rest_inside, rest_size}
use Rattle.acpi_layout.proofs.found.only_fadt_of.Goals as goal

pub returns-then-eq-clause-err : goal.returns-then-eq-clause-err
returns-then-eq-clause-err c =
    let n = c.in-Some.index + 1 in
    let xs = c.args.tables.now in
    let k = c.loop-other.other-index in
    let named : (get_or (take (length xs - n) (drop n xs)) k none_yet).signature ≡ codes "FACP" = search rules in
    not_only c.args.least xs c.in-Some.index (n + k) none_yet none_yet (omega arith) (rest_inside xs n k c.loop-other-test.true) (c.in-Some.ensures.some.1 none_yet) (ap (λ t. t.signature) (sym (in_rest xs n k none_yet)) ∙ named)

pub returns-clause-ok : goal.returns-clause-ok
returns-clause-ok c =
    let n = c.in-Some.index + 1 in
    let xs = c.args.tables.now in
    only_is c.args.least xs _ none_yet c.in-Some.ensures.some.0 (c.in-Some.ensures.some.1 none_yet) c.if-fadt-least.false c.in-Some.ensures.before
    (λ k d inside. c.loop-other.invariant k d (omega (arith, rest_size xs n, inside, c.loop-other-test.false, c.loop-other.auto.other-index-end)))

pub returns-in_default-clause-fault : goal.returns-in_default-clause-fault
returns-in_default-clause-fault c = no_fadt c.in_default.ensures.none

pub returns-then-eq-clause-fault : goal.returns-then-eq-clause-fault
returns-then-eq-clause-fault c =
    let n = c.in-Some.index + 1 in
    let xs = c.args.tables.now in
    let rest = take (length xs - n) (drop n xs) in
    let k = c.loop-other.other-index in
    let named : (get_or rest k none_yet).signature ≡ codes "FACP" = search rules in
    second_fadt c.in-Some.index (get_or xs c.in-Some.index none_yet) (get_or rest k none_yet) (slice_get-get_or xs c.in-Some.index none_yet c.in-Some.ensures.some.0)
    (subst (λ l. Contains l (get_or rest k none_yet)) (take_rest xs n) (Contains-get_or rest k none_yet c.loop-other-test.true)) (c.in-Some.ensures.some.1 none_yet) named

pub returns-then-fadt-least-clause-fault : goal.returns-then-fadt-least-clause-fault
returns-then-fadt-least-clause-fault c =
    let xs = c.args.tables.now in
    short_fadt (get_or xs c.in-Some.index none_yet) (Contains-get_or xs c.in-Some.index none_yet c.in-Some.ensures.some.0) (c.in-Some.ensures.some.1 none_yet) c.if-fadt-least.true
