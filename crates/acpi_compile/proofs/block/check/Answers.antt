use Rattle.std.proofs.Common.{◌≡◌, ap, ◌∙◌, inl, inr}
use Rattle.acpi_compile.specs.Alike.{alike}
use Rattle.acpi_compile.specs.Compiled.{after_note}
use Rattle.acpi_compile.proofs.block.check.Goals as goal

pub returns-then-branch-clause-shown : goal.returns-then-branch-clause-shown
returns-then-branch-clause-shown c =
    let same = c.in_ok-are_alike.ensures c.if-branch.true ∙ ap alike c.deref.ensures.value in
    (c.in_ok-shown.shown.items, c.in_ok-shown.ensures, inl same)

pub returns-then-branch-2-clause-shown : goal.returns-then-branch-2-clause-shown
returns-then-branch-2-clause-shown c =
    let same =
    c.in_ok-are_alike-2.ensures c.if-branch-2.true
    ∙ ap alike (c.after_note.ensures ∙ ap after_note c.deref-2.ensures.value) in
    (c.in_ok-shown.shown.items, c.in_ok-shown.ensures, inr same)
