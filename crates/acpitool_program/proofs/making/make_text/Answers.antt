use Rattle.std.proofs.Common.{refl, inl}
use Rattle.acpitool_program.proofs.Judged.{judged_by}
use Rattle.acpitool_program.proofs.making.make_text.Goals as goal

pub returns-then-branch : goal.returns-then-branch
returns-then-branch g c = record {
  made = c.in-Ok.made;
  is = c.in-Ok.ensures;
  same = refl;
  judged = judged_by c.args.force c.args.name.now _ _ _ _ _ _ _ _ c.deref.ensures.value c.deref-in-Ok.ensures.value c.if-branch.true
      c.in_ok-judge-in-Ok.ensures;
}

pub returns-else-branch : goal.returns-else-branch
returns-else-branch g c = inl (record {
  made = c.in-Ok.made;
  is = c.in-Ok.ensures;
  judged = judged_by c.args.force c.args.name.now _ _ _ _ _ _ _ _ c.deref.ensures.value c.deref-in-Ok.ensures.value c.if-branch.false
      c.in_ok-judge-in-Ok.ensures;
})
