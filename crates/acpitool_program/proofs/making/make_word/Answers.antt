use Rattle.std.proofs.Common.{inl}
use Rattle.std.proofs.lemmas.Result.{IfOk-weaker}
use Rattle.acpitool_program.proofs.making.make_word.Goals as goal

pub returns-in-Ok : goal.returns-in-Ok
returns-in-Ok g c = IfOk-weaker c.make_bytes.result _ _ (λ status made. inl (c.deref.result.now, made)) c.make_bytes.ensures
