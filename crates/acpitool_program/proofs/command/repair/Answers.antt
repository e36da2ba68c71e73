use Rattle.std.proofs.Common.{List, ℕ, String, Global, map, string_bytes, inr}
use Rattle.acpitool_program.proofs.Words.{third_word}
use Rattle.acpitool_program.proofs.command.repair.Goals as goal

pub returns-in-len3-up : goal.returns-in-len3-up
returns-in-len3-up c = λ all is.
    let text : String Global → List ℕ = λ word. string_bytes word in
    let third = third_word text c.args.words.now c.extra-item.result c.as_str-in-len3-up.result.now
    c.as_str-in-len3-up.ensures.value c.extra-item.is c.in-len3-up.len_at_least in
    inr (inr (inr (inr (inr (inr (inr (inr (inr (inr (inr (record {
      more = map text c.args.words.now;
      after = (is, c.requires);
      name = third.0;
      file = third.1;
      others = third.2;
      is = third.3;
    })))))))))))
