use Rattle.std.proofs.Common.{List, ℕ, String, Global, map, string_bytes, sym, ◌∙◌, inl, inr}
use Rattle.acpitool_program.proofs.Words.{second_word}
use Rattle.acpitool_program.proofs.command.tree.Goals as goal

pub returns-in-len2-up : goal.returns-in-len2-up
returns-in-len2-up c = λ all is.
    let text : String Global → List ℕ = λ word. string_bytes word in
    let second = second_word text c.after_option.result.now c.extra-item.result c.as_str-in-len2-up.result.now
    c.as_str-in-len2-up.ensures.value c.extra-item.is c.in-len2-up.len_at_least in
    inr (inr (inr (inr (inr (inr (inr (inr (inr (inr (inl (record {
      more = map text c.args.words.now;
      after = (is, c.requires);
      file = second.0;
      others = second.1;
      is = sym c.after_option.ensures ∙ second.2;
    })))))))))))
