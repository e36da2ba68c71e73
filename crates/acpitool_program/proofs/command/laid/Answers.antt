use Rattle.std.proofs.Common.{List, ℕ, String, Global, map, string_bytes, inl, inr}
use Rattle.acpitool_program.proofs.Words.{three_are, fourth_word}
use Rattle.acpitool_program.proofs.command.laid.Goals as goal

pub returns-in-None : goal.returns-in-None
returns-in-None c = λ all more after is_rest.
    let text : String Global → List ℕ = λ word. string_bytes word in
    let third = three_are text c.args.words.now c.base-item.result c.as_str-word.result.now c.as_str-word.ensures.value c.base-item.is
    c.in-len3.len_at_least c.in-len3.len_below in
    inr (inr (inl (record {
      more = more;
      after = after;
      rsdp = c.args.rsdp;
      rest = map text c.args.words.now;
      is_rest = is_rest;
      folder = third.0;
      file = third.1;
      is = third.2;
      not = c.in-None.ensures;
    })))

pub returns-in-len4-up : goal.returns-in-len4-up
returns-in-len4-up c = λ all more after is_rest.
    let text : String Global → List ℕ = λ word. string_bytes word in
    let fourth = fourth_word text c.args.words.now c.extra-item.result c.as_str-in-len4-up.result.now
    c.as_str-in-len4-up.ensures.value c.extra-item.is c.in-len4-up.len_at_least in
    inr (inr (inr (inr (inr (inr (inl (record {
      more = more;
      after = after;
      rsdp = c.args.rsdp;
      rest = map text c.args.words.now;
      is_rest = is_rest;
      folder = fourth.0;
      file = fourth.1;
      base = fourth.2;
      others = fourth.3;
      is = fourth.4;
    })))))))
