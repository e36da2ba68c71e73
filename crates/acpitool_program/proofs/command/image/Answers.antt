use Rattle.std.proofs.Common.{List, ℕ, String, Global, map, string_bytes, sym, ◌∙◌, inl, inr}
use Rattle.acpitool_program.proofs.Words.{two_are, third_word}
use Rattle.acpitool_program.proofs.command.image.Goals as goal

pub returns-in-None : goal.returns-in-None
returns-in-None c = λ all is.
    let text : String Global → List ℕ = λ word. string_bytes word in
    let second = two_are text c.after_option.result.now c.base-item.result c.as_str-word.result.now c.as_str-word.ensures.value c.base-item.is
    c.in-len2.len_at_least c.in-len2.len_below in
    inl (record { more = map text c.args.words.now; after = (is, c.requires); file = second.0; is = sym c.after_option.ensures ∙ second.1; not = c.in-None.ensures })

pub returns-in-len3-up : goal.returns-in-len3-up
returns-in-len3-up c = λ all is.
    let text : String Global → List ℕ = λ word. string_bytes word in
    let third = third_word text c.after_option.result.now c.extra-item.result c.as_str-in-len3-up.result.now
    c.as_str-in-len3-up.ensures.value c.extra-item.is c.in-len3-up.len_at_least in
    inr (inr (inl (record {
      more = map text c.args.words.now;
      after = (is, c.requires);
      file = third.0;
      base = third.1;
      others = third.2;
      is = sym c.after_option.ensures ∙ third.3;
    })))
