use Rattle.std.proofs.Common.{map, string_bytes, inl, inr}
use Rattle.acpitool_program.proofs.Unforced.{no_word, one_word, two_words, three_words}
use Rattle.acpitool_program.proofs.command.make.Goals as goal

pub returns-in_default : goal.returns-in_default
returns-in_default c = λ all is. (map (λ word. string_bytes word) c.args.words.now, (is, c.requires), no_word _ c.in_default.ensures)

pub returns-in_default-unforced : goal.returns-in_default-unforced
returns-in_default-unforced c = λ all is. inl (
  map (λ word. string_bytes word) c.args.words.now,
  (is, c.requires),
  one_word _ c.in-Some.text.now c.in-Some.ensures c.in_default-unforced.ensures,
)

pub returns-in-Some-unforced-2 : goal.returns-in-Some-unforced-2
returns-in-Some-unforced-2 c = λ all is.
    let third = three_words _ c.in-Some.text.now c.in-Some-unforced.file.now c.in-Some-unforced-2.extra.now
    c.in-Some.ensures c.in-Some-unforced.ensures c.in-Some-unforced-2.ensures in
    inr (inr (inr (inl (record {
      more = map (λ word. string_bytes word) c.args.words.now;
      after = (is, c.requires);
      text = c.in-Some.text.now;
      file = c.in-Some-unforced.file.now;
      others = third.0;
      is = third.1;
    }))))

pub returns-in-None : goal.returns-in-None
returns-in-None c = λ all is. (
  map (λ word. string_bytes word) c.args.words.now,
  (is, c.requires),
  c.forces.ensures,
  two_words _ c.in-Some.text.now c.in-Some-unforced.file.now c.in-Some.ensures c.in-Some-unforced.ensures c.in-None.ensures,
)
