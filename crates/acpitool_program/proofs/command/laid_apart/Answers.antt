use Rattle.std.proofs.Common.{List, ℕ, String, Global, map, string_bytes, ap, sym, ◌∙◌, inr, codes}
use Rattle.acpitool_program.specs.Command.{begins_with}
use Rattle.acpitool_program.proofs.Words.{two_front, second_word}
use Rattle.acpitool_program.proofs.command.laid_apart.Goals as goal

pub returns-in-Some : goal.returns-in-Some
returns-in-Some c = λ all after.
    let text : String Global → List ℕ = λ word. string_bytes word in
    let front = two_front text c.args.words.now c.address-item.result c.as_str-word.result.now c.as_str-word.ensures.value c.address-item.is
    c.in-len2-up.len_at_least in
    c.laid.ensures all (map text c.args.words.now) after (
      front.0,
      c.as_str-word.result.now,
      front.1,
      sym (ap (λ l. begins_with (codes "--rsdp") l) front.1) ∙ c.requires.first,
      c.in-Some.ensures,
    )

pub returns-in-None : goal.returns-in-None
returns-in-None c = λ all after.
    let text : String Global → List ℕ = λ word. string_bytes word in
    let second = second_word text c.args.words.now c.address-item.result c.as_str-word.result.now c.as_str-word.ensures.value c.address-item.is
    c.in-len2-up.len_at_least in
    inr (inr (inr (record {
      more = map text c.args.words.now;
      after = after;
      option = second.0;
      rest = second.1;
      is = second.2;
      leads = sym (ap (λ l. begins_with (codes "--rsdp") l) second.2) ∙ c.requires.first;
      not = c.in-None.ensures;
    })))
