use Rattle.std.proofs.Common.{map, drop, string_bytes, refl, inl, inr, sym, ◌∙◌}
use Rattle.acpitool_program.proofs.Words.{front_word, front_of_all}
use Rattle.acpitool_program.proofs.command.parse.Goals as goal

pub returns-in-text : goal.returns-in-text
returns-in-text c = inl (record {
  word = _;
  more = map (λ word. string_bytes word) (drop 1 c.args.words.now);
  is = front_word (λ word. string_bytes word) c.args.words.now c.word-item.result _
      (sym c.as_str.ensures.value ∙ c.in-text.is) c.word-item.is c.in-len1-up.len_at_least;
  asks = inl (inl refl);
})

pub returns-in-text-2 : goal.returns-in-text-2
returns-in-text-2 c = inl (record {
  word = _;
  more = map (λ word. string_bytes word) (drop 1 c.args.words.now);
  is = front_word (λ word. string_bytes word) c.args.words.now c.word-item.result _
      (sym c.as_str.ensures.value ∙ c.in-text-2.is) c.word-item.is c.in-len1-up.len_at_least;
  asks = inl (inr refl);
})

pub returns-in-help : goal.returns-in-help
returns-in-help c = inl (record {
  word = _;
  more = map (λ word. string_bytes word) (drop 1 c.args.words.now);
  is = front_word (λ word. string_bytes word) c.args.words.now c.word-item.result _
      (sym c.as_str.ensures.value ∙ c.in-help.is) c.word-item.is c.in-len1-up.len_at_least;
  asks = inr refl;
})

pub returns-in-text-3 : goal.returns-in-text-3
returns-in-text-3 c = (
  map (λ word. string_bytes word) (drop 1 c.args.words.now),
  front_word (λ word. string_bytes word) c.args.words.now c.word-item.result _
      (sym c.as_str.ensures.value ∙ c.in-text-3.is) c.word-item.is c.in-len1-up.len_at_least,
)

pub returns-in-show : goal.returns-in-show
returns-in-show c = c.asked.ensures _
    (front_of_all (λ word. string_bytes word) c.args.words.now c.word-item.result _
    (sym c.as_str.ensures.value ∙ c.in-show.is) c.word-item.is c.in-len1-up.len_at_least)

pub returns-in-check : goal.returns-in-check
returns-in-check c = c.asked-in-check.ensures _
    (front_of_all (λ word. string_bytes word) c.args.words.now c.word-item.result _
    (sym c.as_str.ensures.value ∙ c.in-check.is) c.word-item.is c.in-len1-up.len_at_least)

pub returns-in-image : goal.returns-in-image
returns-in-image c = c.asked-in-image.ensures _
    (front_of_all (λ word. string_bytes word) c.args.words.now c.word-item.result _
    (sym c.as_str.ensures.value ∙ c.in-image.is) c.word-item.is c.in-len1-up.len_at_least)

pub returns-in-make : goal.returns-in-make
returns-in-make c = c.asked-in-make.ensures _
    (front_of_all (λ word. string_bytes word) c.args.words.now c.word-item.result _
    (sym c.as_str.ensures.value ∙ c.in-make.is) c.word-item.is c.in-len1-up.len_at_least)

pub returns-in-template : goal.returns-in-template
returns-in-template c = c.asked-in-template.ensures _
    (front_of_all (λ word. string_bytes word) c.args.words.now c.word-item.result _
    (sym c.as_str.ensures.value ∙ c.in-template.is) c.word-item.is c.in-len1-up.len_at_least)

pub returns-in-disassemble : goal.returns-in-disassemble
returns-in-disassemble c = c.asked-in-disassemble.ensures _
    (front_of_all (λ word. string_bytes word) c.args.words.now c.word-item.result _
    (sym c.as_str.ensures.value ∙ c.in-disassemble.is) c.word-item.is c.in-len1-up.len_at_least)

pub returns-in-names : goal.returns-in-names
returns-in-names c = c.asked-in-names.ensures _
    (front_of_all (λ word. string_bytes word) c.args.words.now c.word-item.result _
    (sym c.as_str.ensures.value ∙ c.in-names.is) c.word-item.is c.in-len1-up.len_at_least)

pub returns-in-unpack : goal.returns-in-unpack
returns-in-unpack c = c.asked-in-unpack.ensures _
    (front_of_all (λ word. string_bytes word) c.args.words.now c.word-item.result _
    (sym c.as_str.ensures.value ∙ c.in-unpack.is) c.word-item.is c.in-len1-up.len_at_least)

pub returns-in-cpio : goal.returns-in-cpio
returns-in-cpio c = c.asked-in-cpio.ensures _
    (front_of_all (λ word. string_bytes word) c.args.words.now c.word-item.result _
    (sym c.as_str.ensures.value ∙ c.in-cpio.is) c.word-item.is c.in-len1-up.len_at_least)

pub returns-in-lay : goal.returns-in-lay
returns-in-lay c = c.asked-in-lay.ensures _
    (front_of_all (λ word. string_bytes word) c.args.words.now c.word-item.result _
    (sym c.as_str.ensures.value ∙ c.in-lay.is) c.word-item.is c.in-len1-up.len_at_least)

pub returns-in-repair : goal.returns-in-repair
returns-in-repair c = c.asked-in-repair.ensures _
    (front_of_all (λ word. string_bytes word) c.args.words.now c.word-item.result _
    (sym c.as_str.ensures.value ∙ c.in-repair.is) c.word-item.is c.in-len1-up.len_at_least)

pub returns-in-diff : goal.returns-in-diff
returns-in-diff c = c.asked-in-diff.ensures _
    (front_of_all (λ word. string_bytes word) c.args.words.now c.word-item.result _
    (sym c.as_str.ensures.value ∙ c.in-diff.is) c.word-item.is c.in-len1-up.len_at_least)

pub returns-in-tree : goal.returns-in-tree
returns-in-tree c = c.asked-in-tree.ensures _
    (front_of_all (λ word. string_bytes word) c.args.words.now c.word-item.result _
    (sym c.as_str.ensures.value ∙ c.in-tree.is) c.word-item.is c.in-len1-up.len_at_least)

pub returns-in-loader : goal.returns-in-loader
returns-in-loader c = c.asked-in-loader.ensures _
    (front_of_all (λ word. string_bytes word) c.args.words.now c.word-item.result _
    (sym c.as_str.ensures.value ∙ c.in-loader.is) c.word-item.is c.in-len1-up.len_at_least)
