use Rattle.std.proofs.Common.{◌∷◌, map, string_bytes, ap, ◌∙◌}
use Rattle.acpitool_program.specs.Command.{word_of}
use Rattle.acpitool_program.specs.declared.command.Verb.{Verb}
use Rattle.acpitool_program.proofs.command.asked.Goals as goal

pub returns-in-Check : goal.returns-in-Check
returns-in-Check c = λ all is. c.check.ensures all
    (is ∙ ap (λ (verb : Verb). word_of verb ∷ map (λ word. string_bytes word) c.args.words.now) c.in-Check.is)

pub returns-in-Image : goal.returns-in-Image
returns-in-Image c = λ all is. c.image.ensures all
    (is ∙ ap (λ (verb : Verb). word_of verb ∷ map (λ word. string_bytes word) c.args.words.now) c.in-Image.is)

pub returns-in-Make : goal.returns-in-Make
returns-in-Make c = λ all is. c.make.ensures all
    (is ∙ ap (λ (verb : Verb). word_of verb ∷ map (λ word. string_bytes word) c.args.words.now) c.in-Make.is)

pub returns-in-Template : goal.returns-in-Template
returns-in-Template c = λ all is. c.template.ensures all
    (is ∙ ap (λ (verb : Verb). word_of verb ∷ map (λ word. string_bytes word) c.args.words.now) c.in-Template.is)

pub returns-in-Disassemble : goal.returns-in-Disassemble
returns-in-Disassemble c = λ all is. c.disassemble.ensures all
    (is ∙ ap (λ (verb : Verb). word_of verb ∷ map (λ word. string_bytes word) c.args.words.now) c.in-Disassemble.is)

pub returns-in-Names : goal.returns-in-Names
returns-in-Names c = λ all is. c.names.ensures all
    (is ∙ ap (λ (verb : Verb). word_of verb ∷ map (λ word. string_bytes word) c.args.words.now) c.in-Names.is)

pub returns-in-Show : goal.returns-in-Show
returns-in-Show c = λ all is. c.show.ensures all
    (is ∙ ap (λ (verb : Verb). word_of verb ∷ map (λ word. string_bytes word) c.args.words.now) c.in-Show.is)

pub returns-in-Unpack : goal.returns-in-Unpack
returns-in-Unpack c = λ all is. c.unpack.ensures all
    (is ∙ ap (λ (verb : Verb). word_of verb ∷ map (λ word. string_bytes word) c.args.words.now) c.in-Unpack.is)

pub returns-in-Cpio : goal.returns-in-Cpio
returns-in-Cpio c = λ all is. c.cpio.ensures all
    (is ∙ ap (λ (verb : Verb). word_of verb ∷ map (λ word. string_bytes word) c.args.words.now) c.in-Cpio.is)

pub returns-in-Lay : goal.returns-in-Lay
returns-in-Lay c = λ all is. c.lay.ensures all
    (is ∙ ap (λ (verb : Verb). word_of verb ∷ map (λ word. string_bytes word) c.args.words.now) c.in-Lay.is)

pub returns-in-Repair : goal.returns-in-Repair
returns-in-Repair c = λ all is. c.repair.ensures all
    (is ∙ ap (λ (verb : Verb). word_of verb ∷ map (λ word. string_bytes word) c.args.words.now) c.in-Repair.is)

pub returns-in-Diff : goal.returns-in-Diff
returns-in-Diff c = λ all is. c.diff.ensures all
    (is ∙ ap (λ (verb : Verb). word_of verb ∷ map (λ word. string_bytes word) c.args.words.now) c.in-Diff.is)

pub returns-in-Tree : goal.returns-in-Tree
returns-in-Tree c = λ all is. c.tree.ensures all
    (is ∙ ap (λ (verb : Verb). word_of verb ∷ map (λ word. string_bytes word) c.args.words.now) c.in-Tree.is)

pub returns-in-Loader : goal.returns-in-Loader
returns-in-Loader c = λ all is. c.loader.ensures all
    (is ∙ ap (λ (verb : Verb). word_of verb ∷ map (λ word. string_bytes word) c.args.words.now) c.in-Loader.is)
