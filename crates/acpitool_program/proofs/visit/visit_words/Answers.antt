use Rattle.std.proofs.Common.{List, ℕ, String, Global, ◌++◌, ◌∷◌, [], map, take, ap, sym, ◌∙◌, string_bytes}
use Rattle.std.proofs.lemmas.List.{map_more}
use Rattle.acpitool_program.specs.Outcome.{AreOfWord}
use Rattle.acpitool_program.proofs.Outcomes.{no_words, word_then}
use Rattle.acpitool_program.proofs.visit.visit_words.Goals as goal

pub loop-word-init : goal.loop-word-init
loop-word-init g c = no_words _ _ _ _ _

pub loop-word-preserved : goal.loop-word-preserved
loop-word-preserved g c =
    let text : String Global → List ℕ = λ word. string_bytes word in
    let files = c.args.files.now in
    let at = c.loop-word.word-index in
    word_then AreOfWord _ _ _
    (ap (λ (b : List ℕ). map text (take at files) ++ b ∷ []) (c.as_str.ensures.value ∙ ap text c.word-item.is)
    ∙ sym (map_more text files at c.word-item.result c.loop-word-test.true))
    c.worst_of-worst.ensures
    c.loop-word.invariant
    c.in_ok-status.ensures
