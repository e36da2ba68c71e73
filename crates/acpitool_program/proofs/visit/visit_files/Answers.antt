use Rattle.std.proofs.Common.{List, ℕ, String, Global, ◌++◌, ◌∷◌, [], map, take, ap, sym, ◌∙◌, string_bytes}
use Rattle.std.proofs.lemmas.List.{map_more}
use Rattle.acpitool_program.specs.Outcome.{AreOfFile}
use Rattle.acpitool_program.proofs.Outcomes.{no_words, word_then}
use Rattle.acpitool_program.proofs.visit.visit_files.Goals as goal

pub loop-path-init : goal.loop-path-init
loop-path-init g c = no_words _ _ _ _ _

pub loop-path-preserved : goal.loop-path-preserved
loop-path-preserved g c =
    let text : String Global → List ℕ = λ word. string_bytes word in
    let paths = c.args.paths.now in
    let at = c.loop-path.path-index in
    word_then AreOfFile _ _ _
    (ap (λ (b : List ℕ). map text (take at paths) ++ b ∷ []) (c.as_str-name.ensures.value ∙ ap text c.path-item.is)
    ∙ sym (map_more text paths at c.path-item.result c.loop-path-test.true))
    c.worst_of-worst.ensures
    c.loop-path.invariant
    c.in_ok-status.ensures.any
