use Rattle.std.proofs.Common.{List, String, Global, ℕ, take, drop, map, string_bytes, sym, ap, ◌∙◌}
use Rattle.std.proofs.lemmas.List.{take-map, drop-map, take_rest}
use Rattle.acpitool_program.proofs.disassembly.apart.Goals as goal

abbrev text : String Global → List ℕ
text word = string_bytes word

pub returns-clause-files : goal.returns-clause-files
returns-clause-files c = sym (take-map text c.file_count-count.result c.args.words.now) ∙ ap (λ (n : ℕ). take n (map text c.args.words.now)) c.file_count-count.ensures.is

pub returns-clause-stating : goal.returns-clause-stating
returns-clause-stating c = ap (map text) (take_rest c.args.words.now c.file_count-count.result) ∙ sym (drop-map text c.file_count-count.result c.args.words.now) ∙ ap (λ (n : ℕ). drop n (map text c.args.words.now)) c.file_count-count.ensures.is
