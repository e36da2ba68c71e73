use Rattle.std.proofs.Common.{ℕ, List, [], ◌∷◌, get_or, rules, refl}
use Rattle.acpi_read.proofs.Texts.{goes_start, bytes_go_on, goes_done}
use Rattle.acpi_read.proofs.report.words.push_ascii.Goals as goal

pub loop-byte-init : goal.loop-byte-init
loop-byte-init c = goes_start _ _ _

pub loop-byte-preserved : goal.loop-byte-preserved
loop-byte-preserved c = bytes_go_on (λ (s : List ℕ). s) c.args.bytes.now c.loop-byte.byte-index _ _ c.loop-byte.invariant (get_or c.args.bytes.now c.loop-byte.byte-index 0 ∷ []) _ c.loop-byte-test.true refl (search rules)

pub returns : goal.returns
returns c = goes_done (λ (s : List ℕ). s) c.args.bytes.now c.loop-byte.byte-index _ _ c.loop-byte.invariant refl c.loop-byte-test.false
