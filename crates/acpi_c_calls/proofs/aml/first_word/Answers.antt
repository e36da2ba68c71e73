use Rattle.std.proofs.Common.{◌≡◌, ◌<◌, ◌==◌, length, rules}
use Rattle.std.specs.List.{position_or_len, before_first, after_first}
use Rattle.acpi_c_calls.proofs.Spaces.{first, only}
use Rattle.acpi_c_calls.proofs.aml.first_word.Goals as goal

pub returns-in-Some-clause-words : goal.returns-in-Some-clause-words
returns-in-Some-clause-words c =
    let cut : (c.in-Some.word.now ≡ before_first (λ b. b == 32) c.args.text.now) × (c.in-Some.rest.now ≡ after_first (λ b. b == 32) c.args.text.now) × (position_or_len (λ b. b == 32) c.args.text.now < length c.args.text.now) = search rules in
    first c.args.text.now c.in-Some.word.now c.in-Some.rest.now cut.0 cut.1 cut.2

pub returns-in-None-clause-words : goal.returns-in-None-clause-words
returns-in-None-clause-words c =
    let whole : position_or_len (λ b. b == 32) c.args.text.now ≡ length c.args.text.now = search rules in
    only c.args.text.now c.requires whole
