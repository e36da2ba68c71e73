use Rattle.std.proofs.Common.{ℕ, List, ◌++◌, take, ap, ◌∙◌}
use Rattle.acpi_c_calls.proofs.held.Held.add.Goals as goal

pub returns : goal.returns
returns c =
    c.add_to-self-inside.ensures.is
    ∙ ap (λ (n : ℕ). take n (take c.self.inside.size c.self.inside.bytes ++ c.args.v.now)) c.self.told
    ∙ ap (λ (l : List ℕ). take 1024 (l ++ c.args.v.now)) c.self.view_is
