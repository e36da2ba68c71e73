use Rattle.std.proofs.Common.{rules}
use Rattle.acpi_asl.proofs.Latest.{indexed_with}
use Rattle.acpi_asl.proofs.paths.Paths.with.Goals as goal

pub invariant_of-result : goal.invariant_of-result
invariant_of-result c =
    indexed_with c.self.inside.latest c.insert.new.self c.self.inside.all.items c.push.new.self.items _ c.len.result c.key_from-key.result c.self.invariant c.in_ok-push.ensures.items
    (search rules) (search rules) (search rules) c.in_ok-insert.ensures.updates
