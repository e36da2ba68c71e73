use Rattle.std.proofs.Common.{◌≡◌, ◌≤◌, drop, length}
use Rattle.acpitool_program.specs.Repair.{set_seals, need}
use Rattle.acpitool_program.proofs.repair.set_seals.Given as goal

-- the fields that are left lead to the same bytes, and have room
abbrev pub invariant-seals : goal.invariant-seals
invariant-seals l =
    (set_seals (drop l.seal-index l.seals) l.bytes ≡ set_seals l.seals l.initial.bytes)
    × (need (drop l.seal-index l.seals) ≤ length l.bytes)
    × (length l.bytes ≡ length l.initial.bytes)
