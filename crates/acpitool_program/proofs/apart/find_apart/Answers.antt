use Rattle.std.proofs.Common.{◌≡◌, ℕ, List, [], ◌∷◌, take, drop, refl, rules}
use Rattle.acpi_layout.specs.declared.range.Range.{Range}
use Rattle.acpitool_program.proofs.Aparts.{apart_is, as_found, as_not_found}
use Rattle.acpitool_program.proofs.apart.find_apart.Goals as goal

pub returns-clause-ok : goal.returns-clause-ok
returns-clause-ok c =
    let n : ℕ = c.pointer_at.result in
    let front : c.split_at.result.0.now ≡ take n c.args.bytes.now = search rules in
    let back : c.split_at.result.1.now ≡ drop n c.args.bytes.now = search rules in
    let ranges : List Range =
    record { address = c.args.base; bytes = c.split_at.result.0 } ∷ record { address = c.args.rsdp; bytes = c.split_at.result.1 } ∷ [] in
    as_found (λ v. v.items) c.args.base c.args.rsdp c.args.bytes.now ranges
    (apart_is c.args.base c.args.rsdp n c.args.bytes.now _ _ ranges c.pointer_at.ensures.is front back refl)
    c.check_memory.result c.check_memory.ensures.ok

pub returns-clause-err : goal.returns-clause-err
returns-clause-err c =
    let n : ℕ = c.pointer_at.result in
    let front : c.split_at.result.0.now ≡ take n c.args.bytes.now = search rules in
    let back : c.split_at.result.1.now ≡ drop n c.args.bytes.now = search rules in
    let ranges : List Range =
    record { address = c.args.base; bytes = c.split_at.result.0 } ∷ record { address = c.args.rsdp; bytes = c.split_at.result.1 } ∷ [] in
    as_not_found c.args.base c.args.rsdp c.args.bytes.now ranges
    (apart_is c.args.base c.args.rsdp n c.args.bytes.now _ _ ranges c.pointer_at.ensures.is front back refl)
    c.check_memory.result c.check_memory.ensures.fault
