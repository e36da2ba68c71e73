use Rattle.std.proofs.Common.{◌≡◌, Bool, true, map, inl, refl, rules, subst}
use Rattle.acpi_asl.specs.Block.{has_terms}
use Rattle.acpi_terms_text.specs.Objects.{callee_by}
use Rattle.acpitool_program.specs.Shown.{AddsBlock}
use Rattle.acpitool_program.proofs.disassembly.add_or_complain.Goals as goal

pub returns : goal.returns
returns g c =
    let old = map callee_by c.args.all.now.items in
    let new = map callee_by c.add_block.new.all.items in
    let is_block : has_terms c.args.bytes.now ≡ true = c.in_default.ensures.block in
    inl (record {
      bytes = c.args.bytes.now;
      is_block = is_block;
      added = subst (λ (b : Bool). AddsBlock b c.args.stated.now c.args.bytes.now old new) is_block c.in_ok-add_block.ensures;
      silent = search rules;
      is = refl;
    })
