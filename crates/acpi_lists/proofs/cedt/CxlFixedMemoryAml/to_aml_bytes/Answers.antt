use Rattle.std.proofs.Common.{◌≡◌, ◌*◌, ◌++◌, [], true, refl, ap, sym, ◌∙◌, arith, length, eq-eqb}
use Rattle.acpi_base.specs.declared.error.Error.TheVariants.{Targets}
use Rattle.acpi_base.specs.Object.{whole}
use Rattle.acpi_base.proofs.Objects.{wrote_provided, refused_provided, refused_unprovided}
use Rattle.acpi_lists.specs.Cedt.{window_head, window_bytes, has_targets, ways_count}
use Rattle.acpi_core.proofs.Parts.{two_parts}
use Rattle.acpi_lists.proofs.Windows.{isnt}
use Rattle.acpi_lists.proofs.cedt.CxlFixedMemoryAml.to_aml_bytes.Goals as goal

written : (g : _) (c : goal.After-write_parts g) → c.head-head.result ++ (c.deref.result.now ++ []) ≡ window_bytes c.args.self.now
written g c = two_parts _ _ (window_head c.args.self.now) _ c.head-head.ensures c.deref.ensures.value ∙ ap (λ x. window_head c.args.self.now ++ x.targets) c.self.view_is

holds : (g : _) (c : goal.After-write_parts g) → has_targets c.args.self.now ≡ true
holds g c =
    let size : length c.args.self.now.targets ≡ 4 * ways_count c.args.self.now.ways =
    sym (ap (λ x. length x.targets) c.self.view_is) ∙ omega (arith, c.if-len-count.false, c.len.ensures, c.count.ensures, c.self.inside.targets.ok.0) ∙ ap (λ x. 4 * ways_count x.ways) c.self.view_is in
    eq-eqb _ _ size

pub returns-clause-ok : goal.returns-clause-ok
returns-clause-ok g c = wrote_provided _ Targets (has_targets c.args.self.now) _ (window_bytes c.args.self.now) _ _ (holds g c) (written g c) c.write_parts.ensures.ok

pub returns-clause-err : goal.returns-clause-err
returns-clause-err g c = refused_provided _ Targets (has_targets c.args.self.now) _ (window_bytes c.args.self.now) _ _ (holds g c) (written g c) c.write_parts.ensures.err

pub returns-then-len-count-clause-err : goal.returns-then-len-count-clause-err
returns-then-len-count-clause-err g c =
    let w = c.args.self.now in
    let same : length w.targets ≡ c.len.result = sym (ap (λ x. length x.targets) c.self.view_is) ∙ omega (arith, c.len.ensures, c.self.inside.targets.ok.0) in
    let ways : 4 * c.count.result ≡ 4 * ways_count w.ways = ap (λ n. 4 * n) c.count.ensures ∙ ap (λ x. 4 * ways_count x.ways) c.self.view_is in
    refused_unprovided Targets Targets (has_targets w) (whole (window_bytes w)) _ (λ is. cc) (isnt (length w.targets) (4 * ways_count w.ways) (λ is. c.if-len-count.true (sym same ∙ is ∙ sym ways))) refl
