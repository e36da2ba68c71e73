use Rattle.std.proofs.Common.{◌++◌, rules}
use Rattle.acpi_term.specs.View.{views}
use Rattle.acpi_asl.proofs.Absents.{made_added, method_added, external_added}
use Rattle.acpi_asl.proofs.absent.push_own_items.Goals as goal

pub returns-in_ok-make_own-in-Objects : goal.returns-in_ok-make_own-in-Objects
returns-in_ok-make_own-in-Objects c =
    made_added _ _ _ _ (views (c.args.first.now ++ c.args.others.now)) _ _ _ c.in-Objects.is c.in_ok-make_own-in-Objects.ensures

pub returns-in_ok-push_method-in-Methods : goal.returns-in_ok-push_method-in-Methods
returns-in_ok-push_method-in-Methods c =
    method_added _ _ _ _ c.args.first.now c.args.others.now _ _ _ _ _ c.in-Methods.is (search rules) c.in_ok-push_method-in-Methods.ensures

pub returns-in_ok-make_external-in-Around : goal.returns-in_ok-make_external-in-Around
returns-in_ok-make_external-in-Around c =
    external_added _ _ _ _ (views (c.args.first.now ++ c.args.others.now)) _ _ _ c.in-Around.is c.in_ok-make_external-in-Around.ensures
