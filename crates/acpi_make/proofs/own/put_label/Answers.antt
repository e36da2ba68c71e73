use Rattle.std.proofs.Common.{◌≡◌, sym, arith}
use Rattle.acpi_make.specs.Own.{alone, labelled}
use Rattle.acpi_make.proofs.Labels.{puts, of_heading}
use Rattle.acpi_make.proofs.own.put_label.Goals as goal
use Rattle.acpi_make.proofs.own.put_label.Goals.{then-contains_key, else-contains_key}

pub returns-in_ok-insert-in-Some : goal.returns-in_ok-insert-in-Some
returns-in_ok-insert-in-Some c =
    let has = c.contains_key.ensures in
    let place : c.if-contains_key.place ≡ alone c.args.at (labelled c.args.labels.now c.in-Some.label.now) =
    elim c.if-contains_key.branch [
      | then-contains_key w ↦ grind (arith, has, w.if-contains_key, w.place-is)
      | else-contains_key w ↦ grind (arith, has, w.if-contains_key, w.place-is)
    ] in
    of_heading c.args.labels.now c.insert.new.self _ _ _ (sym c.in-Some.ensures)
    (puts c.args.labels.now c.insert.new.self c.in-Some.label.now c.args.at c.if-contains_key.place place
    c.in_ok-insert-in-Some.ensures.updates)
