use Rattle.std.proofs.Common.{List, ℕ, Vec, Global, Bor, refl, sym, ap, ◌∙◌}
use Rattle.acpi_layout.specs.Files.{has}
use Rattle.acpi_layout.proofs.FromFiles.{held_is, second_named}
use Rattle.acpi_layout.proofs.files.only.Goals as goal

pub returns-then-is_some-clause-err : goal.returns-then-is_some-clause-err
returns-then-is_some-clause-err c =
    let bytes : Vec ℕ Global → List ℕ = λ file. file.items in
    let held = held_is (λ (file : Bor (List ℕ)). file.now) c.files.found (sym c.is_some.ensures ∙ c.if-is_some.true) in (
      c.files.index,
      refl,
      second_named c.args.signature.now bytes c.args.files.now c.files.index c.index-files-index.result c.files-test.true held.0.now
          (c.files.invariant ∙ held.1)
          (ap (λ file. has c.args.signature.now (bytes file)) (sym c.index-files-index.is) ∙ ap (has c.args.signature.now) (sym c.deref.ensures.value)
          ∙ sym c.starts_with.ensures.value ∙ c.if-starts_with.true),
    )
