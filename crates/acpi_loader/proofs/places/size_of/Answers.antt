use Rattle.std.proofs.Common.{List, ℕ, Vec, Global, length, sym, ap, ◌∙◌}
use Rattle.acpi_layout.specs.Files.{has}
use Rattle.acpi_loader.specs.Loader.{first_size}
use Rattle.acpi_loader.proofs.Placed.{skipped, found, none_left}
use Rattle.acpi_loader.proofs.places.size_of.Goals as goal

pub files-preserved : goal.files-preserved
files-preserved c =
    let bytes : Vec ℕ Global → List ℕ = λ file. file.items in
    sym (skipped c.args.signature.now bytes c.args.files.now c.files.file-index c.file-item.result c.files-test.true
    (ap (λ file. has c.args.signature.now (bytes file)) (sym c.file-item.is)
    ∙ ap (has c.args.signature.now) (sym c.as_slice-bytes.ensures.value) ∙ sym c.starts_with.ensures.value ∙ c.if-starts_with.false))
    ∙ c.files.invariant

pub returns-then-starts_with : goal.returns-then-starts_with
returns-then-starts_with c =
    let bytes : Vec ℕ Global → List ℕ = λ file. file.items in
    ap length c.as_slice-bytes.ensures.value ∙ ap (λ (file : Vec ℕ Global). length file.items) c.file-item.is
    ∙ ap first_size (sym (found c.args.signature.now bytes c.args.files.now c.files.file-index c.file-item.result c.files-test.true
    (ap (λ file. has c.args.signature.now (bytes file)) (sym c.file-item.is)
    ∙ ap (has c.args.signature.now) (sym c.as_slice-bytes.ensures.value) ∙ sym c.starts_with.ensures.value ∙ c.if-starts_with.true))
    ∙ c.files.invariant)

pub returns : goal.returns
returns c =
    let bytes : Vec ℕ Global → List ℕ = λ file. file.items in
    ap first_size (sym (none_left c.args.signature.now bytes c.args.files.now c.files.file-index c.files-test.false) ∙ c.files.invariant)
