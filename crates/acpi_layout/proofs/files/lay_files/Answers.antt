use Rattle.std.proofs.Common.{List, ℕ, ◌≡◌, map, Vec, Global, Bor, sym, ap, ◌∙◌, arith}
use Rattle.std.specs.Option.{option_map}
use Rattle.acpi_layout.specs.Files.{others, base_is_odd, second_facs, second_dsdt, second_fadt, no_dsdt, no_fadt, no_facs, fadt_is_short}
use Rattle.acpi_layout.specs.Found.{is_reduced}
use Rattle.acpi_layout.proofs.FromFiles.{Faulty, at_fault, none_held, has_no_space}
use Rattle.acpi_layout.proofs.files.lay_files.Goals as goal

pub returns-then-base-ne0-clause-err : goal.returns-then-base-ne0-clause-err
returns-then-base-ne0-clause-err c = λ other. base_is_odd c.if-base-ne0.true

pub returns-in_err-facs-clause-err : goal.returns-in_err-facs-clause-err
returns-in_err-facs-clause-err c =
    let second = c.in_err-facs.ensures.err in
    at_fault _ (Faulty c.args.base (map (λ (file : Vec ℕ Global). file.items) c.args.files.now)) _ _ c.from_residual.ensures.1 second.1
    (λ other. second_facs second.0 second.2)

pub returns-in_err-dsdt-clause-err : goal.returns-in_err-dsdt-clause-err
returns-in_err-dsdt-clause-err c =
    let second = c.in_err-dsdt.ensures.err in
    at_fault _ (Faulty c.args.base (map (λ (file : Vec ℕ Global). file.items) c.args.files.now)) _ _ c.from_residual-in_err-dsdt.ensures.1 second.1
    (λ other. second_dsdt second.0 second.2)

pub returns-in_err-fadt-clause-err : goal.returns-in_err-fadt-clause-err
returns-in_err-fadt-clause-err c =
    let second = c.in_err-fadt.ensures.err in
    at_fault _ (Faulty c.args.base (map (λ (file : Vec ℕ Global). file.items) c.args.files.now)) _ _ c.from_residual-in_err-fadt.ensures.1 second.1
    (λ other. second_fadt second.0 second.2)

pub returns-in_default-clause-err : goal.returns-in_default-clause-err
returns-in_default-clause-err c = λ other. no_dsdt (rw c.in_default.is at c.in_ok-dsdt.ensures.ok)

pub returns-in_default-2-clause-err : goal.returns-in_default-2-clause-err
returns-in_default-2-clause-err c = λ other. no_fadt (rw c.in_default-2.is at c.in_ok-fadt.ensures.ok)

pub returns-then-fadt-lt148-clause-err : goal.returns-then-fadt-lt148-clause-err
returns-then-fadt-lt148-clause-err c =
    λ other. fadt_is_short c.in-Some-2.fadt.now (rw c.in-Some-2.is at c.in_ok-fadt.ensures.ok) c.if-fadt-lt148.true

pub returns-then-not-is_reduced-clause-err : goal.returns-then-not-is_reduced-clause-err
returns-then-not-is_reduced-clause-err c =
    λ other. no_facs c.in-Some-2.fadt.now (rw c.in-Some-2.is at c.in_ok-fadt.ensures.ok)
    (c.in_ok-facs.ensures.ok ∙ none_held (λ (file : Bor (List ℕ)). file.now) c.in_ok-facs.facs c.is_none.result c.is_none.ensures c.if-is_none.true)
    (sym (c.is_reduced.ensures ∙ ap is_reduced c.dword_at.ensures) ∙ c.if-not-is_reduced.true)

pub returns-in-Ok-clause-ok : goal.returns-in-Ok-clause-ok
returns-in-Ok-clause-ok c =
    let facs = option_map (λ (file : Bor (List ℕ)). file.now) c.in_ok-facs.facs in
    let listed : map (λ (table : Bor (List ℕ)). table.now) c.deref.result.now ≡ others (map (λ (file : Vec ℕ Global). file.items) c.args.files.now)
    = ap (map (λ (table : Bor (List ℕ)). table.now)) c.deref.ensures.value ∙ c.in_ok-tables.ensures in
    record {
      facs = facs;
      dsdt = c.in-Some.dsdt.now;
      fadt = c.in-Some-2.fadt.now;
      aligned = c.if-base-ne0.false;
      main = record {
        facs_is = c.in_ok-facs.ensures.ok;
        dsdt_is = rw c.in-Some.is at c.in_ok-dsdt.ensures.ok;
        fadt_is = rw c.in-Some-2.is at c.in_ok-fadt.ensures.ok;
      };
      has_fields = omega (arith, c.if-fadt-lt148.false);
      has_space = rw listed at c.in-Ok.ensures.fits;
      bytes = rw listed at c.in-Ok.ensures.bytes;
      rsdp = rw listed at c.in-Ok.ensures.rsdp;
    }

pub returns-clause-err : goal.returns-clause-err
returns-clause-err c =
    let facs = option_map (λ (file : Bor (List ℕ)). file.now) c.in_ok-facs.facs in
    let listed : map (λ (table : Bor (List ℕ)). table.now) c.deref.result.now ≡ others (map (λ (file : Vec ℕ Global). file.items) c.args.files.now)
    = ap (map (λ (table : Bor (List ℕ)). table.now)) c.deref.ensures.value ∙ c.in_ok-tables.ensures in
    has_no_space c.args.base (map (λ (file : Vec ℕ Global). file.items) c.args.files.now) facs c.in-Some.dsdt.now c.in-Some-2.fadt.now _ _ _ c.fault_of.ensures
    (record {
      facs_is = c.in_ok-facs.ensures.ok;
      dsdt_is = rw c.in-Some.is at c.in_ok-dsdt.ensures.ok;
      fadt_is = rw c.in-Some-2.is at c.in_ok-fadt.ensures.ok;
    }) listed c.in-Err.ensures.err
