use Rattle.std.proofs.Common.{◌≡◌, ◌+◌, ◌^◌, ◌<◌, ◌≤◌, length, map, ◌∙◌, arith, List, ℕ, Bor}
use Rattle.std.specs.Option.{option_map}
use Rattle.acpi_base.proofs.Objects.{at_exit}
use Rattle.acpi_layout.proofs.FromFiles.{too_many, past_the_end, accepted_is, bytes_are, rsdp_is}
use Rattle.acpi_layout.proofs.files.lay_tables.Goals as goal

pub returns-in_err-rsdp-clause-err : goal.returns-in_err-rsdp-clause-err
returns-in_err-rsdp-clause-err c =
    at_exit _ _ _ c.from_residual-in_err-rsdp.ensures.1
    (λ other. too_many c.args.base (option_map (λ (facs : Bor (List ℕ)). facs.now) c.args.facs) c.args.dsdt.now c.args.fadt.now (map (λ (table : Bor (List ℕ)). table.now) c.args.tables.now) _
    c.in_ok-begin_files.ensures.ok _ _ _ c.deref.ensures.value c.in_ok-place_files.ensures.ok (c.in_err-rsdp.ensures.err other).1)

pub returns-then-len-base-clause-err : goal.returns-then-len-base-clause-err
returns-then-len-base-clause-err c =
    let some : 1 ≤ length c.finish.new.bytes.items = c.in_ok-rsdp.ensures.some in
    let size : c.len.result ≡ length c.finish.new.bytes.items = c.len.ensures ∙ c.finish.new.bytes.ok.0 in
    let high : 2 ^ 64 < c.args.base + length c.finish.new.bytes.items = omega (arith, some, size, c.if-len-base.true) in
    λ other. past_the_end c.args.base (option_map (λ (facs : Bor (List ℕ)). facs.now) c.args.facs) c.args.dsdt.now c.args.fadt.now (map (λ (table : Bor (List ℕ)). table.now) c.args.tables.now) _
    c.in_ok-begin_files.ensures.ok _ _ _ c.deref.ensures.value c.in_ok-place_files.ensures.ok _ c.oem_of.ensures _ c.in_ok-rsdp.ensures.ok high

pub returns-clause-bytes : goal.returns-clause-bytes
returns-clause-bytes c =
    bytes_are c.args.base (option_map (λ (facs : Bor (List ℕ)). facs.now) c.args.facs) c.args.dsdt.now c.args.fadt.now (map (λ (table : Bor (List ℕ)). table.now) c.args.tables.now) _
    c.in_ok-begin_files.ensures.ok _ _ _ c.deref.ensures.value c.in_ok-place_files.ensures.ok _ c.oem_of.ensures _ c.in_ok-rsdp.ensures.ok

pub returns-clause-rsdp : goal.returns-clause-rsdp
returns-clause-rsdp c =
    let some : 1 ≤ length c.finish.new.bytes.items = c.in_ok-rsdp.ensures.some in
    let size : c.len.result ≡ length c.finish.new.bytes.items = c.len.ensures ∙ c.finish.new.bytes.ok.0 in
    let low : c.args.base + length c.finish.new.bytes.items ≤ 2 ^ 64 = omega (arith, some, size, c.if-len-base.false, c.ranges.base.fits) in
    rsdp_is c.args.base (option_map (λ (facs : Bor (List ℕ)). facs.now) c.args.facs) c.args.dsdt.now c.args.fadt.now (map (λ (table : Bor (List ℕ)). table.now) c.args.tables.now) _
    c.in_ok-begin_files.ensures.ok _ _ _ c.deref.ensures.value c.in_ok-place_files.ensures.ok _ c.oem_of.ensures _ c.in_ok-rsdp.ensures.ok _ c.in_ok-rsdp.ensures.rsdp low

pub returns-clause-fits : goal.returns-clause-fits
returns-clause-fits c =
    let some : 1 ≤ length c.finish.new.bytes.items = c.in_ok-rsdp.ensures.some in
    let size : c.len.result ≡ length c.finish.new.bytes.items = c.len.ensures ∙ c.finish.new.bytes.ok.0 in
    let low : c.args.base + length c.finish.new.bytes.items ≤ 2 ^ 64 = omega (arith, some, size, c.if-len-base.false, c.ranges.base.fits) in
    accepted_is c.args.base (option_map (λ (facs : Bor (List ℕ)). facs.now) c.args.facs) c.args.dsdt.now c.args.fadt.now (map (λ (table : Bor (List ℕ)). table.now) c.args.tables.now) _
    c.in_ok-begin_files.ensures.ok _ _ _ c.deref.ensures.value c.in_ok-place_files.ensures.ok _ c.oem_of.ensures _ c.in_ok-rsdp.ensures.ok low c.in_ok-rsdp.ensures.fits
