use Rattle.std.proofs.Common.{◌≡◌, ◌+◌, ◌^◌, ◌<◌, ◌≤◌, length, ◌∙◌, arith}
use Rattle.std.specs.Option.{option_map}
use Rattle.acpi_fixed.specs.Facs.{facs_bytes}
use Rattle.acpi_layout.proofs.Answered.{refused, too_many, past_the_end, accepted_is, bytes_are, rsdp_is}
use Rattle.acpi_layout.proofs.layout.lay_all.Goals as goal

pub returns-in_err-rsdp : goal.returns-in_err-rsdp
returns-in_err-rsdp g c =
    refused _ _ _ _ _ _ _ _ c.from_residual-in_err-rsdp.ensures.1
    (λ other. too_many c.args.base c.args.oem (option_map facs_bytes c.args.facs) c.args.sdt.now.bytes c.args.fadt (λ table. (goal.Aml-dyn g table.now).object table.now.1) _ _ c.deref.ensures.value
    _ c.in_ok-begin_image.ensures.ok _ _ _ c.deref-2.ensures.value c.in_ok-place_all.ensures.ok _ (c.in_err-rsdp.ensures.err other))

pub returns-then-len-base : goal.returns-then-len-base
returns-then-len-base g c =
    let some : 1 ≤ length c.finish.new.bytes.items = c.in_ok-rsdp.ensures.some in
    let size : c.len.result ≡ length c.finish.new.bytes.items = c.len.ensures ∙ c.finish.new.bytes.ok.0 in
    let high : 2 ^ 64 < c.args.base + length c.finish.new.bytes.items = omega (arith, some, size, c.if-len-base.true) in
    record {
      bytes = tt;
      rsdp = tt;
      accepted = tt;
      cause = λ other.
          past_the_end c.args.base c.args.oem (option_map facs_bytes c.args.facs) c.args.sdt.now.bytes c.args.fadt (λ table. (goal.Aml-dyn g table.now).object table.now.1) _ _ c.deref.ensures.value
          _ c.in_ok-begin_image.ensures.ok _ _ _ c.deref-2.ensures.value c.in_ok-place_all.ensures.ok _ c.in_ok-rsdp.ensures.ok high;
    }

pub returns : goal.returns
returns g c =
    let some : 1 ≤ length c.finish.new.bytes.items = c.in_ok-rsdp.ensures.some in
    let size : c.len.result ≡ length c.finish.new.bytes.items = c.len.ensures ∙ c.finish.new.bytes.ok.0 in
    let low : c.args.base + length c.finish.new.bytes.items ≤ 2 ^ 64 = omega (arith, some, size, c.if-len-base.false, c.ranges.base.fits) in
    record {
      bytes = bytes_are c.args.base c.args.oem (option_map facs_bytes c.args.facs) c.args.sdt.now.bytes c.args.fadt (λ table. (goal.Aml-dyn g table.now).object table.now.1) _ _ c.deref.ensures.value
          _ c.in_ok-begin_image.ensures.ok _ _ _ c.deref-2.ensures.value c.in_ok-place_all.ensures.ok _ c.in_ok-rsdp.ensures.ok;
      rsdp = rsdp_is c.args.base c.args.oem (option_map facs_bytes c.args.facs) c.args.sdt.now.bytes c.args.fadt (λ table. (goal.Aml-dyn g table.now).object table.now.1) _ _ c.deref.ensures.value
          _ c.in_ok-begin_image.ensures.ok _ _ _ c.deref-2.ensures.value c.in_ok-place_all.ensures.ok _ c.in_ok-rsdp.ensures.ok _ c.in_ok-rsdp.ensures.rsdp low;
      accepted = accepted_is c.args.base c.args.oem (option_map facs_bytes c.args.facs) c.args.sdt.now.bytes c.args.fadt (λ table. (goal.Aml-dyn g table.now).object table.now.1) _ _ c.deref.ensures.value
          _ c.in_ok-begin_image.ensures.ok _ _ _ c.deref-2.ensures.value c.in_ok-place_all.ensures.ok _ c.in_ok-rsdp.ensures.ok low c.in_ok-rsdp.ensures.fits;
      cause = tt;
    }
