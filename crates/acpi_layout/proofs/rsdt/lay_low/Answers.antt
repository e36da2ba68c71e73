use Rattle.std.proofs.Common.{ap, sym, ◌∙◌, Some}
use Rattle.std.specs.Option.{option_map}
use Rattle.acpi_fixed.specs.Facs.{facs_bytes}
use Rattle.acpi_layout.proofs.LowAnswered.{low_refused, low_memory, low_own, too_many, bytes_are, pointer_is, places_refused, places_accepted}
use Rattle.acpi_layout.proofs.rsdt.lay_low.Goals as goal

pub returns-in_err-begin_low : goal.returns-in_err-begin_low
returns-in_err-begin_low g c = low_memory _ _ _ _ _ _ _ _ _ c.from_residual.ensures.1 c.in_err-begin_low.ensures.err

pub returns-in_err-place_all : goal.returns-in_err-place_all
returns-in_err-place_all g c =
    low_own c.args.base c.args.rsdp c.args.oem (option_map facs_bytes c.args.facs) c.args.sdt.now.bytes c.args.fadt (λ table. (goal.Aml-dyn g table.now).object table.now.1) _ _ c.deref.ensures.value _ _
    c.from_residual-in_err-place_all.ensures.1 c.in_err-place_all.ensures.err

pub returns-in-Err : goal.returns-in-Err
returns-in-Err g c = record {
  bytes = tt;
  pointer = tt;
  accepted = tt;
  cause = λ other.
      let fault = c.fault_of.ensures other in
      too_many c.args.base c.args.rsdp c.args.oem (option_map facs_bytes c.args.facs) c.args.sdt.now.bytes c.args.fadt (λ table. (goal.Aml-dyn g table.now).object table.now.1) _ _ c.deref.ensures.value
      _ c.in_ok-begin_low.ensures.ok _ _ _ c.deref-2.ensures.value c.in_ok-place_all.ensures.ok (c.in-Err.ensures.err fault.1) ∙ ap (λ x. Some x) (sym fault.0);
}

pub returns-in_err-check_places : goal.returns-in_err-check_places
returns-in_err-check_places g c =
    low_refused _ _ _ _ _ _ _ _ _ c.from_residual-in_err-check_places.ensures.1
    (λ other. places_refused c.args.base c.args.rsdp c.args.oem (option_map facs_bytes c.args.facs) c.args.sdt.now.bytes c.args.fadt (λ table. (goal.Aml-dyn g table.now).object table.now.1) _ _ c.deref.ensures.value
    _ c.in_ok-begin_low.ensures.ok _ _ _ c.deref-2.ensures.value c.in_ok-place_all.ensures.ok _ c.in-Ok.ensures.ok c.len.result _ (c.len.ensures ∙ c.finish_low.new.bytes.ok.0) c.in_err-check_places.ensures.err)

pub returns : goal.returns
returns g c = record {
  bytes = bytes_are c.args.base c.args.rsdp c.args.oem (option_map facs_bytes c.args.facs) c.args.sdt.now.bytes c.args.fadt (λ table. (goal.Aml-dyn g table.now).object table.now.1) _ _ c.deref.ensures.value
      _ c.in_ok-begin_low.ensures.ok _ _ _ c.deref-2.ensures.value c.in_ok-place_all.ensures.ok _ c.in-Ok.ensures.ok;
  pointer = pointer_is c.args.base c.args.rsdp c.args.oem (option_map facs_bytes c.args.facs) c.args.sdt.now.bytes c.args.fadt (λ table. (goal.Aml-dyn g table.now).object table.now.1) _ _ c.deref.ensures.value
      _ c.in_ok-begin_low.ensures.ok _ _ _ c.deref-2.ensures.value c.in_ok-place_all.ensures.ok _ c.in-Ok.ensures.ok _ c.in-Ok.ensures.pointer;
  accepted = places_accepted c.args.base c.args.rsdp c.args.oem (option_map facs_bytes c.args.facs) c.args.sdt.now.bytes c.args.fadt (λ table. (goal.Aml-dyn g table.now).object table.now.1) _ _ c.deref.ensures.value
      _ c.in_ok-begin_low.ensures.ok _ _ _ c.deref-2.ensures.value c.in_ok-place_all.ensures.ok _ c.in-Ok.ensures.ok c.len.result (c.len.ensures ∙ c.finish_low.new.bytes.ok.0) c.in_ok-check_places.ensures.ok;
  cause = tt;
}
