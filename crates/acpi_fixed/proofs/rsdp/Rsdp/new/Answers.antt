use Rattle.std.proofs.Common.{sym, rules}
use Rattle.std.proofs.lemmas.List.{length-take-le}
use Rattle.acpi_fixed.proofs.rsdp.Rsdp.new.Goals as goal

pub slice_bounds-complement_of-end : goal.slice_bounds-complement_of-end
slice_bounds-complement_of-end c = sym (length-take-le 20 _ (search rules))
