use Rattle.std.proofs.Common.{◌≡◌, ◌+◌, ◌++◌, length, drop, string_bytes}
use Rattle.acpi_text.specs.Structure.{lists_text}
use Rattle.acpi_text.proofs.inner.push_lists.Given as goal

abbrev pub invariant-lists : goal.invariant-lists
invariant-lists l = record {
  within : l.at + length l.rest ≡ length l.bytes;
  shown : string_bytes l.text ++ lists_text l.whole (drop l.list-index l.lists) (l.start + l.at) l.rest
      ≡ string_bytes l.initial.text ++ lists_text l.whole l.lists l.start l.bytes;
}
