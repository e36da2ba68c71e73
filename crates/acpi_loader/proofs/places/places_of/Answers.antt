use Rattle.std.proofs.Common.{◌≡◌, ◌+◌, ◌*◌, ◌^◌, ◌<◌, length, map, refl, arith}
use Rattle.acpi_loader.specs.Tables.{fadt_place}
use Rattle.acpi_loader.proofs.Placed.{numbers, before_fits, start_is, start_fits, fadt_fits, address_inside, xsdt_is, xsdt_fits, length_inside, size_is, placed_is}
use Rattle.acpi_loader.proofs.places.places_of.Goals as goal

pub overflow_add-facs : goal.overflow_add-facs
overflow_add-facs c =
    let k = numbers (map (λ file. file.items) c.args.files.now) c.args.image.now c.requires.0 c.requires.1 in
    let h : c.size_of-facs.result + c.size_of-dsdt.result < 2 ^ 32 = before_fits _ _ _ k _ _ c.size_of-facs.ensures c.size_of-dsdt.ensures in
    omega (arith, h)

pub next-start-requires : goal.next-start-requires
next-start-requires c =
    let k = numbers (map (λ file. file.items) c.args.files.now) c.args.image.now c.requires.0 c.requires.1 in
    let h : c.size_of-facs.result + c.size_of-dsdt.result < 2 ^ 32 = before_fits _ _ _ k _ _ c.size_of-facs.ensures c.size_of-dsdt.ensures in
    omega (arith, h)

pub overflow_add-image : goal.overflow_add-image
overflow_add-image c =
    let k = numbers (map (λ file. file.items) c.args.files.now) c.args.image.now c.requires.0 c.requires.1 in
    let h : c.args.image.now.rsdp + 36 < 2 ^ 32 = k.small in
    omega (arith, h)

pub qword_at-xsdt-requires : goal.qword_at-xsdt-requires
qword_at-xsdt-requires c =
    let k = numbers (map (λ file. file.items) c.args.files.now) c.args.image.now c.requires.0 c.requires.1 in
    address_inside _ _ _ k c.as_slice-bytes.result.now c.as_slice-bytes.ensures.value

pub overflow_add-xsdt : goal.overflow_add-xsdt
overflow_add-xsdt c =
    let k = numbers (map (λ file. file.items) c.args.files.now) c.args.image.now c.requires.0 c.requires.1 in
    let h : c.qword_at-xsdt.result < 2 ^ 32 = xsdt_fits _ _ _ k c.as_slice-bytes.result.now c.as_slice-bytes.ensures.value c.qword_at-xsdt.result c.qword_at-xsdt.ensures in
    omega (arith, h)

pub dword_at-size-requires : goal.dword_at-size-requires
dword_at-size-requires c =
    let k = numbers (map (λ file. file.items) c.args.files.now) c.args.image.now c.requires.0 c.requires.1 in
    length_inside _ _ _ k c.as_slice-bytes.result.now c.as_slice-bytes.ensures.value c.qword_at-xsdt.result c.qword_at-xsdt.ensures

pub overflow_cast-result : goal.overflow_cast-result
overflow_cast-result c =
    let k = numbers (map (λ file. file.items) c.args.files.now) c.args.image.now c.requires.0 c.requires.1 in
    let is : c.next-start.result ≡ fadt_place c.requires.0
    = start_is _ _ _ k _ _ c.next-start.result c.size_of-facs.ensures c.size_of-dsdt.ensures c.next-start.ensures in
    let h : fadt_place c.requires.0 < 2 ^ 32 = start_fits _ _ _ k in
    omega (arith, is, h)

pub overflow_cast-result-2 : goal.overflow_cast-result-2
overflow_cast-result-2 c =
    let k = numbers (map (λ file. file.items) c.args.files.now) c.args.image.now c.requires.0 c.requires.1 in
    let h : c.size_of-fadt.result < 2 ^ 32 = fadt_fits _ _ _ k c.size_of-fadt.result c.size_of-fadt.ensures in
    omega (arith, h)

pub overflow_cast-result-3 : goal.overflow_cast-result-3
overflow_cast-result-3 c =
    let k = numbers (map (λ file. file.items) c.args.files.now) c.args.image.now c.requires.0 c.requires.1 in
    let h : c.qword_at-xsdt.result < 2 ^ 32 = xsdt_fits _ _ _ k c.as_slice-bytes.result.now c.as_slice-bytes.ensures.value c.qword_at-xsdt.result c.qword_at-xsdt.ensures in
    omega (arith, h)

pub overflow_sub-result : goal.overflow_sub-result
overflow_sub-result c =
    let k = numbers (map (λ file. file.items) c.args.files.now) c.args.image.now c.requires.0 c.requires.1 in
    let h : c.dword_at-size.result ≡ 36 + 8 * (1 + length c.requires.0.others)
    = size_is _ _ _ k c.as_slice-bytes.result.now c.as_slice-bytes.ensures.value c.qword_at-xsdt.result c.qword_at-xsdt.ensures c.dword_at-size.result c.dword_at-size.ensures in
    omega (arith, h)

pub returns : goal.returns
returns c =
    let k = numbers (map (λ file. file.items) c.args.files.now) c.args.image.now c.requires.0 c.requires.1 in (
      c.requires.0,
      c.requires.1,
      placed_is _ _ _ k _ _ _ _ c.dword_at-size.result _ c.has_file-has_facs.ensures
          (start_is _ _ _ k _ _ c.next-start.result c.size_of-facs.ensures c.size_of-dsdt.ensures c.next-start.ensures)
          c.size_of-fadt.ensures (xsdt_is _ _ _ k c.as_slice-bytes.result.now c.as_slice-bytes.ensures.value c.qword_at-xsdt.result c.qword_at-xsdt.ensures)
          (size_is _ _ _ k c.as_slice-bytes.result.now c.as_slice-bytes.ensures.value c.qword_at-xsdt.result c.qword_at-xsdt.ensures c.dword_at-size.result c.dword_at-size.ensures) refl,
    )
