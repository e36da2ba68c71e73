use Rattle.std.proofs.Common.{◌≡◌, ◌≤◌, ◌+◌, ◌∙◌, ap, sym, arith, length, take, get_or, []}
use Rattle.std.proofs.lemmas.List.{length-take-le}
use Rattle.acpi_base.specs.Bytes.{le, put}
use Rattle.acpi_base.specs.Fields.{row_width, number_bytes}
use Rattle.acpi_base.specs.declared.row.Row.{Row}
use Rattle.acpi_base.specs.declared.row.Row.TheVariants.{Number}
use Rattle.acpi_base.proofs.Bytes.{length_le}
use Rattle.acpi_base.proofs.Puts.{length-put}
use Rattle.acpi_base.proofs.Values.{number_at, joined_within, value_written, all_written}
use Rattle.acpi_base.proofs.row.record_of_numbers.Goals as goal

abbrev none : Row
none = Number (record { ref_ptr = (0, 0); now = [] }) 0

pub write_number-requires-clause-narrow : goal.write_number-requires-clause-narrow
write_number-requires-clause-narrow g c = omega (arith, number_at c.args.rows.now c.loop-i.i none c.loop-i-test.true c.requires.numbers, c.width-width.ensures)

pub write_number-requires-clause-within : goal.write_number-requires-clause-within
write_number-requires-clause-within g c =
    let within = joined_within number_bytes c.args.rows.now c.args.numbers.now c.loop-i.i none 0 c.loop-i-test.true c.requires.count in
    let long = length_le (row_width (get_or c.args.rows.now c.loop-i.i none)) (get_or c.args.numbers.now c.loop-i.i 0) in
    omega (arith, long, within, c.width-width.ensures, c.loop-i.invariant.at, c.loop-i.invariant.size, c.requires.size)

pub overflow_add-at : goal.overflow_add-at
overflow_add-at g c =
    let within = joined_within number_bytes c.args.rows.now c.args.numbers.now c.loop-i.i none 0 c.loop-i-test.true c.requires.count in
    let long = length_le (row_width (get_or c.args.rows.now c.loop-i.i none)) (get_or c.args.numbers.now c.loop-i.i 0) in
    omega (arith, long, within, c.width-width.ensures, c.loop-i.invariant.at, c.requires.size, g.N.fits)

pub loop-i-preserved : goal.loop-i-preserved
loop-i-preserved g c =
    let rows = c.args.rows.now in
    let numbers = c.args.numbers.now in
    let width = row_width (get_or rows c.loop-i.i none) in
    let v = get_or numbers c.loop-i.i 0 in
    let w = c.width-width.result in
    let same : w ≡ width = c.width-width.ensures in
    let put_there : c.write_number.new.bytes ≡ put c.loop-i.at (le width v) c.loop-i.bytes = c.write_number.ensures ∙ ap (λ n. put c.loop-i.at (le n v) c.loop-i.bytes) same in
    let within = joined_within number_bytes rows numbers c.loop-i.i none 0 c.loop-i-test.true c.requires.count in
    let long : length (le width v) ≡ width = length_le width v in
    let fits : c.loop-i.at + length (le width v) ≤ length c.loop-i.bytes = omega (arith, long, within, c.loop-i.invariant.at, c.loop-i.invariant.size, c.requires.size) in
    let written =
    value_written number_bytes rows numbers c.loop-i.i none 0 c.loop-i-test.true c.requires.count c.loop-i.at c.loop-i.bytes c.write_number.new.bytes
    c.loop-i.invariant.at c.loop-i.invariant.written fits put_there in
    let size : length c.write_number.new.bytes ≡ g.row.N = ap length put_there ∙ length-put c.loop-i.at (le width v) c.loop-i.bytes fits ∙ c.loop-i.invariant.size in
    let now = ap (λ n. take (c.loop-i.at + n) c.write_number.new.bytes) (same ∙ sym long) ∙ written in
    record {
      size = size;
      at = sym (length-take-le (c.loop-i.at + w) c.write_number.new.bytes (omega (arith, fits, long, same, size, c.loop-i.invariant.size))) ∙ ap length now;
      written = now;
    }

pub returns : goal.returns
returns g c =
    all_written number_bytes c.args.rows.now c.args.numbers.now c.loop-i.i _ _ _ c.loop-i-test.false c.requires.count c.loop-i.invariant.size c.loop-i.invariant.at
    c.loop-i.invariant.written c.requires.size
