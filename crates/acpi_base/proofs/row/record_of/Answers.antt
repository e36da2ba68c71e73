use Rattle.std.proofs.Common.{◌≡◌, ◌≤◌, ◌+◌, ◌∙◌, ap, sym, arith, length, take, get_or, []}
use Rattle.std.proofs.lemmas.List.{length-take-le}
use Rattle.acpi_base.specs.Bytes.{put}
use Rattle.acpi_base.specs.Fields.{row_width, value_in, value_bytes}
use Rattle.acpi_base.specs.declared.row.Row.{Row}
use Rattle.acpi_base.specs.declared.row.Row.TheVariants.{Number}
use Rattle.acpi_base.specs.declared.row.Value.{Value}
use Rattle.acpi_base.specs.declared.row.Value.TheVariants as values
use Rattle.acpi_base.proofs.Puts.{length-put}
use Rattle.acpi_base.proofs.Values.{fits_at, length-value, joined_within, value_written, all_written}
use Rattle.acpi_base.proofs.row.record_of.Goals as goal

abbrev none : Row
none = Number (record { ref_ptr = (0, 0); now = [] }) 0

abbrev nothing : Value
nothing = values.Number 0

pub write_value-requires-clause-fits : goal.write_value-requires-clause-fits
write_value-requires-clause-fits g c =
    rw c.width-width.ensures (fits_at c.args.rows.now c.args.values.now c.loop-i.i none nothing c.loop-i-test.true c.requires.count c.requires.fit)

pub write_value-requires-clause-within : goal.write_value-requires-clause-within
write_value-requires-clause-within g c =
    let within = joined_within value_bytes c.args.rows.now c.args.values.now c.loop-i.i none nothing c.loop-i-test.true c.requires.count in
    let long = length-value _ _ (fits_at c.args.rows.now c.args.values.now c.loop-i.i none nothing c.loop-i-test.true c.requires.count c.requires.fit) in
    omega (arith, long, within, c.width-width.ensures, c.loop-i.invariant.at, c.loop-i.invariant.size, c.requires.size)

pub overflow_add-at : goal.overflow_add-at
overflow_add-at g c =
    let within = joined_within value_bytes c.args.rows.now c.args.values.now c.loop-i.i none nothing c.loop-i-test.true c.requires.count in
    let long = length-value _ _ (fits_at c.args.rows.now c.args.values.now c.loop-i.i none nothing c.loop-i-test.true c.requires.count c.requires.fit) in
    omega (arith, long, within, c.width-width.ensures, c.loop-i.invariant.at, c.requires.size, g.N.fits)

pub loop-i-preserved : goal.loop-i-preserved
loop-i-preserved g c =
    let rows = c.args.rows.now in
    let values = c.args.values.now in
    let width = row_width (get_or rows c.loop-i.i none) in
    let v = get_or values c.loop-i.i nothing in
    let w = c.width-width.result in
    let same : w ≡ width = c.width-width.ensures in
    let part = value_in width v in
    let put_there : c.write_value.new.bytes ≡ put c.loop-i.at part c.loop-i.bytes = c.write_value.ensures ∙ ap (λ n. put c.loop-i.at (value_in n v) c.loop-i.bytes) same in
    let within = joined_within value_bytes rows values c.loop-i.i none nothing c.loop-i-test.true c.requires.count in
    let long : length part ≡ width = length-value width v (fits_at rows values c.loop-i.i none nothing c.loop-i-test.true c.requires.count c.requires.fit) in
    let fits : c.loop-i.at + length part ≤ length c.loop-i.bytes = omega (arith, long, within, c.loop-i.invariant.at, c.loop-i.invariant.size, c.requires.size) in
    let written =
    value_written value_bytes rows values c.loop-i.i none nothing c.loop-i-test.true c.requires.count c.loop-i.at c.loop-i.bytes c.write_value.new.bytes
    c.loop-i.invariant.at c.loop-i.invariant.written fits put_there in
    let size : length c.write_value.new.bytes ≡ g.row.N = ap length put_there ∙ length-put c.loop-i.at part c.loop-i.bytes fits ∙ c.loop-i.invariant.size in
    let now = ap (λ n. take (c.loop-i.at + n) c.write_value.new.bytes) (same ∙ sym long) ∙ written in
    record {
      size = size;
      at = sym (length-take-le (c.loop-i.at + w) c.write_value.new.bytes (omega (arith, fits, long, same, size, c.loop-i.invariant.size))) ∙ ap length now;
      written = now;
    }

pub returns : goal.returns
returns g c =
    all_written value_bytes c.args.rows.now c.args.values.now c.loop-i.i _ _ _ c.loop-i-test.false c.requires.count c.loop-i.invariant.size c.loop-i.invariant.at
    c.loop-i.invariant.written c.requires.size
