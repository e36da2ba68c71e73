use Rattle.std.proofs.Common.{◌≡◌, ◌∷◌, rules}
use Rattle.acpi_read.proofs.Dotted.{rooted_ascii, relative_ascii}
use Rattle.acpi_read.proofs.report.words.push_path.Goals as goal

pub push_segments-requires : goal.push_segments-requires
push_segments-requires c =
    let is : c.args.bytes.now ≡ c.in-Some.lead.now ∷ c.in-Some.rest.now = search rules in
    rw c.segments_of.ensures (relative_ascii c.args.bytes.now c.requires.rest c.requires.down _ _ is c.if-lead-ne92.true)

pub push_segments-requires-2 : goal.push_segments-requires-2
push_segments-requires-2 c =
    let is : c.args.bytes.now ≡ c.in-Some.lead.now ∷ c.in-Some.rest.now = search rules in
    rw c.segments_of-2.ensures (rooted_ascii c.args.bytes.now c.requires.rest _ _ is c.if-lead-ne92.false)
