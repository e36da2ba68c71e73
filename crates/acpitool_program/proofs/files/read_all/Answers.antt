use Rattle.std.proofs.Common.{arith}
use Rattle.acpitool_program.proofs.Whole.{whole}
use Rattle.acpitool_program.proofs.files.read_all.Goals as goal

pub returns : goal.returns
returns g c =
    let length_is = c.in_ok-bytes.bytes.ok.0 in
    let number = c.len.ensures in
    let most = c.if-len.false in
    whole (g.I.Read.remaining c.args.input) c.in_ok-bytes.bytes.items (omega (arith, length_is, number, most)) c.in_ok-bytes.ensures
