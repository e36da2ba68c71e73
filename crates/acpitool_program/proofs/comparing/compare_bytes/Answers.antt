use Rattle.std.proofs.Common.{inl}
use Rattle.acpitool_program.proofs.Streams.{keeps_self}
use Rattle.acpitool_program.proofs.comparing.compare_bytes.Goals as goal

pub returns : goal.returns
returns g c =
    let this = c.in_ok-print_comparison.ensures in
    inl (record {
      first = c.in_default.ensures.ok;
      second = c.in_default-check_kind.ensures.ok;
      text = this.0;
      compared = this.1;
      wrote = this.2;
      silent = keeps_self _;
      is = this.3;
    })
