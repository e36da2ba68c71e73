use Rattle.acpi_make.proofs.Runs.{skipped_same, headed_same, named_same, braced_same}
use Rattle.acpi_make.proofs.run.after_run.Goals as goal

pub returns-in-Skipped-clause-same : goal.returns-in-Skipped-clause-same
returns-in-Skipped-clause-same c =
    rw (c.in-Skipped.is, c.after_plain.ensures.is) (skipped_same c.args.text.now)

pub returns-in-Headed-clause-same : goal.returns-in-Headed-clause-same
returns-in-Headed-clause-same c =
    rw (c.in-Headed.is, c.after_plain-in-Headed.ensures.is) (headed_same c.in-Headed.field-0 c.args.text.now)

pub returns-in-Named-clause-same : goal.returns-in-Named-clause-same
returns-in-Named-clause-same c =
    rw (c.in-Named.is, c.after_plain-in-Named.ensures.is) (named_same c.in-Named.field-0 c.args.text.now)

pub returns-in-Braced-clause-same : goal.returns-in-Braced-clause-same
returns-in-Braced-clause-same c =
    rw (c.in-Braced.is, c.after_plain-in-Braced.ensures.is) (braced_same c.in-Braced.field-0 c.args.text.now)
