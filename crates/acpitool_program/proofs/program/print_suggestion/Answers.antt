use Rattle.acpitool_program.proofs.Streams.{appends_then}
use Rattle.acpitool_program.proofs.program.print_suggestion.Goals as goal

pub returns-in_ok-write_all-in-Some-3 : goal.returns-in_ok-write_all-in-Some-3
returns-in_ok-write_all-in-Some-3 g c =
    rw c.in-Some.is (appends_then _ _ _ _ _
    (appends_then _ _ _ _ _ c.in_ok-write_all-in-Some.ensures.bytes (rw c.as_word.ensures at c.in_ok-write_all-in-Some-2.ensures.bytes))
    c.in_ok-write_all-in-Some-3.ensures.bytes)
