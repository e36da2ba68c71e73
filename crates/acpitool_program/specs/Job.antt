-- What is done with each table of a file.
use Rattle.std.specs.Prelude.{ℕ, Bool, List}
use Rattle.acpi_terms_text.specs.Objects.{Callee}
use Rattle.acpitool_program.specs.declared.command.Style.{Style}
use Rattle.acpitool_program.specs.declared.job.Job.{Job as JobData}
use Rattle.acpitool_program.specs.declared.job.Job.TheVariants as jobs

-- What is done with a table:
-- - it is gathered, to be shown after the tables of all files are;
-- - it is shown, as the option of `show` says: these files were given and these numbers of arguments stated, and further blocks
--   have these objects;
-- - it is checked, and what is found is JSON or text;
-- - it is listed as JSON.
pub data Job : Type 0 where
  gathers : Job
  shows : Style → List (List ℕ) → List (List ℕ × ℕ) → List Callee → Job
  checks : Bool → Job
  lists : Job

abbrev pub asked : JobData → Job
asked jobs.Gathers = gathers
asked (jobs.Checks json) = checks json
asked jobs.Lists = lists
