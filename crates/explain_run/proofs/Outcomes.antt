-- From what was reported of a text to what a call did.
use Rattle.std.proofs.Common.{ℕ, List, Option}
use Rattle.io_edge.specs.Taken.{TakesFirst}
use Rattle.query_compiler.specs.QueryRead.{max_read}
use Rattle.explain_run.specs.Call.{Outcome, Reported}
use Rattle.explain_run.specs.declared.status.Status.{Status}
use Rattle.explain_run.specs.declared.status.Status.TheVariants.{Accepted, Explained, QueryFault}
use Rattle.explain_run.specs.declared.status.Status.TheVariants.{SinkFault, Memory}

-- what was reported of the bytes that were read
pub outcome_of : (name text : List ℕ) (left left' : Option (List ℕ)) (ends ends' : ℕ)
    (old new : Option (List ℕ)) (status : Status)
    → TakesFirst max_read left left' ends ends' text → Reported name text old new status
    → Outcome name left left' ends ends' old new status
outcome_of name text left left' ends ends' old new Accepted takes reported = (text, takes, reported)
outcome_of name text left left' ends ends' old new Explained takes reported =
    (text, takes, reported)
outcome_of name text left left' ends ends' old new QueryFault takes reported = absurd reported
outcome_of name text left left' ends ends' old new SinkFault takes reported =
    (text, takes, reported)
outcome_of name text left left' ends ends' old new Memory takes reported = reported
