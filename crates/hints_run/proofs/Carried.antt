-- How a call ends by what it wrote.
use Rattle.std.proofs.Common.{inl, inr, ℕ, List, Option, Some, Result}
use Rattle.std.specs.declared.alloc.AllocError.{AllocError}
use Rattle.query_compiler.specs.Compiled.{Compiles, judged}
use Rattle.query_compiler.specs.Stops.{IsBlamedIn}
use Rattle.query_model.specs.Monitors.{Monitor}
use Rattle.stream_run.specs.Outside.{Outside}
use Rattle.dead_lines.specs.Reported.{JudgesLines, ReportsDeadLine}
use Rattle.stream_run.specs.Written.{Refuses, Reported}
use Rattle.stream_run.specs.declared.status.Status.{Status}
use Rattle.stream_run.specs.declared.status.Status.TheVariants.{Done, Refused, Usage, QueryFault}
use Rattle.stream_run.specs.declared.status.Status.TheVariants.{ItemFault, SinkFault, Memory, Limit}
use Rattle.type_checker.proofs.Judging.{blame_refused}
use Rattle.type_checker.specs.Blames.{refusal_of}
use Rattle.type_checker.specs.Judged.{refused}
use Rattle.type_checker.specs.declared.blame.Blame.{Blame}
use Rattle.hints_run.specs.Past.{IsPastReading}

-- a text whose query is blamed is refused
pub blame_refuses : (text : List ℕ) (blame : Blame) → IsBlamedIn (Some text) blame
    → Compiles text (refused (refusal_of blame))
blame_refuses text blame (program, is, file) =
    judged program (refused (refusal_of blame)) file (blame_refused program blame is)

-- a line was written, or not
pub past_reported : (status : Status) (line : Result (List ℕ) AllocError)
    (old new : Option (List ℕ)) → Reported status line old new → IsPastReading status
past_reported Done line old new wrote = tt
past_reported Refused line old new wrote = tt
past_reported Usage line old new wrote = wrote
past_reported QueryFault line old new wrote = wrote
past_reported ItemFault line old new wrote = tt
past_reported SinkFault line old new wrote = tt
past_reported Memory line old new wrote = tt
past_reported Limit line old new wrote = tt

pub past_refused : (status : Status) (line : Result (List ℕ) AllocError)
    (old new : Option (List ℕ)) → Refuses status line old new → IsPastReading status
past_refused Done line old new wrote = tt
past_refused Refused line old new wrote = tt
past_refused Usage line old new wrote = wrote
past_refused QueryFault line old new wrote = wrote
past_refused ItemFault line old new wrote = tt
past_refused SinkFault line old new wrote = tt
past_refused Memory line old new wrote = tt
past_refused Limit line old new wrote = tt

-- the lines of the items were judged, or not
pub past_dead : (monitor : Monitor) (status : Status) (old new : Outside)
    → ReportsDeadLine monitor status old new → IsPastReading status
past_dead monitor status old new (inl judges) = at status judges
  where
    at : (status : Status) → JudgesLines monitor status old new → IsPastReading status
    at Done is = tt
    at Refused is = tt
    at Usage is = is
    at QueryFault is = is
    at ItemFault is = tt
    at SinkFault is = tt
    at Memory is = tt
    at Limit is = tt
past_dead monitor status old new (inr unknown) =
    past_reported status unknown.1 old.taken new.taken unknown.3
