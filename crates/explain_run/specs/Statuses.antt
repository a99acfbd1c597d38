-- Statement. The exit status of the program for each way in which an explanation ends.
use Rattle.std.specs.Prelude.{ℕ}
use Rattle.explain_run.specs.declared.status.Status.{Status}
use Rattle.explain_run.specs.declared.status.Status.TheVariants.{Accepted, Explained, QueryFault}
use Rattle.explain_run.specs.declared.status.Status.TheVariants.{SinkFault, Memory}

-- the number of each status
abbrev pub number_of : Status → ℕ
number_of Accepted = 0
number_of Explained = 1
number_of QueryFault = 3
number_of SinkFault = 5
number_of Memory = 6
