-- Statement. The exit status of the program for each way in which a call ends.
use Rattle.std.specs.Prelude.{ℕ}
use Rattle.expand_run.specs.declared.status.Status.{Status}
use Rattle.expand_run.specs.declared.status.Status.TheVariants.{Done, Refused, Usage, QueryFault}
use Rattle.expand_run.specs.declared.status.Status.TheVariants.{SinkFault, Memory}

-- the number of each status
abbrev pub number_of : Status → ℕ
number_of Done = 0
number_of Refused = 1
number_of Usage = 2
number_of QueryFault = 3
number_of SinkFault = 5
number_of Memory = 6
