-- For the prover. How a call ends that has read its query.
use Rattle.stream_run.specs.declared.status.Status.{Status}
use Rattle.stream_run.specs.declared.status.Status.TheVariants.{Usage, QueryFault}

-- neither for its words nor for a fault of the query
abbrev pub IsPastReading : Status → Type 0
IsPastReading Usage = ⊥
IsPastReading QueryFault = ⊥
IsPastReading status = Unit {0}
