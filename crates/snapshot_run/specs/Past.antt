-- For the prover. How a call ends that has read its query or its snapshot.
use Rattle.stream_run.specs.declared.status.Status.TheVariants.{Usage, QueryFault}
use Rattle.snapshot_run.specs.declared.exit.Exit.{Exit}
use Rattle.snapshot_run.specs.declared.exit.Exit.TheVariants.{Plain}

-- neither for its words nor for what it read first
abbrev pub IsPastReading : Exit → Type 0
IsPastReading (Plain Usage) = ⊥
IsPastReading (Plain QueryFault) = ⊥
IsPastReading exit = Unit {0}
