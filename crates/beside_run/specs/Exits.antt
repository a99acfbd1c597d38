-- Statement. The exit status of the program for each way in which a call ends.
use Rattle.std.specs.Prelude.{ℕ}
use Rattle.stream_run.specs.Statuses as run
use Rattle.beside_run.specs.declared.exit.Exit.{Exit}
use Rattle.beside_run.specs.declared.exit.Exit.TheVariants.{Plain, OtherStream}

-- the number of each; those of a run are below
abbrev pub number_of : Exit → ℕ
number_of (Plain status) = run.number_of status
number_of OtherStream = 11
