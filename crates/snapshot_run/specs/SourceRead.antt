-- Statement. What was read of the source of a query or of a snapshot, up to a number of bytes.
use Rattle.std.specs.Prelude.{◌⊎◌, ℕ, List, Option}
use Rattle.io_edge.specs.Taken.{TakesFewer, TakesFirst}
use Rattle.query_compiler.specs.QueryRead.{ReadsNone}
use Rattle.stream_run.specs.declared.status.Status.TheVariants.{QueryFault, Memory}
use Rattle.snapshot_run.specs.declared.exit.Exit.{Exit}
use Rattle.snapshot_run.specs.declared.exit.Exit.TheVariants.{Plain}

-- What was known of it before and after the call: the bytes that are left, and the count of ends.
module _ (limit : ℕ) (left left' : Option (List ℕ)) (ends ends' : ℕ) where
  -- it was read once: to its first end, or until so many bytes were taken
  abbrev pub ReadsFirst : Type 0
  ReadsFirst = (got : List ℕ) × TakesFirst limit left left' ends ends' got

  -- what was read, by how the call ended
  abbrev pub ReadsSource : Exit → Type 0
  ReadsSource (Plain QueryFault) = TakesFewer limit left left' ends ends'
  ReadsSource (Plain Memory) = ReadsNone left left' ends ends' ⊎ ReadsFirst
  ReadsSource exit = ReadsFirst
