-- Statement. What a call read of the query source.
use Rattle.std.specs.Prelude.{◌⊎◌, ℕ, List, Option}
use Rattle.io_edge.specs.Taken.{TakesFewer}
use Rattle.query_compiler.specs.QueryRead.{max_read, ReadsNone, ReadsText}
use Rattle.stream_run.specs.declared.status.Status.{Status}
use Rattle.stream_run.specs.declared.status.Status.TheVariants.{Usage, QueryFault, Memory}

-- What was known of it before and after the call: the bytes that are left, and the count of ends.
module _ (left left' : Option (List ℕ)) (ends ends' : ℕ) where
  -- what was read, by the status of the call
  abbrev pub ReadsQuery : Status → Type 0
  ReadsQuery Usage = ReadsNone left left' ends ends'
  ReadsQuery QueryFault = TakesFewer max_read left left' ends ends'
  ReadsQuery Memory = ReadsNone left left' ends ends' ⊎ ReadsText left left' ends ends'
  ReadsQuery _ = ReadsText left left' ends ends'
