-- Statement. What a call of `explain` did, by its status.
use Rattle.std.specs.Prelude.{◌≡◌, ℕ, List, Option}
use Rattle.std.specs.Io.KnownBytes.{Appends}
use Rattle.io_edge.specs.Taken.{TakesFewer, TakesFirst}
use Rattle.io_edge.specs.Written.{AppendsSome}
use Rattle.query_compiler.specs.QueryRead.{max_read}
use Rattle.explain_run.specs.Explained.{Explains, IsAccepted}
use Rattle.explain_run.specs.declared.status.Status.{Status}
use Rattle.explain_run.specs.declared.status.Status.TheVariants.{Accepted, Explained, QueryFault}
use Rattle.explain_run.specs.declared.status.Status.TheVariants.{SinkFault, Memory}

-- What was written about the text that was read, which is called by this name: its explanation,
-- whole or in part, and nothing if the query is accepted.
abbrev pub Reported : List ℕ → List ℕ → Option (List ℕ) → Option (List ℕ) → Status → Type 0
Reported name text old new Accepted = IsAccepted text × (new ≡ old)
Reported name text old new Explained =
    (shown : List ℕ) × Explains name text shown × Appends old new shown
Reported name text old new SinkFault =
    (shown : List ℕ) × Explains name text shown × AppendsSome old new shown
Reported name text old new Memory = new ≡ old
Reported name text old new QueryFault = ⊥

-- What was read of the query, to its first end or until there were too many bytes, and what was
-- written about it: `left`, `ends` and `old` before the call, `left'`, `ends'` and `new` after it.
module _ (name : List ℕ) (left left' : Option (List ℕ)) (ends ends' : ℕ)
    (old new : Option (List ℕ)) where
  abbrev pub ReadsText : Status → Type 0
  ReadsText status = (text : List ℕ) × TakesFirst max_read left left' ends ends' text
      × Reported name text old new status

  abbrev pub Outcome : Status → Type 0
  Outcome QueryFault = TakesFewer max_read left left' ends ends' × (new ≡ old)
  Outcome Memory = new ≡ old
  Outcome Accepted = ReadsText Accepted
  Outcome Explained = ReadsText Explained
  Outcome SinkFault = ReadsText SinkFault
