-- Statement. What a call of `expand` did, by its status.
use Rattle.std.specs.Prelude.{◌≡◌, ◌⊎◌, ℕ, ◌+◌, List, Option, None, Some}
use Rattle.std.specs.Io.KnownBytes.{Appends}
use Rattle.io_edge.specs.Taken.{TakesFewer, TakesFirst}
use Rattle.io_edge.specs.Written.{AppendsSome}
use Rattle.language_base.specs.Limits.{max_text}
use Rattle.expand_run.specs.Answers.{Answers, Refuses}
use Rattle.expand_run.specs.declared.command.Command.{Command}
use Rattle.expand_run.specs.declared.status.Status.{Status}
use Rattle.expand_run.specs.declared.status.Status.TheVariants.{Done, Refused, Usage, QueryFault}
use Rattle.expand_run.specs.declared.status.Status.TheVariants.{SinkFault, Memory}

-- the most bytes that are read of a query: one more than it may have
abbrev pub max_read : ℕ
max_read = max_text + 1

-- what a command wrote about a text: the lines of its answer or of a refusal, whole or in part
abbrev pub Written : Command → List ℕ → Status → Option (List ℕ) → Option (List ℕ) → Type 0
Written command text Done old new =
    (lines : List ℕ) × Answers command text lines × Appends old new lines
Written command text Refused old new =
    (lines : List ℕ) × Refuses command text lines × Appends old new lines
Written command text SinkFault old new =
    (lines : List ℕ) × (Answers command text lines ⊎ Refuses command text lines)
    × AppendsSome old new lines
Written command text Memory old new = new ≡ old
Written command text Usage old new = ⊥
Written command text QueryFault old new = ⊥

-- What was read of the query, to its first end or until there were too many bytes, and what was
-- written about it: `left`, `ends` and `old` before the call, `left'`, `ends'` and `new` after it.
module _ (left left' : Option (List ℕ)) (ends ends' : ℕ) (old new : Option (List ℕ)) where
  -- nothing was read or written
  abbrev pub DoesNothing : Type 0
  DoesNothing = (left' ≡ left) × (ends' ≡ ends) × (new ≡ old)

  -- a text was read
  abbrev pub ReadsText : Command → Status → Type 0
  ReadsText command status = (text : List ℕ) × TakesFirst max_read left left' ends ends' text
      × Written command text status old new

  -- by what the words ask for
  abbrev pub Outcome : Option Command → Status → Type 0
  Outcome None status = DoesNothing
  Outcome (Some command) QueryFault = TakesFewer max_read left left' ends ends' × (new ≡ old)
  Outcome (Some command) Memory = DoesNothing ⊎ ReadsText command Memory
  Outcome (Some command) status = ReadsText command status
