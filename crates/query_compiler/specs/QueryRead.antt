-- Statement. What was read of the query source.
use Rattle.std.specs.Prelude.{◌≡◌, ◌⊎◌, ℕ, ◌+◌, List, Option, Result, Ok, Err}
use Rattle.io_edge.specs.Taken.{TakesFewer, TakesFirst}
use Rattle.language_base.specs.Limits.{max_text}
use Rattle.query_compiler.specs.declared.query.QueryStop.{QueryStop}
use Rattle.query_compiler.specs.declared.query.QueryStop.TheVariants as stop

-- the most bytes that are read of it: one more than a query may have
abbrev pub max_read : ℕ
max_read = max_text + 1

-- What was known of it before and after a call: the bytes that are left, and the count of ends.
module _ (left left' : Option (List ℕ)) (ends ends' : ℕ) where
  -- nothing was read
  abbrev pub ReadsNone : Type 0
  ReadsNone = (left' ≡ left) × (ends' ≡ ends)

  -- it was read once: to its first end, or until there were more bytes than a query may have
  abbrev pub ReadsText : Type 0
  ReadsText = (got : List ℕ) × TakesFirst max_read left left' ends ends' got

  -- what was read, if this is the result: a query to run, or why there is none
  abbrev pub ReadsFor : {A : Type 0} → Result A QueryStop → Type 0
  ReadsFor (Ok query) = ReadsText
  ReadsFor (Err stop.Failed) = TakesFewer max_read left left' ends ends'
  ReadsFor (Err (stop.Refused refusal)) = ReadsText
  ReadsFor (Err (stop.Ambiguous blame)) = ReadsText
  ReadsFor (Err stop.Memory) = ReadsNone ⊎ ReadsText
