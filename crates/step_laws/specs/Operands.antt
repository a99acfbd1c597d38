-- For the prover. What is promised by the calls of an operand whose value is joined with a left
-- value: with one that waits, when an item goes by, or with one that was just found, when a start
-- is added. For a further piece of an iteration, the value so far waits.
use Rattle.std.specs.Prelude.{◌≡◌, ◌==◌, ◌&&◌, ℕ, Bool, not, List, Option, Ok}
use Rattle.value_ops.specs.declared.field.Field.{Field}
use Rattle.value_ops.specs.declared.value.Value.{Value}
use Rattle.expressions.specs.Expressions.{Expression}
use Rattle.query_model.specs.Queries.{Qre}
use Rattle.split_eval.specs.Entries.{Contents, live_entries}
use Rattle.split_eval.specs.declared.entry.Entry.{Entry}
use Rattle.eval_nodes.specs.Holdings.{Holding, Seen}
use Rattle.eval_nodes.specs.Live.{live_of}
use Rattle.step_laws.specs.declared.hit.Hit.{Hit}
use Rattle.step_laws.specs.Calls.{HasStarted, HasStepped}
use Rattle.step_laws.specs.Lefts.{AreNoTablesWith, AreTypedWith, IsEnded, IsJoined, IsNoTableWith}
use Rattle.step_laws.specs.Lefts.{IsPut, IsTypedWith}
use Rattle.step_laws.specs.Numbers.{StartsNumbers, StepsNumbers}
use Rattle.step_laws.specs.Steps.{CanStart, CanStep, StartsSoundly, StepsSoundly}

-- what waits elsewhere than at the position stays if its start is live, and nothing else stays
abbrev pub KeepsLive : (ℕ → Bool) → ℕ → Contents Value → Contents Value → Type 0
KeepsLive live at old new =
    (new.entries ≡ live_entries (λ start. not (start == at) && live start) old.entries)
    × (new.room ≡ old.room)

module _ {R : Type 0} (seen : R → Seen R) where
  module _ (operand : Qre) (expression : Expression) (waiting : List (Entry Value))
      (old : Holding R) (now : ℕ) (item : List Field) where
    -- the item may go by, and the expression is well typed on what waits and a hit after it
    pub record CanEnd : Type 0 where
      pub can : CanStep seen operand old now item
      pub typed : (new : Holding R) (right : Option Hit)
          → StepsSoundly seen operand old now item new right
          → AreTypedWith expression waiting right

    -- the item went by, and a hit after it has ended what waited at its start
    pub record HasEnded (new : Holding R) (whole : Option Hit) : Type 0 where
      pub right : Option Hit
      pub stepped : HasStepped seen operand old now item new (Ok right)
      pub ended : IsEnded expression waiting right whole

    -- the item goes by in a number query, and the expression is a number there
    pub record EndsNumbers : Type 0 where
      pub steps : StepsNumbers seen operand old now item
      pub ends : (new : Holding R) (right : Option Hit)
          → StepsSoundly seen operand old now item new right
          → AreNoTablesWith expression waiting right

  module _ (operand : Qre) (expression : Expression) (left : Hit) (old : Holding R) (at : ℕ) where
    -- a start may be added, and the expression is well typed on the left value and a hit there
    pub record CanJoin : Type 0 where
      pub can : CanStart seen operand old at
      pub typed : (new : Holding R) (right : Option Hit)
          → StartsSoundly seen operand old at new right
          → IsTypedWith expression left.value right

    -- the start was added, and a hit there is joined with the left value
    pub record HasJoined (new : Holding R) (whole : Option Hit) : Type 0 where
      pub right : Option Hit
      pub started : HasStarted seen operand old at new (Ok right)
      pub joined : IsJoined expression left.start left.value right whole

    -- the start is added in a number query, and the expression is a number there
    pub record JoinsNumbers : Type 0 where
      pub starts : StartsNumbers seen operand old at
      pub joins : (new : Holding R) (right : Option Hit)
          → StartsSoundly seen operand old at new right → IsNoTableWith expression left.value right

  -- a piece of an iteration began after a value so far, which waits for it if the start is live
  pub record Continues (operand : Qre) (hit : Hit) (old : Holding R) (waiting : Contents Value)
      (at : ℕ) (new : Holding R) (more : Contents Value) : Type 0 where
    pub begun : Option Hit
    pub started : HasStarted seen operand old at new (Ok begun)
    pub put : IsPut (live_of operand new at) waiting
        (record { inner = at; outer = hit.start; value = hit.value }) more
