-- Statement. What a start and a step of a node promise: what stood for a word stands for the longer
-- one, what was sound stays sound, and those of a number query are never out of memory.
use Rattle.std.specs.Prelude.{ℕ, List, Option, Result, Ok, Err, IfOk, IsOk}
use Rattle.std.specs.declared.alloc.AllocError.{AllocError}
use Rattle.value_ops.specs.declared.field.Field.{Field}
use Rattle.query_model.specs.Queries.{Qre}
use Rattle.eval_nodes.specs.Holdings.{Holding, Seen}
use Rattle.step_laws.specs.declared.hit.Hit.{Hit}
use Rattle.step_laws.specs.Numbers.{StartsNumbers, StepsNumbers}
use Rattle.step_laws.specs.Steps.{Starts, StartsSoundly, Steps, StepsSoundly}

-- a hit, if there is one, unless out of memory
abbrev pub Found : Type 0
Found = Result (Option Hit) AllocError

-- the hit that was put in, unless out of memory
abbrev pub found_in : {A : Type 0} → Result A AllocError → Option Hit → Found
found_in (Ok done) hit = Ok hit
found_in (Err error) hit = Err error

module _ {R : Type 0} (seen : R → Seen R) where
  -- a start is added after `at` items
  pub record HasStarted (query : Qre) (old : Holding R) (at : ℕ) (new : Holding R)
      (result : Found) : Type 0 where
    pub word : IfOk result (Starts seen query old at new)
    pub sound : IfOk result (StartsSoundly seen query old at new)
    pub no_memory : StartsNumbers seen query old at → IsOk result

  -- an item goes by, after which there are `now`
  pub record HasStepped (query : Qre) (old : Holding R) (now : ℕ) (item : List Field)
      (new : Holding R) (result : Found) : Type 0 where
    pub word : IfOk result (Steps seen query old now item new)
    pub sound : IfOk result (StepsSoundly seen query old now item new)
    pub no_memory : StepsNumbers seen query old now item → IsOk result
