use Rattle.std.proofs.Common.{◌≡◌, ◌≤◌, ◌+◌, ◌++◌, ℕ}
use Rattle.item_drill.specs.Lines.{lines_from}
use Rattle.query_model.specs.Monitors.{monitor_of}
use Rattle.stream_run.specs.Drilled.{values_of}
use Rattle.stream_run.specs.Drilling.{drilled_lines}
use Rattle.stream_run.specs.Meanings.{IsMeaning, Meaning}
use Rattle.stream_run.specs.Output.{value_after}
use Rattle.stream_run.specs.Sessions.{IsAfter, IsReady, first_origin}
use Rattle.stream_run.proofs.Drills.{IsTally}
use Rattle.stream_run.proofs.drill_loop.drill.Given as goal

-- the session has taken this many lines of the drill, and the values after them are counted
abbrev pub invariant-items : goal.invariant-items
invariant-items g l =
    let f = g.F.Follower in
    let layout = l.fn.checked.layout in
    record {
      after : IsAfter f.follows (first_origin l.fn.checked l.fn.follower)
          (drilled_lines layout l.counter l.fn.seed) l.session;
      ready : IsReady f.query f.columns f.lost f.sound l.session;
      position : f.position l.session.follower ≤ l.counter + 1;
      same : l.drill.layout ≡ layout;
      continues : (n : ℕ) → lines_from layout.columns (l.counter + n) l.fn.seed
          ≡ lines_from layout.columns l.counter l.fn.seed
          ++ lines_from layout.columns n l.drill.state;
      tally : (meaning : Meaning) → IsMeaning (monitor_of l.fn.checked) meaning
          → IsTally l.counter l.defined
          (values_of meaning (drilled_lines layout l.counter l.fn.seed))
          (value_after meaning (drilled_lines layout l.counter l.fn.seed));
      few : l.defined ≤ l.counter;
    }
