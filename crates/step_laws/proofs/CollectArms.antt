-- A collect in memory.
use Rattle.std.proofs.Common.{ℕ, List, Option, Ok, refl}
use Rattle.value_ops.specs.declared.field.Field.{Field}
use Rattle.predicates.specs.Predicates.{Predicate}
use Rattle.rate_expr.specs.Rates as rates
use Rattle.query_model.specs.Queries.{Qre, collect}
use Rattle.map_collect.specs.Tracks.{Contents}
use Rattle.eval_nodes.specs.declared.progress.Progress.{Progress}
use Rattle.eval_nodes.specs.Holdings.{collect_held}
use Rattle.eval_nodes.specs.Plain.{seen_of}
use Rattle.step_laws.specs.declared.hit.Hit.{Hit}
use Rattle.step_laws.specs.Calls.{HasStarted, HasStepped}
use Rattle.step_laws.specs.Pushes.{BeginsAt, PassesBy}
use Rattle.step_laws.proofs.CollectSoundness.{sound_start_collect, sound_step_collect}
use Rattle.step_laws.proofs.CollectStarts.{start_collect}
use Rattle.step_laws.proofs.CollectSteps.{step_collect}

module _ (chosen : List ℕ) (sync : Predicate) (rate : rates.Regex) (f : Qre)
    (old new : Contents Progress) where
  pub collect_starts : (at : ℕ) (hit : Option Hit) → BeginsAt seen_of f old at new hit
      → HasStarted seen_of (collect chosen sync rate f) (collect_held old) at
      (collect_held new) (Ok hit)
  collect_starts at hit begins = record {
    word = start_collect seen_of chosen sync rate f old new at hit begins.puts begins.first;
    sound = sound_start_collect seen_of chosen sync rate f old new at hit begins.puts begins.first;
    no_memory = λ free. refl;
  }

  pub collect_steps : (now : ℕ) (item : List Field) (hit : Option Hit)
      → PassesBy seen_of f chosen sync item old new hit
      → HasStepped seen_of (collect chosen sync rate f) (collect_held old) now item
      (collect_held new) (Ok hit)
  collect_steps now item hit passes = record {
    word = step_collect seen_of chosen sync rate f old
        (record { nfa = old.nfa; tracks = passes.advanced })
        (record { nfa = old.nfa; tracks = passes.pushed }) new now item hit passes.advances
        refl passes.pushes passes.tabled passes.keeps passes.nfa;
    sound = sound_step_collect seen_of chosen sync rate f old
        (record { nfa = old.nfa; tracks = passes.advanced })
        (record { nfa = old.nfa; tracks = passes.pushed }) new now item hit passes.advances
        refl passes.pushes passes.tabled passes.keeps passes.nfa;
    no_memory = λ free. refl;
  }
