-- A compose in memory.
use Rattle.std.proofs.Common.{◌≡◌, ◌++◌, ℕ, Bool, List, Option, Ok, refl}
use Rattle.value_ops.specs.declared.field.Field.{Field}
use Rattle.query_model.specs.Queries.{Qre, compose}
use Rattle.compose_eval.specs.Followers.{Contents, live_instances, retired}
use Rattle.eval_nodes.specs.declared.progress.Progress.{Progress}
use Rattle.eval_nodes.specs.Holdings.{Holding, compose_held}
use Rattle.eval_nodes.specs.Live.{live_of}
use Rattle.eval_nodes.specs.Plain.{seen_of}
use Rattle.step_laws.specs.declared.hit.Hit.{Hit}
use Rattle.step_laws.specs.Calls.{HasStarted, HasStepped}
use Rattle.step_laws.specs.Feeds.{Feeds, PassesOn}
use Rattle.step_laws.proofs.ComposeSoundness.{sound_start_compose, sound_step_compose}
use Rattle.step_laws.proofs.ComposeStarts.{start_compose}
use Rattle.step_laws.proofs.ComposeSteps.{step_compose}

module _ (f g : Qre) (a a' : Holding Progress) where
  pub compose_starts : (held new : Contents Progress) (at : ℕ) (left hit : Option Hit) (live : Bool)
      → HasStarted seen_of f a at a' (Ok left) → live ≡ live_of f a' at
      → Feeds seen_of g held live at left new hit
      → HasStarted seen_of (compose f g) (compose_held a held) at (compose_held a' new) (Ok hit)
  compose_starts held new at left hit live first is_live feeds = record {
    word = start_compose seen_of f g a a' held new at left hit live first.word is_live feeds;
    sound = sound_start_compose seen_of f g a a' held new at live left hit first.sound feeds;
    no_memory = λ free. refl;
  }

  pub compose_steps : (held passed kept : Contents Progress) (now : ℕ) (item : List Field)
      (left hit : Option Hit) → HasStepped seen_of f a now item a' (Ok left)
      → PassesOn seen_of g held left passed hit
      → kept.live ≡ live_instances (live_of f a') passed.live
      → kept.idle ≡ passed.idle ++ retired (live_of f a') passed.live
      → HasStepped seen_of (compose f g) (compose_held a held) now item
      (compose_held a' kept) (Ok hit)
  compose_steps held passed kept now item left hit first passes live idle = record {
    word = step_compose seen_of f g a a' held passed kept now item left hit first.word
        passes live idle;
    sound = sound_step_compose seen_of f g a a' held passed kept now item left hit (live_of f a')
        first.sound passes live idle;
    no_memory = λ free. refl;
  }
