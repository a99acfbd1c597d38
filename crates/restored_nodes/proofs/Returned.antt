-- The runners of composes and of collects are put back one after the other.
use Rattle.std.proofs.Common.{◌≡◌, ◌≤◌, ◌<◌, ◌^◌, ◌∙◌, ℕ, List, Some, None}
use Rattle.std.proofs.Common.{length, map, take, sym, ap, subst}
use Rattle.std.specs.List.{AllByRecursion, AllZip, Contains, slice_get}
use Rattle.rate_expr.specs.After.{IsStateOf}
use Rattle.rate_expr.specs.FirstLastFollow.{AreSetsOf}
use Rattle.rate_expr.specs.Rates.{Regex}
use Rattle.rate_expr.specs.Sets.{Sets}
use Rattle.rate_expr.specs.declared.state.State.{State}
use Rattle.rate_expr.specs.declared.state.State.TheVariants.{Initial, At}
use Rattle.rate_expr.proofs.Meetings.{length-preds_of}
use Rattle.query_model.specs.Queries.{Qre}
use Rattle.compose_eval.specs.Followers.{instance_at}
use Rattle.compose_eval.specs.declared.instance.Instance.{Instance}
use Rattle.map_collect.specs.Tracks.{starts_of}
use Rattle.map_collect.specs.declared.track.Track as held_track
use Rattle.eval_nodes.specs.Holdings.{Seen}
use Rattle.eval_nodes.specs.Starts.{AreDifferent}
use Rattle.eval_nodes.proofs.Instances.{all_mapped, none_fed}
use Rattle.eval_nodes.proofs.Zips.{zip_long, zip_same}
use Rattle.runner_snapshot.specs.Dumps.{Fed, Track}
use Rattle.eval_snapshot.specs.Fits.{FitsState}
use Rattle.restored_nodes.specs.Restored.{IsRestoredFed, IsRestoredTrack}
use Rattle.restored_nodes.proofs.Lists.{key_before, taken_count}

module _ {R : Type 0} (seen : R → Seen R) (q : Qre) where
  -- as many runners as were read
  pub fed_count : (dumps : List Fed) (i : ℕ) (live : List (Instance R)) → i ≤ length dumps
      → AllZip (IsRestoredFed seen q) (take i dumps) live → length live ≡ i
  fed_count dumps i live few zip =
      zip_long (IsRestoredFed seen q) (take i dumps) live zip ∙ taken_count dumps i few

  -- none of them has the next start
  pub fed_fresh : (dumps : List Fed) (i : ℕ) (dump : Fed) (live : List (Instance R))
      → AreDifferent (map (λ (one : Fed). one.outer) dumps) → slice_get dumps i ≡ Some dump
      → AllZip (IsRestoredFed seen q) (take i dumps) live → instance_at live dump.outer ≡ None
  fed_fresh dumps i dump live different at zip =
      none_fed live dump.outer (λ there. key_before (λ (one : Fed). one.outer) dumps i dump
      different at
      (subst (λ (outers : List ℕ). Contains outers dump.outer)
      (zip_same (IsRestoredFed seen q) (λ (one : Fed). one.outer) (λ (one : Instance R). one.outer)
      (take i dumps) live (λ d one is. is.outer) zip) there))

  -- none of the starts is the next
  pub start_fresh : (dumps : List Track) (i : ℕ) (dump : Track) (tracks : List (held_track.Track R))
      → AreDifferent (map (λ (one : Track). one.start) dumps) → slice_get dumps i ≡ Some dump
      → AllZip (IsRestoredTrack seen q) (take i dumps) tracks
      → Contains (starts_of tracks) dump.start → ⊥
  start_fresh dumps i dump tracks different at zip there =
      key_before (λ (one : Track). one.start) dumps i dump different at
      (subst (λ (starts : List ℕ). Contains starts dump.start)
      (zip_same (IsRestoredTrack seen q) (λ (one : Track). one.start)
      (λ (one : held_track.Track R). one.start) (take i dumps) tracks (λ d one is. is.start) zip)
      there)

-- a state of the rate is one of its automaton
state_of : (rate : Regex) (sets : Sets) (state : State) → AreSetsOf sets rate
    → FitsState rate state → IsStateOf sets state
state_of rate sets Initial of_rate fits = tt
state_of rate sets (At mask) of_rate fits =
    subst (λ (count : ℕ). mask < 2 ^ count)
    (sym (ap length of_rate.preds ∙ length-preds_of rate)) fits

pub states_of_rate : (rate : Regex) (sets : Sets) (dumps : List Track) → AreSetsOf sets rate
    → AllByRecursion (λ (one : Track). FitsState rate one.state) dumps
    → AllByRecursion (λ (one : Track). IsStateOf sets one.state) dumps
states_of_rate rate sets dumps of_rate fit =
    all_mapped (λ (one : Track). FitsState rate one.state)
    (λ (one : Track). IsStateOf sets one.state) dumps
    (λ one fits. state_of rate sets one.state of_rate fits) fit
