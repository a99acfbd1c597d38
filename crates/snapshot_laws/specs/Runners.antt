-- Statement. What holds of the runners in a node beside what it stands for.
use Rattle.std.specs.Prelude.{◌≡◌, length}
use Rattle.std.specs.List.{AllByRecursion}
use Rattle.query_model.specs.Bounds.{slots_of}
use Rattle.query_model.specs.Queries.{Qre, choice, split, iter, combine, apply, compose, collect}
use Rattle.map_collect.specs.Keys.{fallback_of, followers_of, names_of}
use Rattle.map_collect.specs.declared.keys.Keys.{Keys}
use Rattle.eval_nodes.specs.Counts.{stored_in}
use Rattle.eval_nodes.specs.Holdings.{Holding, Seen, choice_held, combine_held, apply_held}
use Rattle.eval_nodes.specs.Holdings.{split_held, iter_held, compose_held, collect_held}
use Rattle.eval_nodes.specs.Represents.{KeepsFew}

module _ {R : Type 0} (seen : R → Seen R) where
  -- each key has a runner, and so it is in each runner
  pub record HasKeyRunners (has : Holding R → Type 0) (keys : Keys R) : Type 0 where
    pub each : length (followers_of keys) ≡ length (names_of keys)
    pub fallback : has (seen (fallback_of keys)).node
    pub keyed : AllByRecursion (λ runner. has (seen runner).node) (followers_of keys)

  -- idle runners keep no more than new ones, and each key has a runner
  abbrev pub HasItsRunners : Qre → Holding R → Type 0
  HasItsRunners (choice f g) (choice_held a b) = HasItsRunners f a × HasItsRunners g b
  HasItsRunners (split f g expression) (split_held a b left) =
      HasItsRunners f a × HasItsRunners g b
  HasItsRunners (iter f number expression) (iter_held a so_far) = HasItsRunners f a
  HasItsRunners (combine f g expression) (combine_held a b) =
      HasItsRunners f a × HasItsRunners g b
  HasItsRunners (apply f expression) (apply_held a) = HasItsRunners f a
  HasItsRunners (compose f g) (compose_held a held) =
      HasItsRunners f a
      × AllByRecursion (KeepsFew seen (stored_in seen g) (slots_of g)) held.idle
      × AllByRecursion (λ one. HasItsRunners g (seen one.follower).node) held.live
  HasItsRunners (collect chosen sync rate f) (collect_held all) =
      AllByRecursion (λ track. HasKeyRunners (HasItsRunners f) track.keys) all.tracks
  HasItsRunners query holding = Unit {0}
