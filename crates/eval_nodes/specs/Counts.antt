-- Statement. How much is kept. A start that waits counts one, and a left value counts two and what
-- the value takes. A runner of a compose, idle or not, counts one and what the runner keeps. A
-- start of a collect counts one, the positions of its state and what its runners keep, and one for
-- each key.
use Rattle.std.specs.Prelude.{ℕ, ◌+◌, List, Option, None, Some, count_ones}
use Rattle.std.specs.List.{sum_by}
use Rattle.value_ops.specs.declared.value.Value.{Value}
use Rattle.value_ops.specs.Sizes.{size_of_answer, size_of_value}
use Rattle.rate_expr.specs.declared.state.State.{State}
use Rattle.rate_expr.specs.declared.state.State.TheVariants.{Initial, At}
use Rattle.query_model.specs.Queries.{Qre, atom, choice, split, iter, combine, apply, compose}
use Rattle.query_model.specs.Queries.{collect}
use Rattle.split_eval.specs.declared.entry.Entry.{Entry}
use Rattle.compose_eval.specs.Followers.{followers_of}
use Rattle.map_collect.specs.Keys.{fallback_of, followers_of as keyed_followers}
use Rattle.map_collect.specs.declared.keys.Keys.{Keys}
use Rattle.map_collect.specs.declared.track.Track.{Track}
use Rattle.eval_nodes.specs.Holdings.{Holding, atom_held, choice_held, combine_held, apply_held}
use Rattle.eval_nodes.specs.Holdings.{split_held, iter_held, compose_held, collect_held, Seen}

-- values with an inner and an outer start
abbrev pub sizes_of : List (Entry Value) → ℕ
sizes_of entries = sum_by (λ (entry : Entry Value). 2 + size_of_value entry.value) entries

-- the starts that wait at an atom
abbrev pub size_of_start : Option ℕ → ℕ
size_of_start None = 0
size_of_start (Some start) = 1

-- the positions of a state
abbrev pub size_of_state : State → ℕ
size_of_state Initial = 0
size_of_state (At mask) = count_ones mask

module _ {R : Type 0} (seen : R → Seen R) where
  -- a runner: its position, its answer and its node
  abbrev pub size_of_runner : (Holding R → ℕ) → R → ℕ
  size_of_runner size runner =
      size (seen runner).node + size_of_answer (seen runner).answer + 1

  -- the runners of a collect's start, with one more for each key
  abbrev pub size_of_keys : (Holding R → ℕ) → Keys R → ℕ
  size_of_keys size keys = size_of_runner size (fallback_of keys)
      + sum_by (λ runner. 1 + size_of_runner size runner) (keyed_followers keys)

  -- a start of a collect: the start, its state and its runners
  abbrev pub size_of_track : (Holding R → ℕ) → Track R → ℕ
  size_of_track size track = 1 + size_of_state track.state + size_of_keys size track.keys

  -- what is kept for a node of the query
  abbrev pub stored_in : Qre → Holding R → ℕ
  stored_in (atom pred expression) (atom_held found) = size_of_start found
  stored_in (choice f g) (choice_held a b) = stored_in f a + stored_in g b
  stored_in (combine f g expression) (combine_held a b) = stored_in f a + stored_in g b
  stored_in (apply f expression) (apply_held a) = stored_in f a
  stored_in (split f g expression) (split_held a b left) =
      stored_in f a + stored_in g b + sizes_of left.entries
  stored_in (iter f number expression) (iter_held a so_far) =
      stored_in f a + sizes_of so_far.entries
  stored_in (compose f g) (compose_held a held) = stored_in f a
      + sum_by (λ runner. 1 + size_of_runner (stored_in g) runner) (followers_of held.live)
      + sum_by (λ runner. 1 + size_of_runner (stored_in g) runner) held.idle
  stored_in (collect chosen sync rate f) (collect_held all) =
      sum_by (λ track. size_of_track (stored_in f) track) all.tracks
  stored_in query holding = 0
