-- For the prover. Which starts are live, as it is found in what is kept.
use Rattle.std.specs.Prelude.{◌==◌, ◌||◌, ℕ, Bool, false, List, Option, None, Some}
use Rattle.std.specs.List.{list_any}
use Rattle.value_ops.specs.declared.value.Value.{Value}
use Rattle.query_model.specs.Queries.{Qre, atom, choice, split, iter, combine, apply, compose}
use Rattle.query_model.specs.Queries.{collect}
use Rattle.split_eval.specs.declared.entry.Entry.{Entry}
use Rattle.map_collect.specs.Tracks.{begins_at}
use Rattle.eval_nodes.specs.Holdings.{Holding, atom_held, choice_held, combine_held, apply_held}
use Rattle.eval_nodes.specs.Holdings.{split_held, iter_held, compose_held, collect_held}

-- this is the start that waits
abbrev pub is_waiting : Option ℕ → ℕ → Bool
is_waiting None start = false
is_waiting (Some found) start = found == start

-- some entry has this outer start
abbrev pub is_outer : List (Entry Value) → ℕ → Bool
is_outer entries start = list_any (λ entry. entry.outer == start) entries

module _ {R : Type 0} where
  abbrev pub live_of : Qre → Holding R → ℕ → Bool
  live_of (atom pred expression) (atom_held found) start = is_waiting found start
  live_of (choice f g) (choice_held a b) start = live_of f a start || live_of g b start
  live_of (split f g expression) (split_held a b left) start =
      live_of f a start || is_outer left.entries start
  live_of (iter f number expression) (iter_held a so_far) start = is_outer so_far.entries start
  live_of (combine f g expression) (combine_held a b) start = live_of f a start
  live_of (apply f expression) (apply_held a) start = live_of f a start
  live_of (compose f g) (compose_held a held) start = live_of f a start
  live_of (collect chosen sync rate f) (collect_held all) start =
      list_any (begins_at start) all.tracks
  live_of query holding start = false
