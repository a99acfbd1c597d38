-- Statement. What is kept of what a runner of a query holds, without where it lies in memory.
use Rattle.std.specs.Prelude.{ℕ, List, [], ◌∷◌, Option, None, Some, map}
use Rattle.value_ops.specs.declared.value.Value.{Value}
use Rattle.query_model.specs.Queries as query
use Rattle.query_model.specs.Queries.{Qre}
use Rattle.split_eval.specs.declared.entry.Entry as held
use Rattle.map_collect.specs.Keys.{fallback_of, followers_of, names_of}
use Rattle.eval_nodes.specs.Holdings.{Holding, Seen, atom_held, choice_held, combine_held}
use Rattle.eval_nodes.specs.Holdings.{apply_held, split_held, iter_held, compose_held, collect_held}
use Rattle.runner_snapshot.specs.declared.entries.Entry.{Entry}
use Rattle.runner_snapshot.specs.Dumps.{Runner, Node, runner, atom, eps, choice, split, iter}
use Rattle.runner_snapshot.specs.Dumps.{combine, apply, compose, collect, Keyed}
use Rattle.runner_snapshot.specs.Dumps.{all_fed, all_keyed, all_tracks}

-- the start of an atom, if there is one
abbrev pub start_in : Option ℕ → List ℕ
start_in None = []
start_in (Some start) = start ∷ []

-- an entry as it is kept
abbrev pub kept_entry : held.Entry Value → Entry
kept_entry entry = record { inner = entry.inner; outer = entry.outer; value = entry.value }

-- each key with the runner at its place
abbrev pub keyed_with : List (List ℕ) → List Runner → List Keyed
keyed_with (key ∷ keys) (one ∷ runners) =
    record { key = key; runner = one } ∷ keyed_with keys runners
keyed_with keys runners = []

module _ {R : Type 0} (seen : R → Seen R) where
  -- a runner, and of its node what this says
  abbrev pub dumped_runner : (Holding R → Node) → R → Runner
  dumped_runner dumped one =
      runner (seen one).position (seen one).answer (dumped (seen one).node)

  -- a node of the query; what is idle is left out
  abbrev pub dumped_node : Qre → Holding R → Node
  dumped_node (query.atom pred expression) (atom_held found) = atom (start_in found)
  dumped_node (query.choice f g) (choice_held a b) = choice (dumped_node f a) (dumped_node g b)
  dumped_node (query.split f g expression) (split_held a b left) =
      split (dumped_node f a) (dumped_node g b) (map kept_entry left.entries)
  dumped_node (query.iter f number expression) (iter_held a so_far) =
      iter (dumped_node f a) (map kept_entry so_far.entries)
  dumped_node (query.combine f g expression) (combine_held a b) =
      combine (dumped_node f a) (dumped_node g b)
  dumped_node (query.apply f expression) (apply_held a) = apply (dumped_node f a)
  dumped_node (query.compose f g) (compose_held a held) =
      compose (dumped_node f a)
      (all_fed (map (λ one. record {
        outer = one.outer;
        runner = dumped_runner (dumped_node g) one.follower;
      }) held.live))
  dumped_node (query.collect chosen sync rate f) (collect_held all) =
      collect (all_tracks (map (λ one. record {
        start = one.start;
        state = one.state;
        fallback = dumped_runner (dumped_node f) (fallback_of one.keys);
        keys = all_keyed
            (keyed_with (names_of one.keys)
            (map (dumped_runner (dumped_node f)) (followers_of one.keys)));
      }) all.tracks))
  dumped_node query holding = eps

  -- a runner of the query
  abbrev pub dumped : Qre → R → Runner
  dumped query one = dumped_runner (dumped_node query) one
