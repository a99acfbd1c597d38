-- Statement. What a node in memory holds.
use Rattle.std.specs.Prelude.{false, []}
use Rattle.compose_eval.specs.Followers.{Contents}
use Rattle.map_collect.specs.Tracks as tracks
use Rattle.eval_nodes.specs.Holdings.{Holding, atom_held, eps_held, choice_held, combine_held}
use Rattle.eval_nodes.specs.Holdings.{apply_held, split_held, iter_held, compose_held, collect_held}
use Rattle.eval_nodes.specs.Holdings.{Seen}
use Rattle.eval_nodes.specs.declared.node.Node.{Node}
use Rattle.eval_nodes.specs.declared.node.State.{State, out-State}
use Rattle.eval_nodes.specs.declared.node.State.TheOpen.{State-F}
use Rattle.eval_nodes.specs.declared.node.State.TheVariants.{Atom, Eps, Or', Apply', Split'}
use Rattle.eval_nodes.specs.declared.node.State.TheVariants.{Combine', Iter', Compose', Collect'}
use Rattle.eval_nodes.specs.declared.progress.Progress.{Progress}

-- the runners of a compose; none in a node of another shape
abbrev pub runners_of : State-F State Node Progress → Contents Progress
runners_of (State-F.Compose a held) = held
runners_of state = record { live = []; idle = []; room = 0 }

-- the starts of a collect; none in a node of another shape
abbrev pub tracks_of : State-F State Node Progress → tracks.Contents Progress
tracks_of (State-F.Collect all joined) = all
tracks_of state = record {
  nfa = record {
    sets = record { nullable = false; first = 0; last = 0; follow = []; preds = [] };
    cells = record { layout = record { has_header = false; columns = [] }; preds = [] };
  };
  tracks = [];
}

-- what is kept for a node
abbrev pub holding_of : State → Holding Progress
holding_of (Atom found) = atom_held found
holding_of Eps = eps_held
holding_of (Or' p a q b) = choice_held (holding_of a) (holding_of b)
holding_of (Apply' p a) = apply_held (holding_of a)
holding_of (Split' p a q b left) = split_held (holding_of a) (holding_of b) left
holding_of (Combine' p a q b) = combine_held (holding_of a) (holding_of b)
holding_of (Iter' p a so_far) = iter_held (holding_of a) so_far
holding_of (Compose' p a held runners) =
    compose_held (holding_of a) (runners_of (out-State (Compose' p a held runners)))
holding_of (Collect' all tracks joined) =
    collect_held (tracks_of (out-State (Collect' all tracks joined)))

-- what is seen of a runner
abbrev pub seen_of : Progress → Seen Progress
seen_of progress = record {
  position = progress.position;
  answer = progress.answer;
  node = holding_of progress.node.state;
}
