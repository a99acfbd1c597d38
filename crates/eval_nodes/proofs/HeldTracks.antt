-- What a collect holds in memory.
use Rattle.std.proofs.Common.{◌≡◌, ap, List, ℕ}
use Rattle.map_collect.specs.Tracks.{Contents}
use Rattle.eval_nodes.specs.declared.node.Node.{Node}
use Rattle.eval_nodes.specs.declared.node.State.{State, out-State}
use Rattle.eval_nodes.specs.declared.node.State.TheOpen.{State-F}
use Rattle.eval_nodes.specs.declared.node.State.TheVariants.{Collect}
use Rattle.eval_nodes.specs.declared.node.State.TheViews.{out-roll-State, roll-State}
use Rattle.eval_nodes.specs.declared.progress.Progress.{Progress}
use Rattle.eval_nodes.specs.Holdings.{collect_held}
use Rattle.eval_nodes.specs.Plain.{holding_of, tracks_of}

-- what it holds
pub tracked_is : (all : Contents Progress) (joined : List ℕ)
    → holding_of (Collect all joined) ≡ collect_held all
unfolding roll-State denote.Hole.Carrier.roll
tracked_is all joined =
    ap (λ (x : State-F State Node Progress). collect_held (tracks_of x))
    (out-roll-State (State-F.Collect all joined))

-- and its starts
pub tracks_are : (all : Contents Progress) (joined : List ℕ)
    → tracks_of (out-State (Collect all joined)) ≡ all
unfolding roll-State denote.Hole.Carrier.roll
tracks_are all joined =
    ap (λ (x : State-F State Node Progress). tracks_of x)
    (out-roll-State (State-F.Collect all joined))
