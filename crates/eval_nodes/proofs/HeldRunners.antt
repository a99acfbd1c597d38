-- What a compose holds in memory.
use Rattle.std.proofs.Common.{◌≡◌, ap}
use Rattle.std.specs.Prelude.{Box}
use Rattle.std.specs.declared.alloc.Global.{Global}
use Rattle.compose_eval.specs.Followers.{Contents}
use Rattle.eval_nodes.specs.declared.node.Node.{Node}
use Rattle.eval_nodes.specs.declared.node.State.{State}
use Rattle.eval_nodes.specs.declared.node.State.TheOpen.{State-F}
use Rattle.eval_nodes.specs.declared.node.State.TheVariants.{Compose}
use Rattle.eval_nodes.specs.declared.node.State.TheViews.{out-State, out-roll-State, roll-State}
use Rattle.eval_nodes.specs.declared.progress.Progress.{Progress}
use Rattle.eval_nodes.specs.Holdings.{compose_held}
use Rattle.eval_nodes.specs.Plain.{holding_of, runners_of}

-- what it holds
pub fed_is : (a : Box Node Global) (held : Contents Progress)
    → holding_of (Compose a held) ≡ compose_held (holding_of a.value.state) held
unfolding roll-State denote.Hole.Carrier.roll
fed_is a held =
    ap (λ (x : State-F State Node Progress). compose_held (holding_of a.value.state) (runners_of x))
    (out-roll-State (State-F.Compose a held))

-- and its runners
pub runners_are : (a : Box Node Global) (held : Contents Progress)
    → runners_of (out-State (Compose a held)) ≡ held
unfolding roll-State denote.Hole.Carrier.roll
runners_are a held =
    ap (λ (x : State-F State Node Progress). runners_of x) (out-roll-State (State-F.Compose a held))
