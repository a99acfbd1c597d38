-- A node of another shape than the query is not sound for it: what it holds is of another shape.
use Rattle.std.proofs.Common.{◌≡◌, ℕ, Option, refl, sym, List}
use Rattle.std.specs.Prelude.{Box}
use Rattle.std.specs.declared.alloc.Global.{Global}
use Rattle.value_ops.specs.declared.value.Value.{Value}
use Rattle.split_eval.specs.Entries.{Contents}
use Rattle.compose_eval.specs.Followers as instances
use Rattle.map_collect.specs.Tracks as tracks
use Rattle.eval_nodes.specs.Holdings.{Holding, atom_held, eps_held, choice_held, combine_held}
use Rattle.eval_nodes.specs.Holdings.{apply_held, split_held, iter_held, compose_held, collect_held}
use Rattle.eval_nodes.specs.declared.node.Node.{Node}
use Rattle.eval_nodes.specs.declared.node.State.{State}
use Rattle.eval_nodes.specs.declared.node.State.TheVariants.{Atom, Or', Apply', Split', Combine'}
use Rattle.eval_nodes.specs.declared.node.State.TheVariants.{Iter', Compose', Collect', Or, Apply}
use Rattle.eval_nodes.specs.declared.node.State.TheVariants.{Split, Combine, Iter, Compose, Collect}
use Rattle.eval_nodes.specs.declared.node.State.TheViews.{out-State, roll-State, roll-out-State}
use Rattle.eval_nodes.specs.declared.progress.Progress.{Progress}
use Rattle.eval_nodes.specs.Plain.{holding_of, runners_of, tracks_of}

-- what is held, but nothing in place of what a node of the shape holds
abbrev without_atom : Holding Progress → Holding Progress
without_atom (atom_held found) = eps_held
without_atom held = held

abbrev without_choice : Holding Progress → Holding Progress
without_choice (choice_held a b) = eps_held
without_choice held = held

abbrev without_combine : Holding Progress → Holding Progress
without_combine (combine_held a b) = eps_held
without_combine held = held

abbrev without_split : Holding Progress → Holding Progress
without_split (split_held a b left) = eps_held
without_split held = held

abbrev without_apply : Holding Progress → Holding Progress
without_apply (apply_held a) = eps_held
without_apply held = held

abbrev without_iter : Holding Progress → Holding Progress
without_iter (iter_held a so_far) = eps_held
without_iter held = held

abbrev without_compose : Holding Progress → Holding Progress
without_compose (compose_held a runners) = eps_held
without_compose held = held

abbrev without_collect : Holding Progress → Holding Progress
without_collect (collect_held all) = eps_held
without_collect held = held

pub unlike_atom : (node : State) → ((found : Option ℕ) → node ≡ Atom found → ⊥)
    → holding_of node ≡ without_atom (holding_of node)
unlike_atom (Atom found) unlike = absurd (unlike found refl)
unlike_atom node unlike = refl

pub unlike_choice : (node : State) → ((a b : Box Node Global) → node ≡ Or a b → ⊥)
    → holding_of node ≡ without_choice (holding_of node)
unlike_choice (Or' p a q b) unlike =
    absurd (unlike (record { ptr = p.ptr; alloc = p.alloc; value = record { state = a } })
    (record { ptr = q.ptr; alloc = q.alloc; value = record { state = b } }) refl)
unlike_choice node unlike = refl

pub unlike_combine : (node : State) → ((a b : Box Node Global) → node ≡ Combine a b → ⊥)
    → holding_of node ≡ without_combine (holding_of node)
unlike_combine (Combine' p a q b) unlike =
    absurd (unlike (record { ptr = p.ptr; alloc = p.alloc; value = record { state = a } })
    (record { ptr = q.ptr; alloc = q.alloc; value = record { state = b } }) refl)
unlike_combine node unlike = refl

pub unlike_split : (node : State)
    → ((a b : Box Node Global) (held : Contents Value) → node ≡ Split a b held → ⊥)
    → holding_of node ≡ without_split (holding_of node)
unlike_split (Split' p a q b held) unlike =
    absurd (unlike (record { ptr = p.ptr; alloc = p.alloc; value = record { state = a } })
    (record { ptr = q.ptr; alloc = q.alloc; value = record { state = b } }) held refl)
unlike_split node unlike = refl

pub unlike_apply : (node : State) → ((a : Box Node Global) → node ≡ Apply a → ⊥)
    → holding_of node ≡ without_apply (holding_of node)
unlike_apply (Apply' p a) unlike =
    absurd (unlike (record { ptr = p.ptr; alloc = p.alloc; value = record { state = a } }) refl)
unlike_apply node unlike = refl

pub unlike_iter : (node : State)
    → ((a : Box Node Global) (so_far : Contents Value) → node ≡ Iter a so_far → ⊥)
    → holding_of node ≡ without_iter (holding_of node)
unlike_iter (Iter' p a so_far) unlike =
    absurd (unlike (record { ptr = p.ptr; alloc = p.alloc; value = record { state = a } }) so_far
    refl)
unlike_iter node unlike = refl

pub unlike_compose : (node : State)
    → ((a : Box Node Global) (runners : instances.Contents Progress) → node ≡ Compose a runners → ⊥)
    → holding_of node ≡ without_compose (holding_of node)
unfolding roll-State out-State denote.Hole.Carrier.roll denote.Hole.Carrier.out
unlike_compose (Compose' p a held runners) unlike =
    absurd (unlike (record { ptr = p.ptr; alloc = p.alloc; value = record { state = a } })
    (runners_of (out-State (Compose' p a held runners)))
    (sym (roll-out-State (Compose' p a held runners))))
unlike_compose node unlike = refl

pub unlike_collect : (node : State)
    → ((all : tracks.Contents Progress) (joined : List ℕ) → node ≡ Collect all joined → ⊥)
    → holding_of node ≡ without_collect (holding_of node)
unfolding roll-State out-State denote.Hole.Carrier.roll denote.Hole.Carrier.out
unlike_collect (Collect' all tracks joined) unlike =
    absurd (unlike (tracks_of (out-State (Collect' all tracks joined))) joined
    (sym (roll-out-State (Collect' all tracks joined))))
unlike_collect node unlike = refl
