-- What is kept of a node, as that of the query that was asked for.
use Rattle.std.proofs.Common.{◌≡◌, ◌∙◌, ℕ, ℤ, List, Result, Ok, Err, ap, refl, sym}
use Rattle.std.specs.Prelude.{Box, IfOk}
use Rattle.std.specs.declared.alloc.AllocError.{AllocError}
use Rattle.std.specs.declared.alloc.Global.{Global}
use Rattle.query_model.specs.Queries as query
use Rattle.query_model.specs.Queries.{Qre}
use Rattle.predicates.specs.Predicates.{Predicate}
use Rattle.rate_expr.specs.Rates.{Regex}
use Rattle.compose_eval.specs.Followers.{Contents}
use Rattle.map_collect.specs.Tracks as held_tracks
use Rattle.eval_nodes.specs.Holdings.{Holding}
use Rattle.eval_nodes.specs.Plain.{holding_of, seen_of}
use Rattle.eval_nodes.specs.declared.node.Node as held_node
use Rattle.eval_nodes.specs.declared.node.State.{State}
use Rattle.eval_nodes.specs.declared.node.State.TheVariants.{Compose, Collect}
use Rattle.eval_nodes.specs.declared.progress.Progress.{Progress}
use Rattle.eval_nodes.proofs.HeldRunners.{fed_is}
use Rattle.eval_nodes.proofs.HeldTracks.{tracked_is}
use Rattle.runner_snapshot.specs.Dumps.{Node, Runners, Tracks, collect, compose, eps}
use Rattle.runner_snapshot.specs.Dumps.{all_fed, all_tracks, fed_list, track_list}
use Rattle.runner_snapshot.specs.Plain.{plain_node}
use Rattle.runner_snapshot.specs.declared.dump.NodeDump.{NodeDump}
use Rattle.runner_snapshot.proofs.ReadNodes.{fed_back, track_back}
use Rattle.eval_snapshot.specs.Dumped.{dumped_node}
use Rattle.node_dumps.specs.Lists.{kept_runners, kept_tracks}

-- of an equal query
pub dumped_for : (q q' : Qre) (holding : Holding Progress) (P : NodeDump → Type 0)
    → ((dump : NodeDump) → P dump → plain_node dump ≡ dumped_node seen_of q holding) → q' ≡ q
    → (result : Result NodeDump AllocError) → IfOk result P
    → IfOk result (λ dump. plain_node dump ≡ dumped_node seen_of q' holding)
dumped_for q q' holding P each same (Ok dump) is =
    each dump is ∙ ap (λ (x : Qre). dumped_node seen_of x holding) (sym same)
dumped_for q q' holding P each same (Err e) is = tt

-- of the empty word nothing is kept
pub eps_dumped : (number : ℤ) (holding : Holding Progress)
    → dumped_node seen_of (query.eps number) holding ≡ eps
eps_dumped number holding = refl

-- of a compose
pub compose_dumped : (f g : Qre) (state : State) (a : Box held_node.Node Global)
    (held : Contents Progress) (left : Node) (runners : Runners) → state ≡ Compose a held
    → left ≡ dumped_node seen_of f (holding_of a.value.state)
    → fed_list runners ≡ kept_runners g held.live
    → compose left runners ≡ dumped_node seen_of (query.compose f g) (holding_of state)
compose_dumped f g state a held left runners is one all =
    ap (λ (x : Node). compose x runners) one
    ∙ ap (λ (x : Runners). compose (dumped_node seen_of f (holding_of a.value.state)) x)
    (sym (fed_back runners) ∙ ap all_fed all)
    ∙ sym (ap (dumped_node seen_of (query.compose f g)) (ap holding_of is ∙ fed_is a held))

-- of a collect
pub collect_dumped : (chosen : List ℕ) (sync : Predicate) (rate : Regex) (f : Qre) (state : State)
    (all : held_tracks.Contents Progress) (joined : List ℕ) (tracks : Tracks)
    → state ≡ Collect all joined → track_list tracks ≡ kept_tracks f all.tracks
    → collect tracks
    ≡ dumped_node seen_of (query.collect chosen sync rate f) (holding_of state)
collect_dumped chosen sync rate f state all joined tracks is kept =
    ap collect (sym (track_back tracks) ∙ ap all_tracks kept)
    ∙ sym (ap (dumped_node seen_of (query.collect chosen sync rate f))
    (ap holding_of is ∙ tracked_is all joined))
