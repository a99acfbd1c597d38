use Rattle.std.proofs.Common.{◌≡◌, ◌≤◌, ◌+◌, ◌*◌, [], length, max, take}
use Rattle.query_model.specs.declared.query.Query.{size-Query}
use Rattle.query_model.specs.Queries.{plain_of}
use Rattle.compose_eval.specs.Followers.{followers_of, outers_of}
use Rattle.eval_nodes.specs.Copies.{AreAlike, IsCopy, IsCopyOf, IsCopiedTrack}
use Rattle.eval_nodes.specs.Plain.{seen_of}
use Rattle.map_collect.specs.Keys.{fallback_of, followers_of as keyed_followers, names_of}
use Rattle.node_copies.proofs.+copy.Given as goal

abbrev pub invariant-copies::copied_live-live : goal.invariant-copies::copied_live-live
invariant-copies::copied_live-live l =
    (l.copy.room ≡ l.runners.room) × (l.copy.idle ≡ [])
    × (outers_of l.copy.live ≡ take l.i (outers_of l.runners.live))
    × AreAlike (IsCopyOf seen_of (IsCopy seen_of (plain_of l.query.shape)))
    (take l.i (followers_of l.runners.live)) (followers_of l.copy.live)
    × (l.i-end ≡ length l.runners.live)

abbrev pub invariant-copies::copied_runners-idle : goal.invariant-copies::copied_runners-idle
invariant-copies::copied_runners-idle l =
    (l.copy.room ≡ l.runners.room) × (outers_of l.copy.live ≡ outers_of l.runners.live)
    × AreAlike (IsCopyOf seen_of (IsCopy seen_of (plain_of l.query.shape)))
    (followers_of l.runners.live) (followers_of l.copy.live)
    × AreAlike (IsCopyOf seen_of (IsCopy seen_of (plain_of l.query.shape)))
    (take l.i l.runners.idle) l.copy.idle
    × (length l.copy.live + length l.runners.idle ≤ l.copy.room) × (l.i-end ≡ length l.runners.idle)

abbrev pub invariant-copies::copy_followers-keys : goal.invariant-copies::copy_followers-keys
invariant-copies::copy_followers-keys l =
    (fallback_of l.copy ≡ fallback_of l.fn.copy)
    × (names_of l.copy ≡ take l.i (names_of l.keys))
    × AreAlike (IsCopyOf seen_of (IsCopy seen_of (plain_of l.query.shape)))
    (take l.i (keyed_followers l.keys)) (keyed_followers l.copy)
    × (l.i-end ≡ length (names_of l.keys))

abbrev pub invariant-copies::copied_tracks-starts : goal.invariant-copies::copied_tracks-starts
invariant-copies::copied_tracks-starts l =
    (l.copy.nfa ≡ l.tracks.nfa)
    × AreAlike (IsCopiedTrack seen_of (IsCopy seen_of (plain_of l.query.shape)))
    (take l.i l.tracks.tracks) l.copy.tracks × (l.i-end ≡ length l.tracks.tracks)

-- how deep the query is; at one query those that call others stand above them
abbrev pub decreases-copies::copy_of_node : goal.decreases-copies::copy_of_node
decreases-copies::copy_of_node l = 6 * size-Query l.query.now

abbrev pub decreases-copies::boxed_copy : goal.decreases-copies::boxed_copy
decreases-copies::boxed_copy l = 6 * size-Query l.query.now + 1

abbrev pub decreases-copies::copy_of_runner : goal.decreases-copies::copy_of_runner
decreases-copies::copy_of_runner l = 6 * size-Query l.query.now + 1

abbrev pub decreases-copies::copied_live : goal.decreases-copies::copied_live
decreases-copies::copied_live l = 6 * size-Query l.query.now + 2

abbrev pub decreases-copies::copied_runners : goal.decreases-copies::copied_runners
decreases-copies::copied_runners l = 6 * size-Query l.query.now + 3

abbrev pub decreases-copies::copy_followers : goal.decreases-copies::copy_followers
decreases-copies::copy_followers l = 6 * size-Query l.query.now + 2

abbrev pub decreases-copies::copied_keys : goal.decreases-copies::copied_keys
decreases-copies::copied_keys l = 6 * size-Query l.query.now + 3

abbrev pub decreases-copies::copied_tracks : goal.decreases-copies::copied_tracks
decreases-copies::copied_tracks l = 6 * size-Query l.query.now + 4

abbrev pub decreases-node_copies::copy_of_choice : goal.decreases-node_copies::copy_of_choice
decreases-node_copies::copy_of_choice l =
    6 * max (size-Query l.left.now) (size-Query l.right.now) + 5

abbrev pub decreases-node_copies::copy_of_combine : goal.decreases-node_copies::copy_of_combine
decreases-node_copies::copy_of_combine l =
    6 * max (size-Query l.left.now) (size-Query l.right.now) + 5

abbrev pub decreases-node_copies::copy_of_split : goal.decreases-node_copies::copy_of_split
decreases-node_copies::copy_of_split l =
    6 * max (size-Query l.left.now) (size-Query l.right.now) + 5

abbrev pub decreases-node_copies::copy_of_compose : goal.decreases-node_copies::copy_of_compose
decreases-node_copies::copy_of_compose l =
    6 * max (size-Query l.left.now) (size-Query l.right.now) + 5

abbrev pub decreases-node_copies::copy_of_apply : goal.decreases-node_copies::copy_of_apply
decreases-node_copies::copy_of_apply l = 6 * size-Query l.inner.now + 5

abbrev pub decreases-node_copies::copy_of_iter : goal.decreases-node_copies::copy_of_iter
decreases-node_copies::copy_of_iter l = 6 * size-Query l.inner.now + 5

abbrev pub decreases-node_copies::copy_of_collect : goal.decreases-node_copies::copy_of_collect
decreases-node_copies::copy_of_collect l = 6 * size-Query l.inner.now + 5
