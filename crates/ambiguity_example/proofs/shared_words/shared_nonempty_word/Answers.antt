use Rattle.std.proofs.Common.{sym, subst}
use Rattle.ambiguity_check.specs.Overlaps.{BeginsBoth, FollowsBoth, IsInRows}
use Rattle.ambiguity_check.specs.Walks.{IsIn}
use Rattle.ambiguity_example.proofs.MetItems.{walk_meet}
use Rattle.ambiguity_example.proofs.Shared.{none_shared, walk_shared}
use Rattle.ambiguity_example.specs.Met.{HasItem}
use Rattle.ambiguity_example.specs.Shows.{IsShortestShown, choice}
use Rattle.ambiguity_example.proofs.shared_words.shared_nonempty_word.Goals as goal

pub returns-in_default : goal.returns-in_default
returns-in_default c = λ r s of_r of_s.
    let ended = rw (c.positions.ensures, c.positions-2.ensures) at c.ends_of-ends.ensures in
    let none = rw (c.in_ok-pairs.ensures.first, c.in_ok-pairs.ensures.second) at
    (rw c.in_default.is at c.in_ok-walk.ensures) in
    none_shared c.args.first.now.cells.layout.columns c.args.first.now.sets c.args.second.now.sets
    r s of_r of_s c.requires.nonempty _ c.in_ok-pairs.ensures.rows
    (IsIn c.ends_of-ends.result) ended none

pub example_of-requires-clause-meet : goal.example_of-requires-clause-meet
example_of-requires-clause-meet c =
    let shortest = rw (c.in_ok-pairs.ensures.first, c.in_ok-pairs.ensures.second) at
    (rw c.in-Some.is at c.in_ok-walk.ensures) in
    rw c.deref.ensures.value (walk_meet (BeginsBoth c.args.first.now.sets c.args.second.now.sets)
    (FollowsBoth c.args.first.now.sets c.args.second.now.sets)
    (IsInRows c.in_ok-pairs.pairs.rows.items) (IsIn c.ends_of-ends.result)
    (HasItem c.args.first.now.cells.layout.columns (λ _. c.args.first.now.sets)
    (λ _. c.args.second.now.sets))
    (λ node met. (c.in_ok-pairs.ensures.rows node.left node.right).0 met) c.in-Some.walk.items
    shortest.walk)

pub example_of-requires-clause-few : goal.example_of-requires-clause-few
example_of-requires-clause-few c =
    let shortest = rw (c.in_ok-pairs.ensures.first, c.in_ok-pairs.ensures.second) at
    (rw c.in-Some.is at c.in_ok-walk.ensures) in
    rw c.deref.ensures.value shortest.few

pub returns : goal.returns
returns c = λ r s of_r of_s.
    let ended = rw (c.positions.ensures, c.positions-2.ensures) at c.ends_of-ends.ensures in
    let shortest = rw (c.in_ok-pairs.ensures.first, c.in_ok-pairs.ensures.second) at
    (rw c.in-Some.is at c.in_ok-walk.ensures) in
    let found = c.in_ok-example_of.ensures in
    subst (IsShortestShown c.args.first.now.cells.layout.columns (choice r s)) (sym found.2)
    (walk_shared c.args.first.now.cells.layout.columns c.args.first.now.sets c.args.second.now.sets
    r s of_r of_s c.requires.nonempty _ c.in_ok-pairs.ensures.rows
    (IsIn c.ends_of-ends.result) ended c.in-Some.walk.items found.0 shortest
    (rw c.deref.ensures.value at found.1))
