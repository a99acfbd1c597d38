use Rattle.std.proofs.Common.{ℕ, ◌+◌, [], ◌∷◌, ap, sym, ◌∙◌}
use Rattle.ambiguity_check.specs.declared.graph.Phase.TheVariants.{Together, Parted}
use Rattle.ambiguity_check.specs.Splits.{left_of, right_of, BeginsSplits, Continues, MeetIn}
use Rattle.ambiguity_check.specs.Walks.{IsIn}
use Rattle.ambiguity_example.proofs.Halved.{none_halved, walk_halved}
use Rattle.ambiguity_example.proofs.MetItems.{all_meet_long, walk_meet}
use Rattle.ambiguity_example.specs.Counts.{count_in}
use Rattle.ambiguity_example.specs.Met.{HasItem}
use Rattle.ambiguity_example.proofs.two_splits.word_of_two_splits.Goals as goal

pub returns-in_default : goal.returns-in_default
returns-in_default c = λ r s of_r of_s.
    let ended = rw (c.positions.ensures, c.positions-2.ensures) at c.ends_of-ends.ensures in
    let none = rw (c.in_ok-splits.ensures.first, c.in_ok-splits.ensures.second) at
    (rw c.in_default.is at c.in_ok-walk.ensures) in
    none_halved c.args.first.now.cells.layout.columns c.args.first.now.sets
    c.args.second.now.sets _ _ _ (IsIn c.ends_of-ends.result) ended r s of_r of_s
    c.in_ok-splits.ensures.rows none

pub example_of-requires-clause-meet : goal.example_of-requires-clause-meet
example_of-requires-clause-meet c =
    let shortest = rw (c.in_ok-splits.ensures.first, c.in_ok-splits.ensures.second) at
    (rw c.in-Some.is at c.in_ok-walk.ensures) in
    rw c.deref.ensures.value (walk_meet
    (BeginsSplits c.args.first.now.sets c.args.second.now.sets)
    (Continues c.args.first.now.sets c.args.second.now.sets)
    (MeetIn c.in_ok-splits.splits.together.items c.in_ok-splits.splits.parted.items
    c.in_ok-splits.splits.rejoined.items) (IsIn c.ends_of-ends.result)
    (HasItem c.args.first.now.cells.layout.columns
    (left_of c.args.first.now.sets c.args.second.now.sets)
    (right_of c.args.first.now.sets c.args.second.now.sets))
    (λ node met. (c.in_ok-splits.ensures.rows node.phase node.left node.right).0 met)
    c.in-Some.walk.items shortest.walk)

pub returns : goal.returns
returns c = λ r s of_r of_s.
    let nodes = c.in-Some.walk.items in
    let ended = rw (c.positions.ensures, c.positions-2.ensures) at c.ends_of-ends.ensures in
    let shortest = rw (c.in_ok-splits.ensures.first, c.in_ok-splits.ensures.second) at
    (rw c.in-Some.is at c.in_ok-walk.ensures) in
    let meet = rw c.deref.ensures.value at c.in_ok-example_of.ensures.meet in
    let as_many = all_meet_long c.args.first.now.cells.layout.columns
    (left_of c.args.first.now.sets c.args.second.now.sets)
    (right_of c.args.first.now.sets c.args.second.now.sets) nodes
    c.in_ok-example_of.field-0.items meet in
    walk_halved c.args.first.now.cells.layout.columns c.args.first.now.sets
    c.args.second.now.sets _ _ _ (IsIn c.ends_of-ends.result) ended r s of_r of_s
    c.in_ok-splits.ensures.rows nodes c.in_ok-example_of.field-0 shortest meet
    ((rw c.deref.ensures.value at c.in_ok-example_of.ensures.first)
    ∙ ap (λ (n : ℕ). 0 ∷ count_in Together nodes ∷ n ∷ []) (sym as_many))
    ((rw c.deref.ensures.value at c.in_ok-example_of.ensures.second)
    ∙ ap (λ (n : ℕ). 0 ∷ (count_in Together nodes + count_in Parted nodes) ∷ n ∷ []) (sym as_many))
