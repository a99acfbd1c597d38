use Rattle.std.proofs.Common.{◌+◌, ◌*◌, max}
use Rattle.expressions.specs.Expressions as values
use Rattle.query_model.specs.declared.query.Query.{size-Query}
use Rattle.query_model.specs.Queries.{plain_of}
use Rattle.predicates.specs.Plain as predicates
use Rattle.slow_eval.proofs.Collecting.{AreKeyed}
use Rattle.slow_eval.proofs.Iterating.{IsIterated}
use Rattle.slow_eval.proofs.Splitting.{IsSplit}
use Rattle.slow_eval.proofs.+search.Given as goal

abbrev pub invariant-pieces::iter_answers-places : goal.invariant-pieces::iter_answers-places
invariant-pieces::iter_answers-places l =
    IsIterated (plain_of l.inner.shape) l.fn.number (values.plain_of l.expression) l.word
    l.place l.row.items

abbrev pub invariant-pieces::split_answers-places : goal.invariant-pieces::split_answers-places
invariant-pieces::split_answers-places l =
    IsSplit (plain_of l.left.shape) (plain_of l.right.shape) (values.plain_of l.expression) l.word
    l.place l.row.items

abbrev pub invariant-collection::answers_for_keys-keys :
    goal.invariant-collection::answers_for_keys-keys
invariant-collection::answers_for_keys-keys l =
    AreKeyed (plain_of l.inner.shape) l.columns (predicates.plain_of l.sync) l.word l.keys
    l.key-index l.all.items

-- how deep the query is; at one query those that call others stand above them
abbrev pub decreases-search::answers_on_fronts : goal.decreases-search::answers_on_fronts
decreases-search::answers_on_fronts l = 4 * size-Query l.query.now

abbrev pub decreases-pieces::join_rest : goal.decreases-pieces::join_rest
decreases-pieces::join_rest l = 4 * size-Query l.query.now + 1

abbrev pub decreases-pieces::join_piece : goal.decreases-pieces::join_piece
decreases-pieces::join_piece l = 4 * size-Query l.query.now + 2

abbrev pub decreases-collection::answers_for_key : goal.decreases-collection::answers_for_key
decreases-collection::answers_for_key l = 4 * size-Query l.inner.now + 1

abbrev pub decreases-collection::answers_for_keys : goal.decreases-collection::answers_for_keys
decreases-collection::answers_for_keys l = 4 * size-Query l.inner.now + 2

abbrev pub decreases-collection::collect_answers : goal.decreases-collection::collect_answers
decreases-collection::collect_answers l = 4 * size-Query l.inner.now + 3

abbrev pub decreases-search::or_answers : goal.decreases-search::or_answers
decreases-search::or_answers l = 4 * max (size-Query l.left.now) (size-Query l.right.now) + 1

abbrev pub decreases-search::combine_answers : goal.decreases-search::combine_answers
decreases-search::combine_answers l = 4 * max (size-Query l.first.now) (size-Query l.second.now) + 1

abbrev pub decreases-search::apply_answers : goal.decreases-search::apply_answers
decreases-search::apply_answers l = 4 * size-Query l.inner.now + 1

abbrev pub decreases-search::compose_answers : goal.decreases-search::compose_answers
decreases-search::compose_answers l = 4 * max (size-Query l.left.now) (size-Query l.right.now) + 1

abbrev pub decreases-pieces::split_answers : goal.decreases-pieces::split_answers
decreases-pieces::split_answers l = 4 * max (size-Query l.left.now) (size-Query l.right.now) + 2

abbrev pub decreases-pieces::iter_answers : goal.decreases-pieces::iter_answers
decreases-pieces::iter_answers l = 4 * size-Query l.inner.now + 3
