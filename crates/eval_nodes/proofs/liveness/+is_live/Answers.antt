use Rattle.std.proofs.Common.{◌∙◌, ap, false}
use Rattle.predicates.specs.Plain as predicates
use Rattle.rate_expr.specs.Plain as rates
use Rattle.expressions.specs.Expressions as values
use Rattle.query_model.specs.Queries.{apply, choice, combine, compose, plain_of, split}
use Rattle.eval_nodes.specs.Plain.{holding_of}
use Rattle.eval_nodes.proofs.Same.{same_query}
use Rattle.eval_nodes.proofs.Lived.{lives_read, none_empty, read_as}
use Rattle.eval_nodes.proofs.NewParts.{of_both}
use Rattle.eval_nodes.proofs.liveness.+is_live.Goals as goal

pub is_live-returns-in-Atom : goal.is_live-returns-in-Atom
is_live-returns-in-Atom t c =
    let s = c.in-Atom in
    let read = read_as _ _ c.args.node.now.state c.args.start c.is_live_in_atom.result
    (ap plain_of s.is)
    (c.is_live_in_atom.ensures (predicates.plain_of s.field-0) (values.plain_of s.field-1)) in
    record { lives = lives_read _ c.args.node.now.state c.args.start _ read; read = read }

pub is_live-returns-in-Eps : goal.is_live-returns-in-Eps
is_live-returns-in-Eps t c =
    let read = read_as _ _ c.args.node.now.state c.args.start false (ap plain_of c.in-Eps.is)
    (none_empty c.in-Eps.field-0 (holding_of c.args.node.now.state) c.args.start) in
    record { lives = lives_read _ c.args.node.now.state c.args.start _ read; read = read }

pub is_live-returns-in-Or : goal.is_live-returns-in-Or
is_live-returns-in-Or t c =
    let read = read_as _ _ c.args.node.now.state c.args.start c.is_live_in_choice.result
    (ap plain_of c.in-Or.is
    ∙ of_both choice _ _ _ _ (same_query _ _ c.deref.ensures)
    (same_query _ _ c.deref-in-Or.ensures))
    c.is_live_in_choice.ensures in
    record { lives = lives_read _ c.args.node.now.state c.args.start _ read; read = read }

pub is_live-returns-in-Apply : goal.is_live-returns-in-Apply
is_live-returns-in-Apply t c =
    let e = values.plain_of c.in-Apply.field-1 in
    let read = read_as _ _ c.args.node.now.state c.args.start c.is_live_in_apply.result
    (ap plain_of c.in-Apply.is ∙ ap (λ f. apply f e) (same_query _ _ c.deref-in-Apply.ensures))
    (c.is_live_in_apply.ensures e) in
    record { lives = lives_read _ c.args.node.now.state c.args.start _ read; read = read }

pub is_live-returns-in-Split : goal.is_live-returns-in-Split
is_live-returns-in-Split t c =
    let s = c.in-Split in
    let g = plain_of s.field-1.value.shape in
    let e = values.plain_of s.field-2 in
    let read = read_as _ _ c.args.node.now.state c.args.start c.is_live_in_split.result
    (ap plain_of s.is ∙ ap (λ f. split f g e) (same_query _ _ c.deref-in-Split.ensures))
    (c.is_live_in_split.ensures g e) in
    record { lives = lives_read _ c.args.node.now.state c.args.start _ read; read = read }

pub is_live-returns-in-Combine : goal.is_live-returns-in-Combine
is_live-returns-in-Combine t c =
    let s = c.in-Combine in
    let g = plain_of s.field-1.value.shape in
    let e = values.plain_of s.field-2 in
    let read = read_as _ _ c.args.node.now.state c.args.start c.is_live_in_combine.result
    (ap plain_of s.is ∙ ap (λ f. combine f g e) (same_query _ _ c.deref-in-Combine.ensures))
    (c.is_live_in_combine.ensures g e) in
    record { lives = lives_read _ c.args.node.now.state c.args.start _ read; read = read }

pub is_live-returns-in-Iter : goal.is_live-returns-in-Iter
is_live-returns-in-Iter t c =
    let s = c.in-Iter in
    let read = read_as _ _ c.args.node.now.state c.args.start c.is_live_in_iter.result
    (ap plain_of s.is)
    (c.is_live_in_iter.ensures (plain_of s.field-0.value.shape) s.field-1
    (values.plain_of s.field-2)) in
    record { lives = lives_read _ c.args.node.now.state c.args.start _ read; read = read }

pub is_live-returns-in-Compose : goal.is_live-returns-in-Compose
is_live-returns-in-Compose t c =
    let g = plain_of c.in-Compose.field-1.value.shape in
    let read = read_as _ _ c.args.node.now.state c.args.start c.is_live_in_compose.result
    (ap plain_of c.in-Compose.is
    ∙ ap (λ f. compose f g) (same_query _ _ c.deref-in-Compose.ensures))
    (c.is_live_in_compose.ensures g) in
    record { lives = lives_read _ c.args.node.now.state c.args.start _ read; read = read }

pub is_live-returns-in-Collect : goal.is_live-returns-in-Collect
is_live-returns-in-Collect t c =
    let s = c.in-Collect in
    let read = read_as _ _ c.args.node.now.state c.args.start c.is_live_in_collect.result
    (ap plain_of s.is)
    (c.is_live_in_collect.ensures s.field-0 (predicates.plain_of s.field-1)
    (rates.plain_of s.field-2) (plain_of s.field-3.value.shape)) in
    record { lives = lives_read _ c.args.node.now.state c.args.start _ read; read = read }
