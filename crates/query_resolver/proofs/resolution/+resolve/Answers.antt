use Rattle.std.proofs.Common.{List, ap, arith, rules}
use Rattle.std.proofs.lemmas.Result.{IfErr-weaker, IfOk-weaker, err_from_is_err_and}
use Rattle.std.specs.Result.{IfErr, IfOk}
use Rattle.item_schema.specs.declared.column.Column.{Column}
use Rattle.query_lets.specs.Places.{unfolded_at, unfolded_of}
use Rattle.query_syntax.specs.Plain.{plain_expression, plain_predicate, plain_query, plain_rate}
use Rattle.query_syntax.specs.Queries as q
use Rattle.query_resolver.specs.Nestings.{nesting_of}
use Rattle.query_resolver.specs.Resolutions.{IsMade, IsRefused, columns_of}
use Rattle.query_resolver.specs.Resolved.{inside}
use Rattle.query_resolver.proofs.Collecting.{collect_first, inner_made, inner_refused}
use Rattle.query_resolver.proofs.Composing.{compose_first, compose_second, on_values}
use Rattle.query_resolver.proofs.FromOperands.{apply_first, iter_first, made_there, name_itself}
use Rattle.query_resolver.proofs.FromOperands.{one_made, one_refused, refused_there}
use Rattle.query_resolver.proofs.Paired.{pair_first, pair_made, pair_nodes, pair_refused}
use Rattle.query_resolver.proofs.Paired.{pair_second}
use Rattle.query_resolver.proofs.Shaping.{name_refused}
use Rattle.query_resolver.proofs.ValueTypes.{made_value}
use Rattle.query_resolver.proofs.resolution.+resolve.Goals as goal

-- after names
pub resolve_over-resolve_root-requires : goal.resolve_over-resolve_root-requires
resolve_over-resolve_root-requires t c =
    let fewer = c.root.ensures.leads.fewer in (
      omega (arith, c.decreases),
      (c.requires.types, (c.root.ensures.placed, c.root.ensures.root)),
    )

pub resolve_over-returns-clause-made : goal.resolve_over-returns-clause-made
resolve_over-returns-clause-made t c = rw c.root.ensures.leads.same at c.resolve_root.ensures.made

pub resolve_over-returns-clause-refused : goal.resolve_over-returns-clause-refused
resolve_over-returns-clause-refused t c =
    rw c.root.ensures.leads.same at c.resolve_root.ensures.refused

pub resolve_root-atom-requires : goal.resolve_root-atom-requires
resolve_root-atom-requires t c = c.requires.types

pub resolve_root-returns-in-Name-clause-refused : goal.resolve_root-returns-in-Name-clause-refused
resolve_root-returns-in-Name-clause-refused t c =
    rw (
      name_itself c.args.scope c.requires.root c.in-Name.name (ap plain_query c.in-Name.is),
      c.refused.ensures,
    )
    (name_refused (nesting_of c.args.nesting) (columns_of c.args.items.now) c.in-Name.name)

pub resolve_root-returns-in-Atom-clause-made : goal.resolve_root-returns-in-Atom-clause-made
resolve_root-returns-in-Atom-clause-made t c = rw c.in-Atom.is
    (made_there (nesting_of c.args.nesting) (columns_of c.args.items.now) _ c.atom.result
    (rw (c.deref.ensures, c.deref-in-Atom.ensures) at c.atom.ensures.made))

pub resolve_root-returns-in-Atom-clause-refused : goal.resolve_root-returns-in-Atom-clause-refused
resolve_root-returns-in-Atom-clause-refused t c = rw c.in-Atom.is
    (refused_there (nesting_of c.args.nesting) (columns_of c.args.items.now) _ c.atom.result
    (rw (c.deref.ensures, c.deref-in-Atom.ensures) at c.atom.ensures.refused))

pub resolve_root-returns-in-Eps-clause-made : goal.resolve_root-returns-in-Eps-clause-made
resolve_root-returns-in-Eps-clause-made t c =
    let nesting = nesting_of c.args.nesting in
    let columns = columns_of c.args.items.now in
    rw c.in-Eps.is
    (IfOk-weaker c.eps.result _ (IsMade nesting columns (q.eps c.in-Eps.value c.in-Eps.span))
    (λ made everywhere. everywhere nesting columns) c.eps.ensures.made)

pub resolve_root-returns-in-Eps-clause-refused : goal.resolve_root-returns-in-Eps-clause-refused
resolve_root-returns-in-Eps-clause-refused t c =
    let nesting = nesting_of c.args.nesting in
    let columns = columns_of c.args.items.now in
    rw c.in-Eps.is
    (IfErr-weaker c.eps.result _ (IsRefused nesting columns (q.eps c.in-Eps.value c.in-Eps.span))
    (λ stop everywhere. everywhere nesting columns) c.eps.ensures.refused)

-- two operands on one stream
pub resolve_pair-resolve_over-requires : goal.resolve_pair-resolve_over-requires
resolve_pair-resolve_over-requires t c =
    let nodes = pair_nodes c.args.scope c.pair_of-pair.result c.pair_of-pair.ensures in (
      omega (arith, c.decreases, nodes),
      (c.requires.types, c.requires.placed),
    )

pub resolve_pair-returns-in_err-first-clause-refused :
    goal.resolve_pair-returns-in_err-first-clause-refused
resolve_pair-returns-in_err-first-clause-refused t c =
    let err = err_from_is_err_and c.from_residual.result c.from_residual.ensures.1 in
    rw (err.1, err.2)
    (pair_first c.args.scope c.pair_of-pair.result c.pair_of-pair.ensures
    (nesting_of c.args.nesting) (columns_of c.args.items.now) _ c.in_err-first.ensures.refused)

pub resolve_pair-returns-in_err-second-clause-refused :
    goal.resolve_pair-returns-in_err-second-clause-refused
resolve_pair-returns-in_err-second-clause-refused t c =
    let err = err_from_is_err_and c.from_residual-in_err-second.result
    c.from_residual-in_err-second.ensures.1 in
    rw (err.1, err.2)
    (pair_second c.args.scope c.pair_of-pair.result c.pair_of-pair.ensures
    (nesting_of c.args.nesting) (columns_of c.args.items.now) c.in_ok-first.first
    c.in_ok-first.ensures.made _ c.in_err-second.ensures.refused)

pub resolve_pair-returns-clause-made :
    goal.resolve_pair-returns-clause-made
resolve_pair-returns-clause-made t c =
    pair_made c.args.scope c.pair_of-pair.result c.pair_of-pair.ensures (nesting_of c.args.nesting)
    (columns_of c.args.items.now) c.in_ok-first.first c.in_ok-first.ensures.made
    c.in_ok-second.second c.in_ok-second.ensures.made c.joined.result c.joined.ensures.made

pub resolve_pair-returns-clause-refused :
    goal.resolve_pair-returns-clause-refused
resolve_pair-returns-clause-refused t c =
    pair_refused c.args.scope c.pair_of-pair.result c.pair_of-pair.ensures
    (nesting_of c.args.nesting) (columns_of c.args.items.now) c.in_ok-first.first
    c.in_ok-first.ensures.made c.in_ok-second.second c.in_ok-second.ensures.made c.joined.result
    c.joined.ensures.refused

-- one operand
pub resolve_iter-returns-in_err-inner-clause-refused :
    goal.resolve_iter-returns-in_err-inner-clause-refused
resolve_iter-returns-in_err-inner-clause-refused t c =
    let err = err_from_is_err_and c.from_residual.result c.from_residual.ensures.1 in
    rw (c.in-Iter.is, err.1, err.2)
    (iter_first (nesting_of c.args.nesting) (columns_of c.args.items.now) _ _ _ _ _
    (rw c.deref.ensures at c.in_err-inner.ensures.refused))

pub resolve_iter-returns-clause-made :
    goal.resolve_iter-returns-clause-made
resolve_iter-returns-clause-made t c =
    rw c.in-Iter.is (one_made (nesting_of c.args.nesting) (columns_of c.args.items.now)
    (unfolded_at c.args.scope (plain_query c.in-Iter.operand.value)) c.in_ok-inner.inner
    (rw c.deref.ensures at c.in_ok-inner.ensures.made)
    (λ (f : q.Query). q.iter f c.in-Iter.first
    (plain_expression c.in-Iter.step.value) c.in-Iter.span)
    c.iter.result (rw c.deref-2.ensures at c.iter.ensures.made))

pub resolve_iter-returns-clause-refused :
    goal.resolve_iter-returns-clause-refused
resolve_iter-returns-clause-refused t c =
    rw c.in-Iter.is (one_refused (nesting_of c.args.nesting) (columns_of c.args.items.now)
    (unfolded_at c.args.scope (plain_query c.in-Iter.operand.value)) c.in_ok-inner.inner
    (rw c.deref.ensures at c.in_ok-inner.ensures.made)
    (λ (f : q.Query). q.iter f c.in-Iter.first
    (plain_expression c.in-Iter.step.value) c.in-Iter.span)
    c.iter.result (rw c.deref-2.ensures at c.iter.ensures.refused))

pub resolve_apply-returns-in_err-inner-clause-refused :
    goal.resolve_apply-returns-in_err-inner-clause-refused
resolve_apply-returns-in_err-inner-clause-refused t c =
    let err = err_from_is_err_and c.from_residual.result c.from_residual.ensures.1 in
    rw (c.in-Apply.is, err.1, err.2)
    (apply_first (nesting_of c.args.nesting) (columns_of c.args.items.now) _ _ _ _
    (rw c.deref.ensures at c.in_err-inner.ensures.refused))

pub resolve_apply-returns-clause-made :
    goal.resolve_apply-returns-clause-made
resolve_apply-returns-clause-made t c =
    rw c.in-Apply.is (one_made (nesting_of c.args.nesting) (columns_of c.args.items.now)
    (unfolded_at c.args.scope (plain_query c.in-Apply.operand.value)) c.in_ok-inner.inner
    (rw c.deref.ensures at c.in_ok-inner.ensures.made)
    (λ (f : q.Query). q.apply f (plain_expression c.in-Apply.value.value) c.in-Apply.span)
    c.apply.result (rw c.deref-2.ensures at c.apply.ensures.made))

pub resolve_apply-returns-clause-refused :
    goal.resolve_apply-returns-clause-refused
resolve_apply-returns-clause-refused t c =
    rw c.in-Apply.is (one_refused (nesting_of c.args.nesting) (columns_of c.args.items.now)
    (unfolded_at c.args.scope (plain_query c.in-Apply.operand.value)) c.in_ok-inner.inner
    (rw c.deref.ensures at c.in_ok-inner.ensures.made)
    (λ (f : q.Query). q.apply f (plain_expression c.in-Apply.value.value) c.in-Apply.span)
    c.apply.result (rw c.deref-2.ensures at c.apply.ensures.refused))

-- a collection
pub resolve_collection-returns-in_err-inner-clause-refused :
    goal.resolve_collection-returns-in_err-inner-clause-refused
resolve_collection-returns-in_err-inner-clause-refused t c =
    let err = err_from_is_err_and c.from_residual.result c.from_residual.ensures.1 in
    rw (c.in-Collect.is, err.1, err.2)
    (collect_first (nesting_of c.args.nesting) (columns_of c.args.items.now) _ _ _ _ _ _
    (rw c.deref.ensures at c.in_err-inner.ensures.refused))

pub resolve_collection-returns-clause-made :
    goal.resolve_collection-returns-clause-made
resolve_collection-returns-clause-made t c =
    rw c.in-Collect.is (inner_made (nesting_of c.args.nesting) (columns_of c.args.items.now)
    (unfolded_at c.args.scope (plain_query c.in-Collect.body.value)) c.in_ok-inner.inner
    (rw c.deref.ensures at c.in_ok-inner.ensures.made)
    (λ (f : q.Query). q.collect c.in-Collect.key.value (plain_predicate c.in-Collect.sync.value)
    (plain_rate c.in-Collect.rate.value) f c.in-Collect.span)
    c.collect.result
    (rw (c.deref-2.ensures, c.deref-3.ensures, c.deref-4.ensures) at c.collect.ensures.made))

pub resolve_collection-returns-clause-refused :
    goal.resolve_collection-returns-clause-refused
resolve_collection-returns-clause-refused t c =
    rw c.in-Collect.is (inner_refused (nesting_of c.args.nesting) (columns_of c.args.items.now)
    (unfolded_at c.args.scope (plain_query c.in-Collect.body.value)) c.in_ok-inner.inner
    (rw c.deref.ensures at c.in_ok-inner.ensures.made)
    (λ (f : q.Query). q.collect c.in-Collect.key.value (plain_predicate c.in-Collect.sync.value)
    (plain_rate c.in-Collect.rate.value) f c.in-Collect.span)
    c.collect.result
    (rw (c.deref-2.ensures, c.deref-3.ensures, c.deref-4.ensures) at c.collect.ensures.refused))

-- a composition
pub resolve_fed-resolve_on_values-requires : goal.resolve_fed-resolve_on_values-requires
resolve_fed-resolve_on_values-requires t c = (
  first_of (search rules, omega (arith, c.decreases)),
  (made_value _ _ _ c.in_ok-first.first c.in_ok-first.ensures.made, search rules),
)

pub resolve_fed-returns-in_err-first-clause-refused :
    goal.resolve_fed-returns-in_err-first-clause-refused
resolve_fed-returns-in_err-first-clause-refused t c =
    let nesting = nesting_of c.args.nesting in
    let columns = columns_of c.args.items.now in
    let f = unfolded_at c.args.scope (plain_query c.in-Compose.left.value) in
    let g = unfolded_at c.args.scope (plain_query c.in-Compose.right.value) in
    let err = err_from_is_err_and c.from_residual.result c.from_residual.ensures.1 in
    rw (c.in-Compose.is, err.1, err.2)
    (compose_first nesting columns f g c.in-Compose.span _
    (rw c.deref.ensures at c.in_err-first.ensures.refused))

pub resolve_fed-returns-in_err-second-clause-refused :
    goal.resolve_fed-returns-in_err-second-clause-refused
resolve_fed-returns-in_err-second-clause-refused t c =
    let nesting = nesting_of c.args.nesting in
    let columns = columns_of c.args.items.now in
    let f = unfolded_at c.args.scope (plain_query c.in-Compose.left.value) in
    let g = unfolded_at c.args.scope (plain_query c.in-Compose.right.value) in
    let err = err_from_is_err_and c.from_residual-in_err-second.result
    c.from_residual-in_err-second.ensures.1 in
    rw (c.in-Compose.is, err.1, err.2)
    (compose_second nesting columns f g c.in-Compose.span
    c.in_ok-first.first (rw c.deref.ensures at c.in_ok-first.ensures.made) _
    (rw c.deref-2.ensures at c.in_err-second.ensures.refused))

pub resolve_fed-returns-clause-made :
    goal.resolve_fed-returns-clause-made
resolve_fed-returns-clause-made t c =
    let nesting = nesting_of c.args.nesting in
    let columns = columns_of c.args.items.now in
    let f = unfolded_at c.args.scope (plain_query c.in-Compose.left.value) in
    let g = unfolded_at c.args.scope (plain_query c.in-Compose.right.value) in
    rw c.in-Compose.is (c.in_ok-compose.ensures nesting columns f g
    (rw c.deref.ensures at c.in_ok-first.ensures.made)
    (rw c.deref-2.ensures at c.in_ok-second.ensures.made))

pub resolve_on_values-returns-clause-made : goal.resolve_on_values-returns-clause-made
resolve_on_values-returns-clause-made t c =
    on_values c.in_ok-values.values c.args.ty c.in_ok-values.ensures
    (λ (columns : List Column). IfOk c.resolve.result
    (IsMade inside columns (unfolded_of c.args.scope)))
    c.resolve.ensures.made

pub resolve_on_values-returns-clause-refused : goal.resolve_on_values-returns-clause-refused
resolve_on_values-returns-clause-refused t c =
    on_values c.in_ok-values.values c.args.ty c.in_ok-values.ensures
    (λ (columns : List Column). IfErr c.resolve.result
    (IsRefused inside columns (unfolded_of c.args.scope)))
    c.resolve.ensures.refused
