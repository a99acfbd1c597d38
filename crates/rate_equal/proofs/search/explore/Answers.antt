use Rattle.std.proofs.Common.{◌≡◌, ◌∙◌, Some, None, rules, sym, slice_get}
use Rattle.std.proofs.lemmas.Result.{err_from_is_err_and}
use Rattle.rate_expr.proofs.StatesAfter.{after_exists}
use Rattle.rate_equal.proofs.Along.{searched_along}
use Rattle.rate_equal.proofs.Exploring.{too_many_reached}
use Rattle.rate_equal.proofs.Gone.{none_gone}
use Rattle.rate_equal.proofs.Searched.{reached_at, searched_all, past_all}
use Rattle.rate_equal.proofs.search.explore.Goals as goal

pub ways_on-requires : goal.ways_on-requires
ways_on-requires c =
    let from = reached_at _ _ _ _ c.in-Some.from c.pairs.invariant.searched
    (sym c.get_index.ensures.key ∙ sym c.copied.ensures ∙ c.in-Some.is) in
    after_exists c.args.first.now.sets from.0 _ from.2.0

pub ways_on-requires-in-Some : goal.ways_on-requires-in-Some
ways_on-requires-in-Some c =
    let from = reached_at _ _ _ _ c.in-Some.from c.pairs.invariant.searched
    (sym c.get_index.ensures.key ∙ sym c.copied.ensures ∙ c.in-Some.is) in
    after_exists c.args.second.now.sets from.0 _ from.2.1

pub returns-clause-all : goal.returns-clause-all
returns-clause-all c =
    let past : slice_get c.pairs.pairs.keys c.pairs.next ≡ None =
    sym c.get_index.ensures.key ∙ sym c.copied.ensures ∙ c.in_default.is in
    searched_all _ _ _ _ c.pairs.invariant.searched (past_all c.pairs.pairs.keys c.pairs.next past)

pub returns-in_err-go_along-clause-too_many : goal.returns-in_err-go_along-clause-too_many
returns-in_err-go_along-clause-too_many c =
    let err = err_from_is_err_and c.from_residual-in_err-go_along.result
    c.from_residual-in_err-go_along.ensures.1 in
    let from = reached_at _ _ _ _ c.in-Some.from c.pairs.invariant.searched
    (sym c.get_index.ensures.key ∙ sym c.copied.ensures ∙ c.in-Some.is) in
    rw (err.1, err.2) (λ is. too_many_reached _ _ _ c.pairs.invariant.letters _ _
    (c.ways_on.ensures, c.ways_on-in-Some.ensures) from _ c.pairs.invariant.searched.reached
    (c.in_err-go_along.ensures.too_many (cc)))

pub pairs-init : goal.pairs-init
pairs-init c = record {
  searched = search rules;
  gone = none_gone c.args.first.now c.args.second.now _ _ c.in_ok-trail.ensures.gone;
  letters = c.requires.letters;
  trail = c.in_ok-trail.ensures.trail _ _;
}

pub pairs-preserved : goal.pairs-preserved
pairs-preserved c =
    let found : slice_get c.pairs.pairs.keys c.pairs.next ≡ Some c.in-Some.from =
    sym c.get_index.ensures.key ∙ sym c.copied.ensures ∙ c.in-Some.is in
    let along = searched_along c.args.first.now c.args.second.now _ c.pairs.invariant.letters
    c.pairs.pairs.keys _ _ _ c.in-Some.from _ c.pairs.invariant.gone
    c.pairs.invariant.searched found (c.ways_on.ensures, c.ways_on-in-Some.ensures)
    c.in_ok-go_along.ensures.gone _ c.in_ok-go_along.ensures.along in
    record {
      searched = along.0;
      gone = along.1;
      letters = c.pairs.invariant.letters;
      trail = c.in_ok-go_along.ensures.trail;
    }
