use Rattle.std.proofs.Common.{get_or}
use Rattle.std.proofs.lemmas.List.{get_or_default}
use Rattle.rate_expr.specs.declared.state.State.TheVariants.{Initial}
use Rattle.rate_equal.specs.Endings.{Agree}
use Rattle.rate_equal.proofs.Agreeing.{both_or_neither, one_alone, one_further}
use Rattle.rate_equal.proofs.equality.agree.Goals as goal

pub returns-then-accepts : goal.returns-then-accepts
returns-then-accepts c = (
  c.pairs.pair-index,
  get_or c.args.pairs.now c.pairs.pair-index (record { first = Initial; second = Initial }),
  c.pairs-test.true,
  get_or_default c.args.pairs.now c.pairs.pair-index _ _ c.pairs-test.true,
  one_alone _ _ c.accepts.ensures c.accepts-in-pairs.ensures c.if-accepts.true,
)

pub pairs-preserved : goal.pairs-preserved
pairs-preserved c =
    one_further (Agree c.args.first.now.sets c.args.second.now.sets) c.args.pairs.now
    c.pairs.pair-index _ c.pairs.invariant c.pairs-test.true
    (both_or_neither _ _ c.accepts.ensures c.accepts-in-pairs.ensures c.if-accepts.false)
