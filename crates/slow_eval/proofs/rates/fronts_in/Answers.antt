use Rattle.rate_expr.specs.Plain as rates
use Rattle.slow_eval.proofs.Stepping.{spelled_in}
use Rattle.slow_eval.proofs.rates.fronts_in.Goals as goal

pub returns : goal.returns
returns c =
    spelled_in c.in_ok-positions.positions (rates.plain_of c.args.rate.now) c.args.word.now
    c.in_ok-fronts.fronts.items c.in_ok-positions.ensures.spells c.in_ok-fronts.ensures
