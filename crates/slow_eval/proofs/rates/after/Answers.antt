use Rattle.std.proofs.Common.{◌+◌, sym, subst, arith}
use Rattle.slow_eval.proofs.Stepping.{AreAfterBelow, after_added, after_all, after_passed}
use Rattle.slow_eval.proofs.rates.after.Goals as goal
use Rattle.slow_eval.proofs.rates.after.Goals.{then-has, else-has}

pub positions-preserved : goal.positions-preserved
positions-preserved c =
    let sets = c.args.positions.now in
    let mask = c.args.mask in
    let at = c.positions.position in
    let found = c.positions.found in
    let so_far : AreAfterBelow sets mask at found = c.positions.invariant in
    elim c.if-has.branch [
      | then-has w ↦
          subst (AreAfterBelow sets mask (at + 1)) (sym w.found-is)
          (after_added sets mask at found w.follow-found.result so_far
          (c.has.ensures.0 w.if-has.true) w.follow-found.ensures)
      | else-has w ↦
          subst (AreAfterBelow sets mask (at + 1)) (sym w.found-is)
          (after_passed sets mask at found so_far
          (λ has. let is = c.has.ensures.1 has in cc (is, w.if-has.false)))
    ]

pub returns : goal.returns
returns c =
    after_all c.args.positions.now c.args.mask c.positions.position c.positions.found
    c.count-position-end.ensures.sets c.positions.invariant
    (omega (arith, c.count-position-end.ensures.count, c.positions-test.false))
