use Rattle.std.proofs.Common.{◌+◌, ◌∙◌, bit_or, sym, subst, ap, arith}
use Rattle.slow_eval.proofs.Stepping.{AreMetBelow, met_added, met_all, met_passed}
use Rattle.slow_eval.proofs.rates.met.Goals as goal
use Rattle.slow_eval.proofs.rates.met.Goals.{then-has+then-holds, else-has}
use Rattle.slow_eval.proofs.rates.met.Goals.{else-has-via-then-has+else-holds}
use Rattle.slow_eval.proofs.rates.met.Goals.{else-has-via-else-has}

pub positions-preserved : goal.positions-preserved
positions-preserved c =
    let sets = c.args.positions.now in
    let mask = c.args.mask in
    let item = c.args.item.now in
    let at = c.positions.position in
    let found = c.positions.found in
    let so_far : AreMetBelow sets mask item at found = c.positions.invariant in
    elim c.if-has.branch [
      | then-has+then-holds w ↦
          subst (AreMetBelow sets mask item (at + 1))
          (sym (w.found-is ∙ ap (bit_or found) w.only-found.ensures))
          (met_added sets mask item at found so_far (c.has.ensures.0 w.if-has.true)
          (_, w.pred.ensures, sym w.holds.ensures ∙ w.if-holds.true))
      | else-has w ↦
          subst (AreMetBelow sets mask item (at + 1)) (sym w.found-is)
          (elim w.else-has.branch [
            | else-has-via-then-has+else-holds u ↦
                met_passed sets mask item at found so_far
                (λ has (pred, read, meets).
                cc (u.pred.ensures, u.holds.ensures, u.if-holds.false, read, meets))
            | else-has-via-else-has u ↦
                met_passed sets mask item at found so_far
                (λ has meets. let is = c.has.ensures.1 has in cc (is, u.if-has.false))
          ])
    ]

pub returns : goal.returns
returns c =
    met_all c.args.positions.now c.args.mask c.args.item.now c.positions.position c.positions.found
    c.positions.invariant
    (omega (arith, c.count-position-end.ensures.count, c.positions-test.false))
