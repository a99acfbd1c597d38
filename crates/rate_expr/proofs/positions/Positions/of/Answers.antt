use Rattle.std.proofs.Common.{ap}
use Rattle.rate_expr.specs.Plain as rates
use Rattle.rate_expr.specs.Shared.{listed}
use Rattle.rate_expr.proofs.Made.{made, made_sets_of, made_spell, made_are_sets}
use Rattle.rate_expr.proofs.positions.Positions.of.Goals as goal

pub invariant_of-result : goal.invariant_of-result
invariant_of-result c =
    let is = c.in_ok-part.ensures in (
      is.shared,
      made_are_sets _ _ _ _
          (made (rates.plain_of c.args.rate.now) _ _ _ _ _ c.new-follow.ensures.items
          (ap listed c.new-preds.ensures) is.part is.follow is.preds) c.requires,
    )

pub returns-clause-sets : goal.returns-clause-sets
returns-clause-sets c =
    let is = c.in_ok-part.ensures in
    made_sets_of _ _ _ _ (made (rates.plain_of c.args.rate.now) _ _ _ _ _ c.new-follow.ensures.items
    (ap listed c.new-preds.ensures) is.part is.follow is.preds)

pub returns-clause-spells : goal.returns-clause-spells
returns-clause-spells c =
    let is = c.in_ok-part.ensures in
    made_spell _ _ _ _ (made (rates.plain_of c.args.rate.now) _ _ _ _ _ c.new-follow.ensures.items
    (ap listed c.new-preds.ensures) is.part is.follow is.preds)
