use Rattle.std.proofs.Common.{◌≡◌, ◌<◌, length, arith, ap, sym, ◌∙◌}
use Rattle.rate_expr.specs.Shared.{Shared}
use Rattle.rate_expr.proofs.Placing.{placed_here, placed_passed, placed_all, place_read}
use Rattle.rate_expr.proofs.shared_preds.SharedPreds.positions_of.Goals as goal
use Rattle.rate_expr.proofs.shared_preds.SharedPreds.positions_of.Goals.{then-index-place}
use Rattle.rate_expr.proofs.shared_preds.SharedPreds.positions_of.Goals.{else-index-place}

pub positions-preserved : goal.positions-preserved
positions-preserved c =
    let same : c.self.inside.places.items ≡ c.args.self.now.places =
    ap (λ (s : Shared). s.places) c.self.view_is in
    let within : c.positions.position < length c.self.inside.places.items = omega arith in
    let read = place_read _ _ _ _ same within c.index.ensures in
    elim c.if-index-place.branch [
      | then-index-place w ↦ rw (w.found-is, w.only-found.ensures)
          (placed_here _ _ _ _ c.positions.invariant (omega (arith, ap length same))
          (read ∙ w.if-index-place.true))
      | else-index-place w ↦ rw w.found-is
          (placed_passed _ _ _ _ c.positions.invariant
          (λ is. let differ = w.if-index-place.false in absurd (differ (sym read ∙ is))))
    ]

pub returns : goal.returns
returns c =
    let same : c.self.inside.places.items ≡ c.args.self.now.places =
    ap (λ (s : Shared). s.places) c.self.view_is in
    placed_all _ _ _ _ c.positions.invariant (omega (arith, ap length same))
