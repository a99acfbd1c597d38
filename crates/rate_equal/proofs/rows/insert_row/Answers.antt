use Rattle.std.proofs.Common.{ℕ, ◌+◌, ◌*◌, ◌%◌, get_or, subst}
use Rattle.rate_expr.specs.Sets.{Has}
use Rattle.rate_equal.specs.PlaceSets.{block_count}
use Rattle.rate_equal.proofs.Filling.{filling_next}
use Rattle.rate_equal.proofs.rows.insert_row.Goals as goal

pub parts-preserved : goal.parts-preserved
parts-preserved c =
    filling_next _ _ _ _ _ _ c.parts.invariant c.insert_all.ensures (λ place here row.
    subst (λ (b : ℕ). Has (get_or c.args.rows.now (c.args.position * block_count + b) 0)
    (place % 128)) here row.bit)
