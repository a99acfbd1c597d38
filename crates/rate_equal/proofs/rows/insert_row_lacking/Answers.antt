use Rattle.std.proofs.Common.{ℕ, ◌+◌, ◌*◌, ◌%◌, ◌^◌, ◌<◌, arith, get_or, inl, inr, subst, sym}
use Rattle.rate_expr.specs.Sets.{Has}
use Rattle.rate_equal.specs.PlaceSets.{block_count}
use Rattle.rate_equal.proofs.Filling.{filling_next}
use Rattle.rate_equal.proofs.PlaceSets.{in-or-not}
use Rattle.rate_equal.proofs.rows.insert_row_lacking.Goals as goal

pub parts-preserved : goal.parts-preserved
parts-preserved c =
    let word = get_or c.args.rows.now (c.args.position * block_count + c.parts.block) 0 in
    let fits : word < 2 ^ 128 = omega arith in
    filling_next _ _ _ _ _ _ c.parts.invariant c.insert_all.ensures (λ place here none.
    elim (in-or-not word (place % 128) fits (omega arith)) [
      | inl one ↦ absurd (none (record {
        bit = subst (λ (b : ℕ). Has (get_or c.args.rows.now (c.args.position * block_count + b) 0)
            (place % 128))
            (sym here) one;
      }))
      | inr lacks ↦ lacks
    ])
