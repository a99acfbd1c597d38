-- The bits of a mask that are in a second and not in a third.
use Rattle.std.proofs.Common.{◌≡◌, ℕ, ◌<◌, ◌^◌, ◌⊎◌, ◌∙◌, ap, min, inl, inr, arith}
use Rattle.std.specs.Prelude.{bit_and}
use Rattle.std.specs.Int.{w128, bit_at, bit_not}
use Rattle.std.proofs.lemmas.Bool.{cases_eq}
use Rattle.std.proofs.lemmas.Nat.Bits.{bit_at_and, bit_at_not, bit_at-lt}
use Rattle.rate_expr.specs.Sets.{Has}
use Rattle.rate_expr.proofs.MaskSets.{has-below}

-- the places of a mask that are in a second and not in a third
abbrev pub new_places : ℕ → ℕ → ℕ → ℕ
new_places mask met row = bit_and (bit_and mask met) (bit_not w128 row)

module _ (mask met row place : ℕ) (met_fits : met < 2 ^ 128) (row_fits : row < 2 ^ 128) where
  -- their bits, whatever the third has
  two_masks : bit_at (new_places mask met row) place
      ≡ min (min (bit_at mask place) (bit_at met place)) (bit_at (bit_not w128 row) place)
  two_masks =
      bit_at_and (bit_and mask met) (bit_not w128 row) place
      ∙ ap (λ b. min b (bit_at (bit_not w128 row) place)) (bit_at_and mask met place)

  -- such a place is in both and not in the third
  pub in_new_places : Has (new_places mask met row) place
      → Has mask place × Has met place × (Has row place → ⊥)
  in_new_places has =
      let bits = two_masks in
      let a = bit_at-lt mask place in
      let b = bit_at-lt met place in
      let in_met : Has met place = omega arith in
      let third = bit_at_not w128 row place row_fits (has-below met 128 place met_fits in_met) in
      (omega arith, in_met, λ in_row. omega arith)

  -- a place that is in both is in the third or such a place
  pub new_or_old : Has mask place → Has met place
      → Has (new_places mask met row) place ⊎ Has row place
  new_or_old in_mask in_met =
      let bits = two_masks in
      let third = bit_at_not w128 row place row_fits (has-below met 128 place met_fits in_met) in
      let c = bit_at-lt row place in
      elim (cases_eq (bit_at row place) 1) [
        | inl old ↦ inr old
        | inr new ↦ inl (omega arith)
      ]
