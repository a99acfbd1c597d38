-- The positions of a mask.
use Rattle.std.proofs.Common.{◌≡◌, ◌≤◌, ◌<◌, ◌-◌, ◌^◌, ◌↔◌, ℕ, true, leb, min, arith}
use Rattle.std.proofs.lemmas.Bool.{le-leb, leb-true}
use Rattle.rate_expr.specs.Sets.{Has}
use Rattle.rate_expr.proofs.MaskSets.{below-has}

pub fits_mask : (mask end positions size : ℕ) → end ≤ 128
    → ((position : ℕ) → Has mask position → position < end)
    → ((bound : ℕ) → mask < 2 ^ bound → end ≤ bound) → positions ≡ min size (2 ^ 32 - 1)
    → (leb end positions ≡ true) ↔ (mask < 2 ^ size)
fits_mask mask end positions size few above least is = (
  λ yes. let within : end ≤ positions = leb-true end positions yes in
      below-has mask size (λ position has. let less = above position has in
      omega (arith, less, within, is)),
  λ small. let short = least size small in le-leb end positions (omega (arith, short, few, is)),
)
