use Rattle.std.proofs.Common.{◌≡◌, ℕ, ◌<◌, ◌^◌, arith}
use Rattle.std.proofs.Math.Nat.{one-le-pow}
use Rattle.item_lines.proofs.number_text.push_fixed.Goals as goal

-- a power of ten is not 0
unit_is_some : (unit places : ℕ) → unit ≡ 10 ^ places → 0 < unit
unit_is_some unit places is = omega (arith, one-le-pow places 10 (omega arith))

pub nonzero_div-size : goal.nonzero_div-size
nonzero_div-size c = unit_is_some _ _ c.pow-unit.ensures

pub nonzero_rem-size : goal.nonzero_rem-size
nonzero_rem-size c = unit_is_some _ _ c.pow-unit.ensures
