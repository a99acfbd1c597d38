use Rattle.std.proofs.Common.{ℕ, ◌<◌}
use Rattle.std.specs.List.{Contains}
use Rattle.empty_tables.proofs.own_items.has_own_item.Given as goal

-- the items of the cells so far are every key's if they meet the predicate
abbrev pub invariant-cells : goal.invariant-cells
invariant-cells l = (cell : ℕ) → cell < l.cell → Contains l.met cell → Contains l.every cell
