use Rattle.std.proofs.Common.{◌≡◌, take}
use Rattle.cases_queries.proofs.why.items.copied.Given as goal

abbrev pub invariant-items : goal.invariant-items
invariant-items l = l.copy.items ≡ take l.item-index l.items
