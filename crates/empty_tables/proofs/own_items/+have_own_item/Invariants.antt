use Rattle.rate_expr.specs.declared.rate.Rate.{size-Rate}
use Rattle.empty_tables.proofs.own_items.+have_own_item.Given as goal

abbrev pub decreases-have_own_item : goal.decreases-have_own_item
decreases-have_own_item l = size-Rate l.rate.now
