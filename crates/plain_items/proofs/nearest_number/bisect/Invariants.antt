use Rattle.std.proofs.Common.{◌-◌}
use Rattle.plain_items.specs.Becoming.{AreHalves}
use Rattle.plain_items.proofs.nearest_number.bisect.Given as goal

-- the number of the one magnitude stands in the column, and that of the other may not
abbrev pub invariant-halves : goal.invariant-halves
invariant-halves l =
    AreHalves l.cells l.initial.item l.column l.form l.number l.outside l.inside l.item

abbrev pub decreases-halves : goal.decreases-halves
decreases-halves l = l.inside - l.outside
