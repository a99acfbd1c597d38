use Rattle.std.proofs.Common.{rules}
use Rattle.ambiguity_check.proofs.Marking.{row_has_some}
use Rattle.ambiguity_check.proofs.marks.Marks.has_some.Goals as goal

pub returns-then-overlap : goal.returns-then-overlap
returns-then-overlap c = row_has_some _ c.args.nodes _ _ c.row.ensures
    (search rules) c.if-overlap.ensures
