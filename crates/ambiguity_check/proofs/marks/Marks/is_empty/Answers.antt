use Rattle.std.proofs.Common.{arith, rules}
use Rattle.ambiguity_check.proofs.Marking.{read_marked}
use Rattle.ambiguity_check.proofs.marks.Marks.is_empty.Goals as goal

pub returns-then-mask-ne0 : goal.returns-then-mask-ne0
returns-then-mask-ne0 c =
    read_marked _ _ c.rows.row _ c.self.view_is (grind arith) c.index-mask.ensures
    c.if-mask-ne0.true (search rules)
