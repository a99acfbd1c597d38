use Rattle.std.proofs.Common.{◌+◌, ◌*◌, arith, ap, rules}
use Rattle.ambiguity_check.proofs.Marking.{marks_read}
use Rattle.ambiguity_check.proofs.marks.Marks.add.Goals as goal

pub returns : goal.returns
returns c = marks_read _ _ _ _ _ _ _ c.self.view_is (ap (λ r. 3 * c.args.left + r) c.rank.ensures)
    (grind arith) c.index-mask.ensures (search rules) (search rules)
