use Rattle.std.proofs.Common.{◌≡◌, length, arith}
use Rattle.ambiguity_check.proofs.Marking.{marked_left}
use Rattle.ambiguity_check.proofs.marks.Marks.end.Goals as goal

-- three rows for each place
pub returns-clause-end : goal.returns-clause-end
returns-clause-end c =
    let whole : length c.self.inside.rows.items ≡ c.len.result = grind arith in
    let full : c.len.result ≡ 384 = grind arith in
    grind (arith, full)

pub returns-clause-below : goal.returns-clause-below
returns-clause-below c = λ node is.
    let whole : length c.self.inside.rows.items ≡ c.len.result = grind arith in
    let full : c.len.result ≡ 384 = grind arith in
    marked_left c.self.inside.rows.items _ node c.len.result c.self.view_is whole full is
