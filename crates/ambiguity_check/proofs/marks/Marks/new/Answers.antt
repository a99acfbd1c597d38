use Rattle.ambiguity_check.proofs.Marking.{none_marked}
use Rattle.ambiguity_check.proofs.marks.Marks.new.Goals as goal

pub returns : goal.returns
returns c = λ node. rw (c.in_ok-rows.ensures.items_if_clones_equal (λ y same. same))
    (none_marked 384 node)
