use Rattle.std.proofs.Common.{arith}
use Rattle.ambiguity_check.specs.Marked.{IsInRow}
use Rattle.ambiguity_example.proofs.Added.{Below, adds_as, row_added, row_kept}
use Rattle.ambiguity_example.proofs.Deciding.{not_both}
use Rattle.ambiguity_example.proofs.reached_nodes.add_row.Goals as goal
use Rattle.ambiguity_example.proofs.reached_nodes.add_row.Goals.{then-has+in_ok-push, else-has}

pub rights-preserved : goal.rights-preserved
rights-preserved c = elim c.if-has.branch [
  | then-has+in_ok-push w ↦ rw w.reached-is
      (row_added c.args.phase c.args.left c.args.rights c.args.items
      c.args.reached.now.items c.rights.right c.rights.reached.items _
      (c.has.ensures.0 w.if-has.true) (omega arith) w.in_ok-push.ensures.items c.rights.invariant)
  | else-has w ↦ rw w.reached-is (row_kept c.args.phase c.args.left c.args.rights c.args.items
      c.args.reached.now.items c.rights.right c.rights.reached.items
      (λ is. not_both c.has.result (c.has.ensures.1 is) w.if-has.false) c.rights.invariant)
]

pub returns : goal.returns
returns c = adds_as (Below c.args.phase c.args.left c.args.rights c.args.items
    c.args.reached.now.items c.rights.right)
    (IsInRow c.args.phase c.args.left c.args.rights) _ _ _
    (λ node below. below.0)
    (λ node is. (is, (let below = c.end_of-right-end.ensures.above node.right is.2 in omega arith)))
    c.rights.invariant
