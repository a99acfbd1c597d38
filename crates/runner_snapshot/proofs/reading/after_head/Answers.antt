use Rattle.std.proofs.Common.{ℕ, List, subst}
use Rattle.runner_snapshot.proofs.Headed.{Cuts, cut_none, cut_some}
use Rattle.runner_snapshot.proofs.reading.after_head.Goals as goal

pub returns-clause-some : goal.returns-clause-some
returns-clause-some c =
    cut_some c.args.bytes.now c.strip_prefix.result
    (subst (λ (front : List ℕ). Cuts front c.args.bytes.now c.strip_prefix.result)
    c.as_slice.ensures c.strip_prefix.ensures.cases)

pub returns-clause-none : goal.returns-clause-none
returns-clause-none c =
    cut_none c.args.bytes.now c.strip_prefix.result
    (subst (λ (front : List ℕ). Cuts front c.args.bytes.now c.strip_prefix.result)
    c.as_slice.ensures c.strip_prefix.ensures.cases)
