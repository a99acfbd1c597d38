use Rattle.std.proofs.Common.{◌≡◌, ℕ, length, sym, ap, subst}
use Rattle.query_model.specs.Monitors.{monitor_of}
use Rattle.separating_word.specs.Separations.{IsShortest, ShareWordsBelow}
use Rattle.separating_word.proofs.Found.{found_as}
use Rattle.separating_word.proofs.separation.distinguish.Goals as goal

pub returns-clause-shortest : goal.returns-clause-shortest
returns-clause-shortest c =
    found_as c.distinguished.result (λ separation. separation.lines ≡ c.in-Some.lines)
    (IsShortest (monitor_of c.args.left.now) (monitor_of c.args.right.now))
    (λ separation same. subst
    (λ (n : ℕ). ShareWordsBelow (monitor_of c.args.left.now) (monitor_of c.args.right.now) n)
    (sym (ap (λ lines. length lines.items) same))
    (rw c.in-Some.is at c.in_ok-lines.ensures.shortest))
    c.distinguished.ensures.lines
