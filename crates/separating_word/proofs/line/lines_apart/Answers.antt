use Rattle.std.proofs.Common.{length}
use Rattle.query_model.specs.Monitors.{monitor_of}
use Rattle.separating_word.specs.Searched.{AgreeBelow}
use Rattle.separating_word.specs.Separations.{ShareWordsBelow}
use Rattle.separating_word.proofs.Found.{found_as}
use Rattle.separating_word.proofs.Sharing.{share_below}
use Rattle.separating_word.proofs.line.lines_apart.Goals as goal

pub returns-in-Some-clause-shortest : goal.returns-in-Some-clause-shortest
returns-in-Some-clause-shortest c = found_as c.lines_between.result
    (λ lines. AgreeBelow c.in-Some.automata (length lines.items))
    (λ lines. ShareWordsBelow (monitor_of c.args.left.now) (monitor_of c.args.right.now)
    (length lines.items))
    (λ lines agree. share_below c.args.left.now c.args.right.now c.in-Some.automata
    (length lines.items)
    (rw c.in-Some.is at c.in_ok-automata.ensures) agree) c.lines_between.ensures.agree
