use Rattle.std.proofs.Common.{◌≡◌, ℕ, length, sym, subst}
use Rattle.separating_word.specs.Searched.{AgreeBelow}
use Rattle.separating_word.proofs.Found.{found_as}
use Rattle.separating_word.proofs.line.lines_between.Goals as goal

pub returns-in-Some-clause-agree : goal.returns-in-Some-clause-agree
returns-in-Some-clause-agree c =
    let shortest = rw c.in-Some.is at c.in_ok-word.ensures in
    found_as c.lines_of.result (λ lines. length lines.items ≡ length c.in-Some.word.items)
    (λ lines. AgreeBelow c.args.automata.now (length lines.items))
    (λ lines same. subst (λ (n : ℕ). AgreeBelow c.args.automata.now n) (sym same) shortest.agree)
    (rw c.deref.ensures.value at c.lines_of.ensures.length)
