use Rattle.std.proofs.Common.{◌≡◌, ℕ, ◌+◌, suc, List, ap, arith, ◌∙◌}
use Rattle.explanation.specs.Standing.{argument_of, standing_in, word_in}
use Rattle.explanation.specs.declared.calls.Call.{Call}
use Rattle.explanation.specs.declared.expectation.Standing.{Standing}
use Rattle.explanation.proofs.expectation.standing_in.Goals as goal

pub levels-preserved : goal.levels-preserved
levels-preserved c =
    let text = c.args.text.now in
    let call = c.call_at-call.result in
    let outer = standing_in text c.levels.level in
    let more : suc c.levels.level ≡ c.levels.level + 1 = omega arith in
    c.argument_of-standing.ensures
    ∙ ap (λ (s : Standing). argument_of s c.bytes_between-head.result.now call.argument)
    c.levels.invariant
    ∙ ap (λ (head : List ℕ). argument_of outer head call.argument) c.bytes_between-head.ensures
    ∙ ap (λ (one : Call). argument_of outer (word_in text one.head) one.argument)
    c.call_at-call.ensures ∙ ap (standing_in text) more
