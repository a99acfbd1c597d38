use Rattle.std.proofs.Common.{ℕ, ◌≤◌, ◌↔◌, arith, IsTrue, leb}
use Rattle.std.proofs.lemmas.Bool.Decides.{nat_tests}
use Rattle.rate_expr.proofs.MaskSets.{end_below}
use Rattle.symbolic_nfa.proofs.nfa.Nfa.has_state.Goals as goal

decides : (end count : ℕ) → IsTrue (leb end count) ↔ (end ≤ count)
decides end count = (λ test. grind (arith, nat_tests), λ le. grind (arith, nat_tests))

pub returns-in-At : goal.returns-in-At
returns-in-At c =
    let test = decides c.end_of.result c.count.result in
    let count = c.count.ensures.count in
    rw (c.in-At.is, ← count) (
      λ is. end_below _ _ _ c.end_of.ensures.above (test.0 is),
      λ below. test.1 (c.end_of.ensures.least _ below),
    )
