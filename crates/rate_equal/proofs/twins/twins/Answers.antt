use Rattle.std.proofs.Common.{◌≡◌, ◌∙◌, List, ℕ, replicate, rules, subst, sym}
use Rattle.rate_equal.specs.Holding.{AreTwins}
use Rattle.rate_equal.proofs.SameRows.{twins_begun}
use Rattle.rate_equal.proofs.twins.twins.Goals as goal

pub enter-requires-clause-none : goal.enter-requires-clause-none
enter-requires-clause-none c =
    let zeros : c.in_ok-twins.twins.items ≡ replicate 128 0 = search rules in
    subst (λ (twins : List ℕ). AreTwins c.args.first.now c.args.second.now twins)
    (sym (c.deref_mut.ensures.value ∙ zeros)) (twins_begun c.args.first.now c.args.second.now 128)
