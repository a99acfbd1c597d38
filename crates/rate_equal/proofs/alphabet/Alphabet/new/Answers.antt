use Rattle.std.proofs.Common.{◌≡◌, ◌∙◌, List, ℕ, replicate, rules, subst, sym}
use Rattle.rate_equal.proofs.Lettering.{rows_begun}
use Rattle.rate_equal.specs.Holding.{AreRows}
use Rattle.rate_equal.specs.declared.letters.Letter.{Letter}
use Rattle.rate_equal.proofs.alphabet.Alphabet.new.Goals as goal

pub enter-requires-clause-first : goal.enter-requires-clause-first
enter-requires-clause-first c =
    let zeros : c.in_ok-first.first.items ≡ replicate 4096 0 = search rules in
    subst (λ (rows : List ℕ). AreRows (λ (l : Letter). l.first) rows c.deref.result.now 0)
    (sym (c.deref_mut.ensures.value ∙ zeros))
    (rows_begun (λ (l : Letter). l.first) c.deref.result.now 4096)

pub enter-requires-clause-second : goal.enter-requires-clause-second
enter-requires-clause-second c =
    let zeros : c.in_ok-second.second.items ≡ replicate 4096 0 = search rules in
    subst (λ (rows : List ℕ). AreRows (λ (l : Letter). l.second) rows c.deref.result.now 0)
    (sym (c.deref_mut-2.ensures.value ∙ zeros))
    (rows_begun (λ (l : Letter). l.second) c.deref.result.now 4096)
