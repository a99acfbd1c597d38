-- To the query that the code makes no rule applies.
use Rattle.std.proofs.Common.{◌≡◌, Bool, true, false, refl}
use Rattle.std.specs.Prelude.{if◌then◌else◌}
use Rattle.std.proofs.lemmas.Bool.{both_ways}
use Rattle.expressions.specs.Expressions.{Expression}
use Rattle.query_model.specs.Queries.{Qre, atom, eps, choice, split, iter, combine, apply, compose}
use Rattle.query_model.specs.Queries.{collect}
use Rattle.query_rewrite.specs.Filling.{filled}
use Rattle.query_rewrite.specs.Plainness.{IsPlain, IsRewritable}
use Rattle.query_rewrite.specs.Reducing.{reduced, IsReduced}
use Rattle.query_rewrite.specs.Steps.{applied, chosen, fed, is_left_value, merge, merged}
use Rattle.query_rewrite.specs.Steps.{rewritten, turn}
use Rattle.query_rewrite.proofs.ReducedParts.{reduced_is}
use Rattle.query_rewrite.proofs.Tests.{is_merge, is_turn, turn_after_any}

-- whether a choice is grouped from the left turns on its first operand
first_alone : (f g h : Qre) → (IsRewritable (choice f g) → ⊥) → IsRewritable (choice f h) → ⊥
first_alone (choice f g) _ _ not_so so = not_so tt
first_alone _ _ _ not_so so = so

chosen_plain : (f g : Qre) → IsPlain f → IsPlain g → IsPlain (chosen f g)
chosen_plain (choice f g) h (not_so, first, second) third =
    (first_alone f g (chosen g h) not_so, first, chosen_plain g h second third)
chosen_plain f g first second = ((λ so. so), first, second)

-- whether a composition is grouped from the right does not turn on its first operand
second_alone : (f other h : Qre) → (IsRewritable (compose f h) → ⊥)
    → IsRewritable (compose other h) → ⊥
second_alone f other (compose g h) not_so so = not_so (turn_after_any other f g h so)
second_alone _ _ _ not_so so = so

turned_plain : (f g h : Qre) (b : Bool) → turn g h ≡ b → IsPlain f → IsPlain (compose g h)
    → IsPlain (fed f g) → IsPlain (if b then compose (fed f g) h else compose f (compose g h))
turned_plain f g h true can first (not_so, second, third) fed_is =
    (second_alone g (fed f g) h not_so, fed_is, third)
turned_plain f g h false can first second fed_is =
    ((λ so. both_ways (turn g h) can (is_turn f g h so)), first, second)

fed_plain : (f g : Qre) → IsPlain f → IsPlain g → IsPlain (fed f g)
fed_plain f (compose g h) first second =
    turned_plain f g h (turn g h) refl first second (fed_plain f g first second.1)
fed_plain f g first second = ((λ so. so), first, second)

-- an expression that is made of two reduced ones is reduced
merged_is : (e d : Expression) → IsReduced e → IsReduced d → IsReduced (merged e d)
merged_is e d first second = by (is_left_value d) (is_left_value e)
  where
    by : (outer inner : Bool)
        → IsReduced (if outer then e else if inner then d else reduced (filled e d))
    by true inner = first
    by false true = second
    by false false = reduced_is (filled e d)

merged_plain : (f : Qre) (e d : Expression) (b : Bool) → merge e d ≡ b → IsPlain (apply f e)
    → IsReduced d → IsPlain (applied f (merged e d))
    → IsPlain (if b then applied f (merged e d) else apply (apply f e) d)
merged_plain f e d true can inner last made = made
merged_plain f e d false can inner last made =
    ((λ so. both_ways (merge e d) can (is_merge e d so)), inner, last)

applied_plain : (f : Qre) (e : Expression) → IsPlain f → IsReduced e → IsPlain (applied f e)
applied_plain (apply f e) d inner last =
    merged_plain f e d (merge e d) refl inner last
    (applied_plain f (merged e d) inner.1 (merged_is e d inner.2 last))
applied_plain f e inner is = ((λ so. so), inner, is)

pub made_plain : (q : Qre) → IsPlain (rewritten q)
made_plain (atom pred e) = reduced_is e
made_plain (eps number) = tt
made_plain (choice f g) = chosen_plain (rewritten f) (rewritten g) (made_plain f) (made_plain g)
made_plain (split f g e) = (made_plain f, made_plain g, reduced_is e)
made_plain (iter f number e) = (made_plain f, reduced_is e)
made_plain (combine f g e) = (made_plain f, made_plain g, reduced_is e)
made_plain (apply f e) = applied_plain (rewritten f) (reduced e) (made_plain f) (reduced_is e)
made_plain (compose f g) = fed_plain (rewritten f) (rewritten g) (made_plain f) (made_plain g)
made_plain (collect columns sync rate f) = made_plain f
