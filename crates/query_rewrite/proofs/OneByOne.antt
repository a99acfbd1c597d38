-- The query that the code makes is one that the query may be rewritten as.
use Rattle.std.proofs.Common.{◌≡◌, ◌∙◌, Bool, true, false, refl, ap, subst}
use Rattle.std.specs.Prelude.{if◌then◌else◌}
use Rattle.expressions.specs.Expressions.{Expression}
use Rattle.query_model.specs.Queries.{Qre, atom, eps, choice, split, iter, combine, apply, compose}
use Rattle.query_model.specs.Queries.{collect}
use Rattle.query_rewrite.specs.Filling.{filled}
use Rattle.query_rewrite.specs.Reducing.{reduced}
use Rattle.query_rewrite.specs.Rewriting as rule
use Rattle.query_rewrite.specs.Rewriting.{Merge, Rewrites, same, twice, turned_choice}
use Rattle.query_rewrite.specs.Rewriting.{turned_compose, reduced_atom, reduced_split, reduced_iter}
use Rattle.query_rewrite.specs.Rewriting.{reduced_combine, reduced_apply, in_choice, in_split}
use Rattle.query_rewrite.specs.Rewriting.{in_iter, in_combine, in_apply, in_compose, in_collect}
use Rattle.query_rewrite.specs.Steps.{applied, chosen, fed, is_left_value, merge, merged}
use Rattle.query_rewrite.specs.Steps.{rewritten, turn}
use Rattle.query_rewrite.proofs.Fillings.{filled_self}
use Rattle.query_rewrite.proofs.Tests.{left_value, merge_is, turn_is}

choosing : (f g : Qre) → Rewrites (choice f g) (chosen f g)
choosing (choice f g) h =
    twice _ (choice f (choice g h)) _ (turned_choice f g h)
    (in_choice f f (choice g h) (chosen g h) (same f) (choosing g h))
choosing f g = same (choice f g)

turning : (f g h : Qre) (b : Bool) → turn g h ≡ b → Rewrites (compose f g) (fed f g)
    → Rewrites (compose f (compose g h))
    (if b then compose (fed f g) h else compose f (compose g h))
turning f g h true can first =
    twice _ (compose (compose f g) h) _ (turned_compose f g h (turn_is f g h can))
    (in_compose (compose f g) (fed f g) h h first (same h))
turning f g h false can first = same (compose f (compose g h))

feeding : (f g : Qre) → Rewrites (compose f g) (fed f g)
feeding f (compose g h) = turning f g h (turn g h) refl (feeding f g)
feeding f g = same (compose f g)

-- the expression that is made of two, in one of three ways
made_one : (f : Qre) (e d : Expression) → Merge e d → Rewrites (apply (apply f e) d)
    (apply f (merged e d))
made_one f e d can = by (is_left_value d) (is_left_value e) refl refl
  where
    whole : Rewrites (apply (apply f e) d) (apply f (filled e d))
    whole = rule.merged f e d can

    by : (outer inner : Bool) → is_left_value d ≡ outer → is_left_value e ≡ inner
        → Rewrites (apply (apply f e) d)
        (apply f (if outer then e else if inner then d else reduced (filled e d)))
    by true inner outer_is inner_is =
        subst (λ x. Rewrites (apply (apply f e) d) (apply f x))
        (ap (filled e) (left_value d outer_is)) whole
    by false true outer_is inner_is =
        subst (λ x. Rewrites (apply (apply f e) d) (apply f x))
        (ap (λ x. filled x d) (left_value e inner_is) ∙ filled_self d) whole
    by false false outer_is inner_is =
        twice _ (apply f (filled e d)) _ whole (reduced_apply f (filled e d))

merging : (f : Qre) (e d : Expression) (b : Bool) → merge e d ≡ b
    → Rewrites (apply f (merged e d)) (applied f (merged e d))
    → Rewrites (apply (apply f e) d)
    (if b then applied f (merged e d) else apply (apply f e) d)
merging f e d true can rest =
    twice _ (apply f (merged e d)) _ (made_one f e d (merge_is e d can)) rest
merging f e d false can rest = same (apply (apply f e) d)

applying : (f : Qre) (e : Expression) → Rewrites (apply f e) (applied f e)
applying (apply f e) d = merging f e d (merge e d) refl (applying f (merged e d))
applying f e = same (apply f e)

pub rewrites : (q : Qre) → Rewrites q (rewritten q)
rewrites (atom pred e) = reduced_atom pred e
rewrites (eps number) = same (eps number)
rewrites (choice f g) =
    twice _ (choice (rewritten f) (rewritten g)) _
    (in_choice f (rewritten f) g (rewritten g) (rewrites f) (rewrites g))
    (choosing (rewritten f) (rewritten g))
rewrites (split f g e) =
    twice _ (split f g (reduced e)) _ (reduced_split f g e)
    (in_split f (rewritten f) g (rewritten g) (reduced e) (rewrites f) (rewrites g))
rewrites (iter f number e) =
    twice _ (iter f number (reduced e)) _ (reduced_iter f number e)
    (in_iter f (rewritten f) number (reduced e) (rewrites f))
rewrites (combine f g e) =
    twice _ (combine f g (reduced e)) _ (reduced_combine f g e)
    (in_combine f (rewritten f) g (rewritten g) (reduced e) (rewrites f) (rewrites g))
rewrites (apply f e) =
    twice _ (apply f (reduced e)) _ (reduced_apply f e)
    (twice _ (apply (rewritten f) (reduced e)) _
    (in_apply f (rewritten f) (reduced e) (rewrites f)) (applying (rewritten f) (reduced e)))
rewrites (compose f g) =
    twice _ (compose (rewritten f) (rewritten g)) _
    (in_compose f (rewritten f) g (rewritten g) (rewrites f) (rewrites g))
    (feeding (rewritten f) (rewritten g))
rewrites (collect columns sync rate f) =
    in_collect columns sync rate f (rewritten f) (rewrites f)
