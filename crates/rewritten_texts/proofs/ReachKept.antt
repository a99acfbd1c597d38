-- A query that may be rewritten as another has the same rates but for the grouping of alternatives,
-- so where it reaches few states the other does.
use Rattle.std.proofs.Common.{List, subst, sym}
use Rattle.item_schema.specs.declared.column.Column.{Column}
use Rattle.query_model.specs.Queries.{Qre}
use Rattle.query_model.specs.QueryTypes.{derived_columns, type_of}
use Rattle.query_model.specs.Rates.{rate_of}
use Rattle.query_model.specs.Rules.{Standing, IsClear, bound, free}
use Rattle.query_rewrite.specs.Rewriting.{Rewrites, same, twice, merged, turned_choice}
use Rattle.query_rewrite.specs.Rewriting.{turned_compose, reduced_atom, reduced_split, reduced_iter}
use Rattle.query_rewrite.specs.Rewriting.{reduced_combine, reduced_apply, in_choice, in_split}
use Rattle.query_rewrite.specs.Rewriting.{in_iter, in_combine, in_apply, in_compose, in_collect}
use Rattle.query_rewrite.proofs.EachAlike.{each_alike}
use Rattle.rate_expr.specs.Rates as rate
use Rattle.rate_expr.specs.Rates.{Regex}
use Rattle.text_reads_back.specs.Reach.{FeedsFew, ReachesFew}
use Rattle.type_checker.specs.WordRules.{ReachManyPairs}
use Rattle.rewritten_texts.proofs.SameSets.{HaveSameSets, same_choice, same_itself, same_sequence}
use Rattle.rewritten_texts.proofs.SameSets.{same_star, same_turned, same_twice, sets_of_both}

rates_same : (p q : Qre) → Rewrites p q → HaveSameSets (rate_of p) (rate_of q)
rates_same p q (same _) = same_itself (rate_of q)
rates_same p q (twice _ middle _ first second) =
    same_twice (rate_of p) (rate_of middle) (rate_of q) (rates_same p middle first)
    (rates_same middle q second)
rates_same p q (merged f e d can) = same_itself (rate_of f)
rates_same p q (turned_choice f g h) = same_turned (rate_of f) (rate_of g) (rate_of h)
rates_same p q (turned_compose f g h can) = same_itself (rate_of f)
rates_same p q (reduced_atom pred e) = same_itself (rate.one pred)
rates_same p q (reduced_split f g e) = same_itself (rate.sequence (rate_of f) (rate_of g))
rates_same p q (reduced_iter f number e) = same_itself (rate.star (rate_of f))
rates_same p q (reduced_combine f g e) = same_itself (rate_of f)
rates_same p q (reduced_apply f e) = same_itself (rate_of f)
rates_same p q (in_choice f f' g g' first second) =
    same_choice (rate_of f) (rate_of f') (rate_of g) (rate_of g') (rates_same f f' first)
    (rates_same g g' second)
rates_same p q (in_split f f' g g' e first second) =
    same_sequence (rate_of f) (rate_of f') (rate_of g) (rate_of g') (rates_same f f' first)
    (rates_same g g' second)
rates_same p q (in_iter f f' number e inner) =
    same_star (rate_of f) (rate_of f') (rates_same f f' inner)
rates_same p q (in_combine f f' g g' e first second) = rates_same f f' first
rates_same p q (in_apply f f' e inner) = rates_same f f' inner
rates_same p q (in_compose f f' g g' first second) = rates_same f f' first
rates_same p q (in_collect chosen sync rate f f' inner) = same_itself rate

-- rates with the same sets reach as many states
many_pairs : (columns : List Column) (r r' s s' : Regex) → HaveSameSets r r' → HaveSameSets s s'
    → ReachManyPairs columns r' s' → ReachManyPairs columns r s
many_pairs columns r r' s s' a b (first, second, of_first, of_second, reach) =
    (first, second, sets_of_both first r r' a of_first, sets_of_both second s s' b of_second, reach)

feeds_few : (standing : Standing) (columns : List Column) (r r' : Regex) → HaveSameSets r r'
    → FeedsFew standing columns r → FeedsFew standing columns r'
feeds_few free columns r r' alike few = tt
feeds_few bound columns r r' alike few =
    λ (sets, are, reach). few (sets, sets_of_both sets r r' alike are, reach)

pub reach_kept : (p q : Qre) → Rewrites p q → (standing : Standing) (columns : List Column)
    → IsClear standing columns p → ReachesFew standing columns p → ReachesFew standing columns q
reach_kept p q (same _) standing columns clear few = few
reach_kept p q (twice _ middle _ first second) standing columns clear few =
    reach_kept middle q second standing columns
    (each_alike p middle first standing columns clear).clear
    (reach_kept p middle first standing columns clear few)
reach_kept p q (merged f e d can) standing columns clear few = few
reach_kept p q (turned_choice f g h) standing columns clear few =
    (few.0.0, (few.0.1, few.1))
reach_kept p q (turned_compose f g h can) standing columns clear few =
    ((few.0, few.1.0, few.2), few.1.1, few.1.2)
reach_kept p q (reduced_atom pred e) standing columns clear few = few
reach_kept p q (reduced_split f g e) standing columns clear few = few
reach_kept p q (reduced_iter f number e) standing columns clear few = few
reach_kept p q (reduced_combine f g e) standing columns clear few = few
reach_kept p q (reduced_apply f e) standing columns clear few = few
reach_kept p q (in_choice f f' g g' first second) standing columns clear few = (
  reach_kept f f' first bound columns clear.0 few.0,
  reach_kept g g' second bound columns clear.1 few.1,
)
reach_kept p q (in_split f f' g g' e first second) standing columns clear few = (
  reach_kept f f' first bound columns clear.0 few.0,
  reach_kept g g' second bound columns clear.1 few.1,
)
reach_kept p q (in_iter f f' number e inner) standing columns clear few =
    reach_kept f f' inner bound columns clear.0 few
reach_kept p q (in_combine f f' g g' e first second) standing columns clear few = (
  reach_kept f f' first bound columns clear.0 few.0,
  reach_kept g g' second bound columns clear.1 few.1,
  (λ many. few.2 (many_pairs columns (rate_of f) (rate_of f') (rate_of g) (rate_of g')
      (rates_same f f' first) (rates_same g g' second) many)),
)
reach_kept p q (in_apply f f' e inner) standing columns clear few =
    reach_kept f f' inner bound columns clear.0 few
reach_kept p q (in_compose f f' g g' first second) standing columns clear few =
    let values = derived_columns (type_of columns f) in
    let type = (each_alike f f' first standing columns clear.0).type in (
      reach_kept f f' first standing columns clear.0 few.0,
      subst (λ ty. ReachesFew standing (derived_columns ty) g') (sym type)
          (reach_kept g g' second standing values clear.1 few.1),
      subst (λ ty. FeedsFew standing (derived_columns ty) (rate_of g')) (sym type)
          (feeds_few standing values (rate_of g) (rate_of g') (rates_same g g' second) few.2),
    )
reach_kept p q (in_collect chosen sync rate f f' inner) standing columns clear few =
    reach_kept f f' inner bound columns clear.0 few
