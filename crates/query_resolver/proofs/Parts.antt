-- The parts of a record, of which each is resolved.
use Rattle.std.proofs.Common.{◌≡◌, ◌<◌, ◌≤◌, ◌+◌, ◌∙◌, ◌++◌, ℕ, List, [], ◌∷◌, Option, Some, None}
use Rattle.std.proofs.Common.{length, map, get_or, drop, refl, ap, sym, subst, arith}
use Rattle.std.specs.Option.{option_map}
use Rattle.std.proofs.lemmas.List.{drop_all, drop_more, length_push, map_push}
use Rattle.query_syntax.specs.Plain.{plain_expression, plain_expressions}
use Rattle.query_syntax.specs.declared.expression.Expression as tree
use Rattle.expressions.specs.Expressions.{Expression, Expressions, all_of, count_of, more, none}
use Rattle.expressions.specs.Expressions.{plain_of, plain_parts}
use Rattle.expressions.specs.declared.expr.Expr.{Expr}
use Rattle.query_resolver.specs.Expressions.{Scope, expression_over, expressions_over, more_of}
use Rattle.query_resolver.specs.Scopes.{HasFittingNumbers, HaveFittingNumbers}

-- expressions before others
abbrev joined : List Expression → Expressions → Expressions
joined [] others = others
joined (first ∷ rest) others = more first (joined rest others)

-- none after them are they themselves
joined_none : (front : List Expression) → joined front none ≡ all_of front
joined_none [] = refl
joined_none (first ∷ rest) = ap (more first) (joined_none rest)

-- one more is the first of those after
joined_more : (front : List Expression) (one : Expression) (others : Expressions)
    → joined (front ++ one ∷ []) others ≡ joined front (more one others)
joined_more [] one others = refl
joined_more (first ∷ rest) one others = ap (more first) (joined_more rest one others)

-- a record has a part for each expression
pub counted : (parts : List Expr) → count_of (plain_parts parts) ≡ length parts
counted [] = refl
counted (first ∷ rest) = omega (arith, counted rest)

-- the front before those that are left, if there are these
abbrev front_with : List Expression → Option Expressions → Option Expressions
front_with front others = option_map (joined front) others

with_more : (front : List Expression) (one : Expression) (others : Option Expressions)
    → front_with (front ++ one ∷ []) others ≡ front_with front (more_of (Some one) others)
with_more front one (Some others) = ap Some (joined_more front one others)
with_more front one None = refl

nothing_before : (all : Option Expressions) → front_with [] all ≡ all
nothing_before (Some all) = refl
nothing_before None = refl

-- the numbers of one more fit
fitting_more : (front : List Expression) (one : Expression) → HaveFittingNumbers (all_of front)
    → HasFittingNumbers one → HaveFittingNumbers (all_of (front ++ one ∷ []))
fitting_more [] one fit is = (is, tt)
fitting_more (first ∷ rest) one fit is = (fit.0, fitting_more rest one fit.1 is)

module _ (scope : Scope) where
  abbrev left_from : List tree.Expression → ℕ → Option Expressions
  left_from parts i = expressions_over scope (plain_expressions (drop i parts))

  -- those before a place are resolved, and make all of them with what is left
  pub record AreResolved (parts : List tree.Expression) (made : List Expr) (i : ℕ) : Type 0 where
    pub within : i ≤ length parts
    pub all : front_with (map plain_of made) (left_from parts i)
        ≡ expressions_over scope (plain_expressions parts)
    pub count : length made ≡ i
    pub numbers : HaveFittingNumbers (plain_parts made)

  pub none_resolved : (parts : List tree.Expression) (made : List Expr) → made ≡ []
      → AreResolved parts made 0
  none_resolved parts made is =
      subst (λ (es : List Expr). AreResolved parts es 0) (sym is) (record {
        within = omega arith;
        all = nothing_before (expressions_over scope (plain_expressions parts));
        count = refl;
        numbers = tt;
      })

  -- the next of those that are left
  next : (parts : List tree.Expression) (i : ℕ) (part : tree.Expression) → i < length parts
      → part ≡ get_or parts i part → left_from parts i
      ≡ more_of (expression_over scope (plain_expression part)) (left_from parts (i + 1))
  next parts i part within is =
      ap (λ (list : List tree.Expression). expressions_over scope (plain_expressions list))
      (drop_more parts i part within
      ∙ ap (λ (first : tree.Expression). first ∷ drop (i + 1) parts) (sym is))

  pub more_resolved : (parts : List tree.Expression) (made : List Expr) (i : ℕ)
      (part : tree.Expression) (one : Expr) → i < length parts → part ≡ get_or parts i part
      → Some (plain_of one) ≡ expression_over scope (plain_expression part)
      → HasFittingNumbers (plain_of one) → AreResolved parts made i
      → AreResolved parts (made ++ one ∷ []) (i + 1)
  more_resolved parts made i part one within is found fits so_far = record {
    within = omega arith;
    all =
        ap (λ (front : List Expression). front_with front (left_from parts (i + 1)))
        (map_push plain_of made one)
        ∙ with_more (map plain_of made) (plain_of one) (left_from parts (i + 1))
        ∙ ap (λ (first : Option Expression). front_with (map plain_of made)
        (more_of first (left_from parts (i + 1)))) found
        ∙ ap (front_with (map plain_of made)) (sym (next parts i part within is))
        ∙ so_far.all;
    count = length_push made one ∙ ap (λ n. n + 1) so_far.count;
    numbers = subst (λ (es : List Expression). HaveFittingNumbers (all_of es))
        (sym (map_push plain_of made one))
        (fitting_more (map plain_of made) (plain_of one) so_far.numbers fits);
  }

  -- where one is not resolved, all are not
  pub none_left : (parts : List tree.Expression) (made : List Expr) (i : ℕ) (part : tree.Expression)
      → i < length parts → part ≡ get_or parts i part
      → None ≡ expression_over scope (plain_expression part)
      → AreResolved parts made i → None ≡ expressions_over scope (plain_expressions parts)
  none_left parts made i part within is without so_far =
      ap (λ (first : Option Expression). front_with (map plain_of made)
      (more_of first (left_from parts (i + 1)))) without
      ∙ ap (front_with (map plain_of made)) (sym (next parts i part within is))
      ∙ so_far.all

  -- where none are left, those that are made are all
  pub all_left : (parts : List tree.Expression) (made : List Expr) (i : ℕ) → length parts ≤ i
      → AreResolved parts made i
      → Some (plain_parts made) ≡ expressions_over scope (plain_expressions parts)
  all_left parts made i end so_far =
      ap Some (sym (joined_none (map plain_of made)))
      ∙ ap (λ (list : List tree.Expression). front_with (map plain_of made)
      (expressions_over scope (plain_expressions list)))
      (sym (drop_all i parts end))
      ∙ so_far.all

  pub as_many_left : (parts : List tree.Expression) (made : List Expr) (i : ℕ) → length parts ≤ i
      → AreResolved parts made i → length made ≡ length parts
  as_many_left parts made i end so_far =
      let within = so_far.within in
      let count = so_far.count in
      omega arith
