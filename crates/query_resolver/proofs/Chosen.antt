-- A choice of two pairs of expressions.
use Rattle.std.proofs.Common.{◌≡◌, Option, Some, None, refl, sym}
use Rattle.query_resolver.specs.Expressions.{both_of, choice_of}
use Rattle.expressions.specs.Expressions.{Expression}

-- both of two expressions, by what each node of them is
parts_of : (left right : Option Expression) (one other : Expression)
    → ((node : Expression → Expression → Expression)
    → Some (node one other) ≡ both_of node left right)
    → (left ≡ Some one) × (right ≡ Some other)
parts_of (Some a) (Some b) one other is = (sym (is (λ l r. l)), sym (is (λ l r. r)))
parts_of (Some a) None one other is = absurd (cc (is (λ l r. l)))
parts_of None right one other is = absurd (cc (is (λ l r. l)))

module _ (joined : Expression → Expression → Expression → Expression → Expression) where
  -- the choice of both pairs
  pub all_chosen : (left right met other : Option Expression) (a b c d : Expression)
      → ((node : Expression → Expression → Expression) → Some (node a b) ≡ both_of node left right)
      → ((node : Expression → Expression → Expression) → Some (node c d) ≡ both_of node met other)
      → Some (joined a b c d) ≡ choice_of joined left right met other
  all_chosen left right met other a b c d test branches =
      let tested = parts_of left right a b test in
      let branched = parts_of met other c d branches in
      rw (tested.0, tested.1, branched.0, branched.1) refl

  -- none where the first pair is missing
  pub no_test : (left right met other : Option Expression)
      → ((node : Expression → Expression → Expression) → None ≡ both_of node left right)
      → None ≡ choice_of joined left right met other
  no_test (Some a) (Some b) met other is = absurd (cc (is (λ l r. l)))
  no_test (Some a) None met other is = refl
  no_test None right met other is = refl

  -- nor where the second is
  pub no_branches : (left right met other : Option Expression)
      → ((node : Expression → Expression → Expression) → None ≡ both_of node met other)
      → None ≡ choice_of joined left right met other
  no_branches None right met other is = refl
  no_branches (Some a) None met other is = refl
  no_branches (Some a) (Some b) (Some c) (Some d) is = absurd (cc (is (λ l r. l)))
  no_branches (Some a) (Some b) (Some c) None is = refl
  no_branches (Some a) (Some b) None other is = refl
