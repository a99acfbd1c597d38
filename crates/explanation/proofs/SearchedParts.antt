-- The first name in the parts of a record, by those that are left.
use Rattle.std.proofs.Common.{◌≡◌, ◌<◌, ◌≤◌, ◌+◌, ◌∙◌, ℕ, List, ◌∷◌, Option, Some, None, length}
use Rattle.std.proofs.Common.{get_or, drop, ap, sym}
use Rattle.std.proofs.lemmas.List.{drop_all, drop_more}
use Rattle.query_syntax.specs.Expressions as e
use Rattle.query_syntax.specs.Plain.{plain_expression, plain_expressions}
use Rattle.query_syntax.specs.declared.expression.Expression.{Expression}
use Rattle.explanation.specs.Unknown.{first_of}
use Rattle.explanation.specs.declared.culprit.Culprit.{Culprit}

-- a search of one part, and one of all that takes the first that is found
module _ (one : e.Expression → Option Culprit) (all : e.Expressions → Option Culprit)
    (nothing : all e.none ≡ None)
    (more : (part : e.Expression) (others : e.Expressions)
    → all (e.more part others) ≡ first_of (one part) (all others)) where
  -- those from a place on
  abbrev from_place : List Expression → ℕ → Option Culprit
  from_place parts i = all (plain_expressions (drop i parts))

  -- nothing is found before the place
  abbrev pub IsLeft : List Expression → ℕ → Type 0
  IsLeft parts i = from_place parts i ≡ all (plain_expressions parts)

  module _ (parts : List Expression) (i : ℕ) (part : Expression) (within : i < length parts)
      (is : part ≡ get_or parts i part) where
    next : from_place parts i ≡ first_of (one (plain_expression part)) (from_place parts (i + 1))
    next =
        ap (λ (list : List Expression). all (plain_expressions list))
        (drop_more parts i part within
        ∙ ap (λ (first : Expression). first ∷ drop (i + 1) parts) (sym is))
        ∙ more (plain_expression part) (plain_expressions (drop (i + 1) parts))

    pub passed : None ≡ one (plain_expression part) → IsLeft parts i → IsLeft parts (i + 1)
    passed none left =
        ap (λ (found : Option Culprit). first_of found (from_place parts (i + 1))) none
        ∙ sym next ∙ left

    pub found_here : (culprit : Culprit) → Some culprit ≡ one (plain_expression part)
        → IsLeft parts i → Some culprit ≡ all (plain_expressions parts)
    found_here culprit here left =
        ap (λ (found : Option Culprit). first_of found (from_place parts (i + 1))) here
        ∙ sym next ∙ left

  pub none_found : (parts : List Expression) (i : ℕ) → length parts ≤ i → IsLeft parts i
      → None ≡ all (plain_expressions parts)
  none_found parts i end left =
      sym nothing
      ∙ ap (λ (list : List Expression). all (plain_expressions list)) (sym (drop_all i parts end))
      ∙ left
