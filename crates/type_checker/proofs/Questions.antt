-- What a query asks of readings is what its rule of words asks.
use Rattle.std.proofs.Common.{◌≡◌, List, None, Some, subst}
use Rattle.item_schema.specs.declared.column.Column.{Column}
use Rattle.language_base.specs.declared.rule.Rule.{Rule}
use Rattle.language_base.specs.declared.rule.Rule.TheVariants.{Choice, Iter, Split}
use Rattle.query_model.specs.Queries.{Qre, atom, eps, choice, split, iter, combine, apply, compose}
use Rattle.query_model.specs.Queries.{collect}
use Rattle.query_model.specs.Rates.{rate_of}
use Rattle.query_model.specs.Rules.{Standing}
use Rattle.ambiguity_example.specs.Shows as shows
use Rattle.ambiguity_example.specs.Shows.{IsBroken, IsKept, Question}
use Rattle.type_checker.specs.Blames.{question_of}
use Rattle.query_resolver.specs.Nodes.{Node}
use Rattle.type_checker.specs.WordRules.{Breaks, BreaksAt}
use Rattle.type_checker.proofs.WordVerdicts.{broken_or_kept}

module _ (columns : List Column) (standing : Standing) (question : Question) where
  -- where the rule is broken, some word has two readings
  broken_at : (query : Qre) (rule : Rule) → question_of query ≡ Some question
      → BreaksAt columns standing query (Some rule) → IsBroken columns question
  broken_at (choice f g) Choice asked broken =
      let same : shows.choice (rate_of f) (rate_of g) ≡ question = cc in
      subst (IsBroken columns) same broken
  broken_at (choice f g) _ asked broken = absurd broken
  broken_at (split f g e) Split asked broken =
      let same : shows.split (rate_of f) (rate_of g) ≡ question = cc in
      subst (IsBroken columns) same broken
  broken_at (split f g e) _ asked broken = absurd broken
  broken_at (iter f n e) Iter asked broken =
      let same : shows.iter (rate_of f) ≡ question = cc in subst (IsBroken columns) same broken
  broken_at (iter f n e) _ asked broken = absurd broken
  broken_at (atom pred e) rule asked broken = absurd (cc)
  broken_at (eps number) rule asked broken = absurd (cc)
  broken_at (combine f g e) rule asked broken = absurd (cc)
  broken_at (apply f e) rule asked broken = absurd (cc)
  broken_at (compose f g) rule asked broken = absurd (cc)
  broken_at (collect chosen sync rate f) rule asked broken = absurd (cc)

  -- where none has, it is not
  kept_at : (query : Qre) → question_of query ≡ Some question → IsKept columns question
      → BreaksAt columns standing query None
  kept_at (choice f g) asked kept =
      let same : question ≡ shows.choice (rate_of f) (rate_of g) = cc in
      subst (IsKept columns) same kept
  kept_at (split f g e) asked kept =
      let same : question ≡ shows.split (rate_of f) (rate_of g) = cc in
      subst (IsKept columns) same kept
  kept_at (iter f n e) asked kept =
      let same : question ≡ shows.iter (rate_of f) = cc in subst (IsKept columns) same kept
  kept_at (atom pred e) asked kept = absurd (cc)
  kept_at (eps number) asked kept = absurd (cc)
  kept_at (combine f g e) asked kept = absurd (cc)
  kept_at (apply f e) asked kept = absurd (cc)
  kept_at (compose f g) asked kept = absurd (cc)
  kept_at (collect chosen sync rate f) asked kept = absurd (cc)

-- some word has two readings, and it cannot be that none has
pub two_readings : (node : Node) (rule : Rule) (question : Question)
    → question_of node.query ≡ Some question → Breaks node (Some rule)
    → IsBroken node.columns question × (IsKept node.columns question → ⊥)
two_readings node rule question asked broken = (
  broken_at node.columns node.standing question node.query rule asked broken,
  λ kept. broken_or_kept node.columns node.standing node.query rule broken
      (kept_at node.columns node.standing question node.query asked kept),
)
