-- What may be asked of a query may be asked of its operands, and their rates have automata.
use Rattle.std.proofs.Common.{◌≡◌, ◌≤◌, ◌+◌, ◌⊎◌, inl, inr, ℕ, ℤ, List, [], ◌∷◌, ◌++◌, length, refl}
use Rattle.std.proofs.Common.{sym, subst, ap, ◌∙◌, arith}
use Rattle.std.proofs.lemmas.List.Elements.{Contains-append_cases, Contains-append_left}
use Rattle.std.proofs.lemmas.List.Elements.{Contains-append_right}
use Rattle.std.specs.List.{AllByRecursion, Contains}
use Rattle.item_schema.specs.Layout.{Layout, derived_layout}
use Rattle.language_base.specs.Limits.{max_positions}
use Rattle.predicate_cells.specs.Cells.{AllFit, Partition}
use Rattle.predicates.specs.Predicates.{Predicate}
use Rattle.rate_expr.specs.FirstLastFollow.{AreSetsOf}
use Rattle.rate_expr.specs.Rates as rates
use Rattle.rate_expr.specs.Rates.{preds_of, size_of}
use Rattle.rate_expr.specs.Sets.{Sets}
use Rattle.rate_expr.proofs.Meetings.{length-preds_of}
use Rattle.symbolic_nfa.specs.Automata.{AreDecided}
use Rattle.expressions.specs.Expressions.{Expression}
use Rattle.query_model.specs.Queries as q
use Rattle.query_model.specs.Queries.{Qre, plain_of}
use Rattle.query_model.specs.QueryTypes.{type_of}
use Rattle.query_model.specs.Rates.{rate_of}
use Rattle.query_model.specs.Sizes.{HasFewPositions, HaveFewCells, predicates_of}
use Rattle.query_model.specs.declared.query.Query.{Query}
use Rattle.query_model.specs.declared.query.Shape.{Shape}
use Rattle.query_model.specs.Members.{HaveSameMembers}
use Rattle.query_resolver.specs.Findings.{AreAmong, CanBeAsked, KeepsTypes}
use Rattle.type_checker.specs.Breaches.{AreOperands}
use Rattle.type_checker.specs.declared.blame.Operands.{Operands}
use Rattle.query_resolver.proofs.Fitting.{all_fit}

-- the same, one by one
abbrev AllAmong : Partition → List Predicate → Type 0
AllAmong cells preds = AllByRecursion (λ pred. Contains cells.preds pred) preds

-- the first of a list is in it
first_in : {A : Type 0} (x : A) (rest : List A) → Contains (x ∷ rest) x
first_in x rest = (0, omega arith, refl)

module _ (cells : Partition) where
  pub among_front : (xs ys : List Predicate) → AreAmong cells (xs ++ ys) → AreAmong cells xs
  among_front xs ys all pred found = all pred (Contains-append_left xs ys pred found)

  both_among : (xs ys : List Predicate) → AreAmong cells xs → AreAmong cells ys
      → AreAmong cells (xs ++ ys)
  both_among xs ys all others pred found = by (Contains-append_cases xs ys pred found)
    where
      by : Contains xs pred ⊎ Contains ys pred → Contains cells.preds pred
      by (inl here) = all pred here
      by (inr there) = others pred there

  pub among_back : (xs ys : List Predicate) → AreAmong cells (xs ++ ys) → AreAmong cells ys
  among_back xs ys all pred found = all pred (Contains-append_right xs ys pred found)

  -- of both of two queries
  both_asked : (f g : Qre) → KeepsTypes cells.layout.columns f → KeepsTypes cells.layout.columns g
      → HasFewPositions f → HasFewPositions g
      → HaveFewCells cells.layout.columns f × HaveFewCells cells.layout.columns g
      → AreAmong cells (predicates_of f ++ predicates_of g)
      → CanBeAsked cells f × CanBeAsked cells g
  both_asked f g keeps also few many apart among = (
    record {
      types = keeps;
      few = few;
      derived = apart.0;
      members = among_front (predicates_of f) (predicates_of g) among;
    },
    record {
      types = also;
      few = many;
      derived = apart.1;
      members = among_back (predicates_of f) (predicates_of g) among;
    },
  )

  -- of both operands
  pub asked_choice : (f g : Qre) → CanBeAsked cells (q.choice f g)
      → CanBeAsked cells f × CanBeAsked cells g
  asked_choice f g can =
      let (few, many, both) = can.few in let (keeps, also, same) = can.types in
      both_asked f g keeps also few many can.derived can.members

  pub asked_split : (f g : Qre) (value : Expression) → CanBeAsked cells (q.split f g value)
      → CanBeAsked cells f × CanBeAsked cells g
  asked_split f g value can =
      let (few, many, both) = can.few in let (keeps, also, typed) = can.types in
      both_asked f g keeps also few many can.derived can.members

  pub asked_combine : (f g : Qre) (value : Expression) → CanBeAsked cells (q.combine f g value)
      → CanBeAsked cells f × CanBeAsked cells g
  asked_combine f g value can =
      let (keeps, also, typed) = can.types in
      both_asked f g keeps also can.few.0 can.few.1 can.derived can.members

  pub asked_iter : (f : Qre) (number : ℤ) (step : Expression)
      → CanBeAsked cells (q.iter f number step) → CanBeAsked cells f
  asked_iter f number step can =
      record { types = can.types.0; few = can.few; derived = can.derived; members = can.members }

  pub asked_apply : (f : Qre) (value : Expression) → CanBeAsked cells (q.apply f value)
      → CanBeAsked cells f
  asked_apply f value can =
      record { types = can.types.0; few = can.few; derived = can.derived; members = can.members }

  -- of the first operand of a composition
  pub asked_compose : (f g : Qre) → CanBeAsked cells (q.compose f g) → CanBeAsked cells f
  asked_compose f g can =
      record {
        types = can.types.0;
        few = can.few.0;
        derived = can.derived.0;
        members = can.members;
      }

  -- and of the second, over cells of the values of the first
  pub asked_values : (f g : Qre) (values : Partition) → CanBeAsked cells (q.compose f g)
      → values.layout ≡ derived_layout (type_of cells.layout.columns f)
      → HaveSameMembers values.preds (predicates_of g) → CanBeAsked values g
  asked_values f g values can is same = record {
    types = subst (λ (l : Layout). KeepsTypes l.columns g) (sym is) can.types.1;
    few = can.few.1;
    derived = subst (λ (l : Layout). HaveFewCells l.columns g) (sym is) can.derived.2;
    members = λ pred. (same pred).1;
  }

  -- the predicates of the second fit the values
  pub values_fit : (f g : Qre) (layout : Layout) → CanBeAsked cells (q.compose f g)
      → layout ≡ derived_layout (type_of cells.layout.columns f)
      → AllFit layout.columns (predicates_of g)
  values_fit f g layout can is =
      all_fit layout.columns g (subst (λ (l : Layout). KeepsTypes l.columns g) (sym is) can.types.1)

  -- of the operand of a collection, and of its rate
  pub asked_collect : (chosen : List ℕ) (sync : Predicate) (rate : rates.Regex) (f : Qre)
      → CanBeAsked cells (q.collect chosen sync rate f) → CanBeAsked cells f
  asked_collect chosen sync rate f can = record {
    types = can.types.0;
    few = can.few.0;
    derived = can.derived;
    members = among_back (sync ∷ preds_of rate) (predicates_of f) can.members;
  }

  pub asked_rate : (chosen : List ℕ) (sync : Predicate) (rate : rates.Regex) (f : Qre)
      → CanBeAsked cells (q.collect chosen sync rate f) → AreAmong cells (preds_of rate)
  asked_rate chosen sync rate f can =
      among_back (sync ∷ []) (preds_of rate)
      (among_front (sync ∷ preds_of rate) (predicates_of f) can.members)

  -- of the same shape, and of the same query
  pub asked_as : (shape other : Shape) → shape ≡ other → CanBeAsked cells (plain_of shape)
      → CanBeAsked cells (plain_of other)
  asked_as shape other is can = subst (λ s. CanBeAsked cells (plain_of s)) is can

  pub asked_of : (query other : Query) → other ≡ query → CanBeAsked cells (plain_of query.shape)
      → CanBeAsked cells (plain_of other.shape)
  asked_of query other is can =
      subst (λ (o : Query). CanBeAsked cells (plain_of o.shape)) (sym is) can

  pub asked_both_of : (f g first second : Query) → first ≡ f → second ≡ g
      → CanBeAsked cells (q.compose (plain_of f.shape) (plain_of g.shape))
      → CanBeAsked cells (q.compose (plain_of first.shape) (plain_of second.shape))
  asked_both_of f g first second left right can =
      subst (λ (o : Query). CanBeAsked cells (q.compose (plain_of o.shape) (plain_of second.shape)))
      (sym left)
      (subst (λ (o : Query). CanBeAsked cells (q.compose (plain_of f.shape) (plain_of o.shape)))
      (sym right) can)

  -- each predicate of the rate is one of the cells
  all_among : (xs : List Predicate) → AreAmong cells xs → AllAmong cells xs
  all_among [] among = tt
  all_among (x ∷ xs) among = (among x (first_in x xs), all_among xs (among_back (x ∷ []) xs among))

  rate_among : (query : Qre) → AreAmong cells (predicates_of query)
      → AreAmong cells (preds_of (rate_of query))
  rate_among (q.atom pred value) among = among
  rate_among (q.eps number) among = among
  rate_among (q.choice f g) among = both_among (preds_of (rate_of f)) (preds_of (rate_of g))
      (rate_among f (among_front (predicates_of f) (predicates_of g) among))
      (rate_among g (among_back (predicates_of f) (predicates_of g) among))
  rate_among (q.split f g value) among = both_among (preds_of (rate_of f)) (preds_of (rate_of g))
      (rate_among f (among_front (predicates_of f) (predicates_of g) among))
      (rate_among g (among_back (predicates_of f) (predicates_of g) among))
  rate_among (q.iter f number value) among = rate_among f among
  rate_among (q.combine f g value) among =
      rate_among f (among_front (predicates_of f) (predicates_of g) among)
  rate_among (q.apply f value) among = rate_among f among
  rate_among (q.compose f g) among = rate_among f among
  rate_among (q.collect chosen sync rate f) among =
      among_back (sync ∷ []) (preds_of rate)
      (among_front (sync ∷ preds_of rate) (predicates_of f) among)

  -- so is that of each position
  pub positions_decided : (query : Qre) (sets : Sets) → CanBeAsked cells query
      → AreSetsOf sets (rate_of query) → AreDecided sets cells
  positions_decided query sets can are =
      subst (AllAmong cells) (sym are.preds)
      (all_among (preds_of (rate_of query)) (rate_among query can.members))

-- the rates of both operands have few positions together
pub few_together : (cells : Partition) (f g : Qre) (operands : Operands)
    → AreOperands cells f g operands → size_of (rate_of f) + size_of (rate_of g) ≤ max_positions
    → length operands.left.sets.preds + length operands.right.sets.preds ≤ max_positions
few_together cells f g operands are few =
    let one : length operands.left.sets.preds ≡ size_of (rate_of f) =
    ap length are.left.sets.preds ∙ length-preds_of (rate_of f) in
    let other : length operands.right.sets.preds ≡ size_of (rate_of g) =
    ap length are.right.sets.preds ∙ length-preds_of (rate_of g) in
    omega arith
