-- All sets of one rate have the same paths, so that words lead to as many of their states, and
-- pairs of them.
use Rattle.std.proofs.Common.{◌≡◌, ◌+◌, ◌∙◌, ℕ, List, [], ◌∷◌, Some, slice_get, sym, subst}
use Rattle.item_schema.specs.declared.column.Column.{Column}
use Rattle.value_ops.specs.declared.field.Field.{Field}
use Rattle.predicates.specs.Predicates.{Predicate}
use Rattle.rate_expr.specs.After.{IsAfter}
use Rattle.rate_expr.specs.FirstLastFollow.{AreSetsOf}
use Rattle.rate_expr.specs.Paths.{Follows, Leads, LeadsOn, Meets}
use Rattle.rate_expr.specs.Rates.{Regex}
use Rattle.rate_expr.specs.Sets.{Sets, Has}
use Rattle.rate_expr.specs.Words.{Word}
use Rattle.rate_expr.specs.declared.state.State.{State}
use Rattle.rate_expr.specs.declared.state.State.TheVariants.{Initial, At}
use Rattle.rate_equal.specs.Reach.{LeadToApart, ReachPairs, ReachStates, max_reach}
use Rattle.type_checker.specs.WordRules.{ReachManyPairs, ReachManyStates}

module _ (r : Regex) (one other : Sets) (ones : AreSetsOf one r) (others : AreSetsOf other r) where
  begins_too : (position : ℕ) → Has one.first position → Has other.first position
  begins_too position has = (others.first position).1 ((ones.first position).0 has)

  follows_too : (before next : ℕ) → Follows one before next → Follows other before next
  follows_too before next follows =
      (others.follow before next).1 ((ones.follow before next).0 follows)

  meets_too : (position : ℕ) (item : List Field) → Meets one position item
      → Meets other position item
  meets_too position item (pred, is, holds) =
      let same = ones.preds ∙ sym others.preds in (
        pred,
        subst (λ (preds : List Predicate). slice_get preds position ≡ Some pred) same is,
        holds,
      )

  leads_on_too : (from : ℕ) (word : Word) (to : ℕ) → LeadsOn one from word to
      → LeadsOn other from word to
  leads_on_too from [] to path = path
  leads_on_too from (item ∷ word) to (next, follows, meets, path) = (
    next,
    follows_too from next follows,
    meets_too next item meets,
    leads_on_too next word to path,
  )

  -- a path of the one is a path of the other
  leads_too : (word : Word) (to : ℕ) → Leads one word to → Leads other word to
  leads_too [] to path = path
  leads_too (item ∷ word) to (begin, has, meets, path) =
      (begin, begins_too begin has, meets_too begin item meets, leads_on_too begin word to path)

module _ (r : Regex) (one other : Sets) (ones : AreSetsOf one r) (others : AreSetsOf other r) where
  -- the state after a word is the same for both
  after_too : (word : Word) (state : State) → IsAfter one word state → IsAfter other word state
  after_too [] Initial after = after
  after_too [] (At mask) after = absurd after
  after_too (item ∷ word) Initial after = absurd after
  after_too (item ∷ word) (At mask) after = λ to. (
    λ has. leads_too r one other ones others (item ∷ word) to ((after to).0 has),
    λ leads. (after to).1 (leads_too r other one others ones (item ∷ word) to leads),
  )

module _ (columns : List Column) (r s : Regex) (first second : Sets) (firsts : AreSetsOf first r)
    (seconds : AreSetsOf second s) where
  -- words that lead apart in the one pair of automata do so in the other
  apart_too : (first' second' : Sets) → AreSetsOf first' r → AreSetsOf second' s → (u v : Word)
      → LeadToApart first' second' u v → LeadToApart first second u v
  apart_too first' second' firsts' seconds' u v apart = λ s1 s2 t1 t2 a b c d.
      apart s1 s2 t1 t2
      (after_too r first first' firsts firsts' u s1 a)
      (after_too r first first' firsts firsts' v s2 b)
      (after_too s second second' seconds seconds' u t1 c)
      (after_too s second second' seconds seconds' v t2 d)

  -- many pairs of some sets of the rates are many of these
  pub many_here : ReachManyPairs columns r s → ReachPairs columns first second (max_reach + 1)
  many_here (first', second', firsts', seconds', many) = record {
    words = many.words;
    items = many.items;
    each_two = λ i j d before within.
        apart_too first' second' firsts' seconds' _ _ (many.each_two i j d before within);
    word_count = many.word_count;
  }

module _ (columns : List Column) (r : Regex) (sets : Sets) (are : AreSetsOf sets r) where
  -- the same of single states
  pub many_states_here : ReachManyStates columns r → ReachStates columns sets (max_reach + 1)
  many_states_here (others, ares, many) = record {
    words = many.words;
    items = many.items;
    each_two = λ i j d before within. λ s s' a b.
        many.each_two i j d before within s s' (after_too r sets others are ares _ s a)
        (after_too r sets others are ares _ s' b);
    word_count = many.word_count;
  }
