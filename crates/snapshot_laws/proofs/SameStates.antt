-- The state after a word, in two automata of one rate.
use Rattle.std.proofs.Common.{◌∙◌, ℕ, List, [], ◌∷◌, sym, ap, slice_get}
use Rattle.value_ops.specs.declared.field.Field.{Field}
use Rattle.predicates.specs.Predicates.{Predicate}
use Rattle.rate_expr.specs.After.{IsAfter}
use Rattle.rate_expr.specs.FirstLastFollow.{AreSetsOf}
use Rattle.rate_expr.specs.Paths.{Follows, Leads, LeadsOn, Meets}
use Rattle.rate_expr.specs.Rates.{Regex}
use Rattle.rate_expr.specs.Sets.{Sets}
use Rattle.rate_expr.specs.Words.{Word}
use Rattle.rate_expr.specs.declared.state.State.{State}
use Rattle.rate_expr.specs.declared.state.State.TheVariants.{Initial, At}

module _ (rate : Regex) (sets other : Sets) (of_rate : AreSetsOf sets rate)
    (too : AreSetsOf other rate) where
  goes : (before next : ℕ) → Follows sets before next → Follows other before next
  goes before next is = (too.follow before next).1 ((of_rate.follow before next).0 is)

  meets : (position : ℕ) (item : List Field) → Meets sets position item → Meets other position item
  meets position item (pred, at, met) = (
    pred,
    ap (λ (preds : List Predicate). slice_get preds position) (too.preds ∙ sym of_rate.preds) ∙ at,
    met,
  )

  leads_on : (from : ℕ) (word : Word) (to : ℕ) → LeadsOn sets from word to
      → LeadsOn other from word to
  leads_on from [] to is = is
  leads_on from (item ∷ word) to (next, follows, met, rest) =
      (next, goes from next follows, meets next item met, leads_on next word to rest)

  pub leads : (word : Word) (to : ℕ) → Leads sets word to → Leads other word to
  leads [] to is = absurd is
  leads (item ∷ word) to (begin, first, met, rest) = (
    begin,
    (too.first begin).1 ((of_rate.first begin).0 first),
    meets begin item met,
    leads_on begin word to rest,
  )

-- the state is the same
pub after_too : (rate : Regex) (sets other : Sets) → AreSetsOf sets rate → AreSetsOf other rate
    → (word : Word) (state : State) → IsAfter sets word state → IsAfter other word state
after_too rate sets other of_rate too [] Initial is = tt
after_too rate sets other of_rate too [] (At mask) is = absurd is
after_too rate sets other of_rate too (item ∷ word) Initial is = absurd is
after_too rate sets other of_rate too (item ∷ word) (At mask) is = λ to. (
  λ has. leads rate sets other of_rate too (item ∷ word) to ((is to).0 has),
  λ led. (is to).1 (leads rate other sets too of_rate (item ∷ word) to led),
)
