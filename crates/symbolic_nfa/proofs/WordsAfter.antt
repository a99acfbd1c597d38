-- States, words and rates.
use Rattle.std.proofs.Common.{ℕ, List, [], ◌∷◌, ◌++◌, ◌↔◌, refl, subst}
use Rattle.value_ops.specs.declared.field.Field.{Field}
use Rattle.rate_expr.specs.After.{IsAfter}
use Rattle.rate_expr.specs.Language.{In}
use Rattle.rate_expr.specs.Paths.{Spells, AreOf}
use Rattle.rate_expr.specs.Rates.{Regex}
use Rattle.rate_expr.specs.Readings.{HasExtension}
use Rattle.rate_expr.specs.Sets.{Sets, Has}
use Rattle.rate_expr.specs.Words.{Word}
use Rattle.symbolic_nfa.specs.Automata.{Automaton}
use Rattle.symbolic_nfa.specs.States.{Steps, StepsTo, IsAccepted, LeadsToEnd, Extends}
use Rattle.rate_expr.specs.declared.state.State.{State}
use Rattle.rate_expr.specs.declared.state.State.TheVariants.{Initial, At}
use Rattle.rate_expr.proofs.PathsOn.{leads_append, leads_begun_parts}

-- one item after the empty word
after_first :
    (sets : Sets) (item : List Field) (mask : ℕ) → StepsTo sets Initial item mask
    → IsAfter sets (item ∷ []) (At mask)
after_first sets item mask steps to = (
  λ has. let met = steps.sound to has in (to, met.0, met.1, refl),
  λ (begin, first, meets, here).
      subst (λ (p : ℕ). Has mask p) here (steps.whole begin first meets),
)

-- one item after any other
after_next :
    (sets : Sets) (first : List Field) (word : Word) (mask : ℕ) (item : List Field) (after : ℕ)
    → IsAfter sets (first ∷ word) (At mask) → StepsTo sets (At mask) item after
    → IsAfter sets (first ∷ word ++ item ∷ []) (At after)
after_next sets first word mask item after holds_after steps to = (
  λ has. let met = steps.sound to has in
      let went = met.0 in
      leads_append sets (first ∷ word) went.0 (item ∷ []) to ((holds_after went.0).0 went.1)
      (to, went.2, met.1, refl),
  λ leads. let rest = leads_begun_parts sets first word (item ∷ []) to leads in
      let on = rest.2 in
      subst (λ (p : ℕ). Has after p) on.3
      (steps.whole on.0 (rest.0, (holds_after rest.0).1 rest.1, on.1) on.2),
)

-- a step leads from the state after a word to the one after the word and the item
pub is_after-step :
    (sets : Sets) (word : Word) (state next : State) (item : List Field) → IsAfter sets word state
    → Steps sets state item next → IsAfter sets (word ++ item ∷ []) next
is_after-step sets word state Initial item holds_after steps = absurd steps
is_after-step sets [] Initial (At after) item holds_after steps = after_first sets item after steps
is_after-step sets [] (At mask) (At after) item holds_after steps = absurd holds_after
is_after-step sets (first ∷ word) Initial (At after) item holds_after steps = absurd holds_after
is_after-step sets (first ∷ word) (At mask) (At after) item holds_after steps =
    after_next sets first word mask item after holds_after steps

-- a word is accepted exactly where it spells a path to an end
pub is_accepted-spells :
    (sets : Sets) (word : Word) (state : State) → IsAfter sets word state
    → IsAccepted sets state ↔ Spells sets word
is_accepted-spells sets [] Initial holds_after = (λ h. h, λ h. h)
is_accepted-spells sets [] (At mask) holds_after = absurd holds_after
is_accepted-spells sets (item ∷ word) Initial holds_after = absurd holds_after
is_accepted-spells sets (item ∷ word) (At mask) holds_after = (
  λ (end, has, last). (end, (holds_after end).0 has, last),
  λ (end, leads, last). (end, (holds_after end).1 leads, last),
)

-- so where it is in the rate
pub is_accepted-in :
    (sets : Sets) (rate : Regex) (word : Word) (state : State) → AreOf sets rate
    → IsAfter sets word state → IsAccepted sets state ↔ In rate word
is_accepted-in sets rate word state are holds_after =
    let spells = is_accepted-spells sets word state holds_after in
    (λ h. (are word).1 (spells.0 h), λ h. spells.1 ((are word).0 h))

-- a way on from the state after a word is spelled by what comes after it in a word to an end
pub leads_to_end-spells :
    (sets : Sets) (u : Word) (state : State) (item : List Field) (word : Word)
    → IsAfter sets u state → LeadsToEnd sets state (item ∷ word) ↔ Spells sets (u ++ item ∷ word)
leads_to_end-spells sets [] Initial item word holds_after = (
  λ (next, end, first, meets, path, last). (end, (next, first, meets, path), last),
  λ (end, (begin, first, meets, path), last). (begin, end, first, meets, path, last),
)
leads_to_end-spells sets [] (At mask) item word holds_after = absurd holds_after
leads_to_end-spells sets (first ∷ u) Initial item word holds_after = absurd holds_after
leads_to_end-spells sets (first ∷ u) (At mask) item word holds_after = (
  λ (next, end, (from, has, follows), meets, path, last). (
    end,
    leads_append sets (first ∷ u) from (item ∷ word) end ((holds_after from).0 has)
        (next, follows, meets, path),
    last,
  ),
  λ (end, leads, last).
      let rest = leads_begun_parts sets first u (item ∷ word) end leads in
      let on = rest.2 in
      (on.0, end, (rest.0, (holds_after rest.0).1 rest.1, on.1), on.2, on.3, last),
)

-- the state after a word extends exactly where the word has an extension
pub extends-in :
    (nfa : Automaton) (rate : Regex) (u : Word) (state : State) → AreOf nfa.sets rate
    → IsAfter nfa.sets u state → Extends nfa state ↔ HasExtension nfa.cells.layout.columns rate u
extends-in nfa rate u state are holds_after = (
  λ on. let way = leads_to_end-spells nfa.sets u state on.item on.word holds_after in
      (on.item, on.word, on.items, (are (u ++ on.item ∷ on.word)).1 (way.0 on.ends)),
  λ (item, word, items, in_rate).
      let way = leads_to_end-spells nfa.sets u state item word holds_after in
      record {
        item = item;
        word = word;
        items = items;
        ends = way.1 ((are (u ++ item ∷ word)).0 in_rate);
      },
)
