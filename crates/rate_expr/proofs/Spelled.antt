-- Sets that say of positions what the automaton of a rate says of its states spell its words.
use Rattle.std.proofs.Common.{◌≡◌, ℕ, List, [], ◌∷◌, refl, sym, ◌∙◌, subst}
use Rattle.value_ops.specs.declared.field.Field.{Field}
use Rattle.rate_expr.specs.Paths.{Meets, Follows, LeadsOn, Spells, AreOf}
use Rattle.rate_expr.specs.Rates.{Regex}
use Rattle.rate_expr.specs.Sets.{Sets, Has}
use Rattle.rate_expr.specs.Words.{Word}
use Rattle.rate_expr.proofs.Automata.{Automaton, Continues, Accepts, automaton_of}
use Rattle.rate_expr.proofs.Ends.{AreIn}
use Rattle.rate_expr.proofs.Exact.{in_accepted, accepted_in}
use Rattle.rate_expr.proofs.Follows.{Step}
use Rattle.rate_expr.proofs.Numbers.{number_of}

-- the sets say of numbers what the automaton says of its states
pub record Say (sets : Sets) (a : Automaton) (number : a.State → ℕ) : Type 0 where
  pub nullable : sets.nullable ≡ a.nullable
  pub first : AreIn a.State number a.First sets.first
  pub last : AreIn a.State number a.Last sets.last
  pub goes : (p q : a.State) → a.Follow p q → Follows sets (number p) (number q)
  pub step : (i n : ℕ) → Follows sets i n → Step a number i n
  pub meets : (p : a.State) (item : List Field) → a.Meet p item → Meets sets (number p) item
  pub meet : (n : ℕ) (item : List Field) → Meets sets n item
      → (p : a.State) × (number p ≡ n) × a.Meet p item
  pub apart : (p q : a.State) → number p ≡ number q → p ≡ q

module _ (sets : Sets) (a : Automaton) (number : a.State → ℕ) (say : Say sets a number) where
  -- a path after a state is one after its number
  number_path : (p : a.State) (word : Word) → Continues a p word
      → (to : ℕ) × LeadsOn sets (number p) word to × Has sets.last to
  number_path p [] last = (number p, refl, say.last.each p last)
  number_path p (item ∷ word) (q, follow, meet, on) =
      let rest = number_path q word on in
      (rest.0, (number q, say.goes p q follow, say.meets q item meet, rest.1), rest.2)

  -- what is said of a state with a number is said of this one
  renamed : (P : a.State → Type 0) (p q : a.State) (n : ℕ) → number p ≡ n → number q ≡ n → P p → P q
  renamed P p q n is other holds = subst P (say.apart p q (is ∙ sym other)) holds

  -- a path after a number is one after its state
  state_path : (p : a.State) (from : ℕ) → number p ≡ from → (word : Word) (to : ℕ)
      → LeadsOn sets from word to → Has sets.last to → Continues a p word
  state_path p from is [] to same has =
      let q = say.last.only to has in renamed a.Last q.0 p to q.1 (is ∙ same) q.2
  state_path p from is (item ∷ word) to (next, follows, meets, on) has =
      let step = say.step from next follows in
      let met = say.meet next item meets in (
        step.1,
        renamed (λ r. a.Follow r step.1) step.0 p from step.2 is step.4,
        renamed (λ r. a.Meet r item) met.0 step.1 next met.1 step.3 met.2,
        state_path step.1 next step.3 word to on has,
      )

  -- what is accepted is spelled
  spelled : (word : Word) → Accepts a word → Spells sets word
  spelled [] nullable = say.nullable ∙ nullable
  spelled (item ∷ word) (p, first, meet, on) =
      let rest = number_path p word on in
      (rest.0, (number p, say.first.each p first, say.meets p item meet, rest.1), rest.2)

  -- and what is spelled is accepted
  accepted : (word : Word) → Spells sets word → Accepts a word
  accepted [] nullable = sym say.nullable ∙ nullable
  accepted (item ∷ word) (to, (begin, has, meets, on), last) =
      let p = say.first.only begin has in
      let met = say.meet begin item meets in (
        p.0,
        p.2,
        renamed (λ r. a.Meet r item) met.0 p.0 begin met.1 p.1 met.2,
        state_path p.0 begin p.1 word to on last,
      )

-- the paths over such sets spell exactly the words of the rate
pub spell_exactly : (rate : Regex) (sets : Sets) → Say sets (automaton_of rate) (number_of rate 0)
    → AreOf sets rate
spell_exactly rate sets say word =
    let a = automaton_of rate in (
      λ is. spelled sets a (number_of rate 0) say word (in_accepted rate word is),
      λ spells. accepted_in rate word (accepted sets a (number_of rate 0) say word spells),
    )
