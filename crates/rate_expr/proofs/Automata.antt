-- Automata whose states are met by items, for the proofs alone.
use Rattle.std.proofs.Common.{◌≡◌, ◌⊎◌, inl, inr, Bool, true, false, ◌&&◌, ◌||◌, List, [], ◌∷◌}
use Rattle.value_ops.specs.declared.field.Field.{Field}
use Rattle.predicates.specs.Predicates.{Predicate}
use Rattle.predicates.specs.Truth.{holds}
use Rattle.rate_expr.specs.Rates.{Regex, empty, one, sequence, choice, star}
use Rattle.rate_expr.specs.Words.{Word}

-- whether the empty word is accepted, where words begin, end and continue, and what items meet
pub record Automaton : Type 1 where
  pub State : Type 0
  pub nullable : Bool
  pub First : State → Type 0
  pub Last : State → Type 0
  pub Follow : State → State → Type 0
  pub Meet : State → List Field → Type 0

-- after a state the word leads to an end
abbrev pub Continues : (a : Automaton) → a.State → Word → Type 0
Continues a from [] = a.Last from
Continues a from (item ∷ word) =
    (next : a.State) × a.Follow from next × a.Meet next item × Continues a next word

-- the word leads from the beginning to an end
abbrev pub Accepts : Automaton → Word → Type 0
Accepts a [] = a.nullable ≡ true
Accepts a (item ∷ word) =
    (begin : a.State) × a.First begin × a.Meet begin item × Continues a begin word

-- the empty word alone
abbrev pub of_empty : Automaton
of_empty = record {
  State = ⊥;
  nullable = true;
  First = λ p. ⊥;
  Last = λ p. ⊥;
  Follow = λ p q. ⊥;
  Meet = λ p item. ⊥;
}

-- one item
abbrev pub of_one : Predicate → Automaton
of_one pred = record {
  State = Unit {0};
  nullable = false;
  First = λ p. Unit {0};
  Last = λ p. Unit {0};
  Follow = λ p q. ⊥;
  Meet = λ p item. holds pred item ≡ true;
}

-- an item meets a state of either
abbrev pub MeetEither : (a b : Automaton) → a.State ⊎ b.State → List Field → Type 0
MeetEither a b (inl p) item = a.Meet p item
MeetEither a b (inr q) item = b.Meet q item

-- a word of the one and then of the other begins
abbrev pub FirstInSequence : (a b : Automaton) → a.State ⊎ b.State → Type 0
FirstInSequence a b (inl p) = a.First p
FirstInSequence a b (inr q) = (a.nullable ≡ true) × b.First q

-- ends
abbrev pub LastInSequence : (a b : Automaton) → a.State ⊎ b.State → Type 0
LastInSequence a b (inl p) = a.Last p × (b.nullable ≡ true)
LastInSequence a b (inr q) = b.Last q

-- continues
abbrev pub FollowInSequence : (a b : Automaton) → a.State ⊎ b.State → a.State ⊎ b.State → Type 0
FollowInSequence a b (inl p) (inl q) = a.Follow p q
FollowInSequence a b (inl p) (inr q) = a.Last p × b.First q
FollowInSequence a b (inr p) (inl q) = ⊥
FollowInSequence a b (inr p) (inr q) = b.Follow p q

-- a word of the one and then of the other
abbrev pub of_sequence : Automaton → Automaton → Automaton
of_sequence a b = record {
  State = a.State ⊎ b.State;
  nullable = a.nullable && b.nullable;
  First = FirstInSequence a b;
  Last = LastInSequence a b;
  Follow = FollowInSequence a b;
  Meet = MeetEither a b;
}

-- a word of either begins
abbrev pub FirstInChoice : (a b : Automaton) → a.State ⊎ b.State → Type 0
FirstInChoice a b (inl p) = a.First p
FirstInChoice a b (inr q) = b.First q

-- ends
abbrev pub LastInChoice : (a b : Automaton) → a.State ⊎ b.State → Type 0
LastInChoice a b (inl p) = a.Last p
LastInChoice a b (inr q) = b.Last q

-- continues
abbrev pub FollowInChoice : (a b : Automaton) → a.State ⊎ b.State → a.State ⊎ b.State → Type 0
FollowInChoice a b (inl p) (inl q) = a.Follow p q
FollowInChoice a b (inl p) (inr q) = ⊥
FollowInChoice a b (inr p) (inl q) = ⊥
FollowInChoice a b (inr p) (inr q) = b.Follow p q

-- a word of either
abbrev pub of_choice : Automaton → Automaton → Automaton
of_choice a b = record {
  State = a.State ⊎ b.State;
  nullable = a.nullable || b.nullable;
  First = FirstInChoice a b;
  Last = LastInChoice a b;
  Follow = FollowInChoice a b;
  Meet = MeetEither a b;
}

-- words one after the other
abbrev pub of_star : Automaton → Automaton
of_star a = record {
  State = a.State;
  nullable = true;
  First = a.First;
  Last = a.Last;
  Follow = λ p q. a.Follow p q ⊎ (a.Last p × a.First q);
  Meet = a.Meet;
}

-- the automaton of a rate, whose states are the one-item parts
abbrev pub automaton_of : Regex → Automaton
automaton_of empty = of_empty
automaton_of (one pred) = of_one pred
automaton_of (sequence left right) = of_sequence (automaton_of left) (automaton_of right)
automaton_of (choice left right) = of_choice (automaton_of left) (automaton_of right)
automaton_of (star inner) = of_star (automaton_of inner)
