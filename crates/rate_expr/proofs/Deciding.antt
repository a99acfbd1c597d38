-- Whether a word is in a rate is decided, for any rate and any word.
use Rattle.std.proofs.Common.{◌≡◌, ◌⊎◌, inl, inr, Bool, true, false, List, [], ◌∷◌, refl}
use Rattle.value_ops.specs.declared.field.Field.{Field}
use Rattle.predicates.specs.Truth.{holds}
use Rattle.rate_expr.specs.Language.{In}
use Rattle.rate_expr.specs.Rates.{Regex, empty, one, sequence, choice, star}
use Rattle.rate_expr.specs.Words.{Word}
use Rattle.rate_expr.proofs.Automata.{Automaton, Continues, Accepts, of_sequence, of_choice}
use Rattle.rate_expr.proofs.Automata.{automaton_of}
use Rattle.rate_expr.proofs.Exact.{in_accepted, accepted_in}

-- it holds or does not
abbrev pub Decided : Type 0 → Type 0
Decided P = P ⊎ (P → ⊥)

-- so does what it comes to
pub decided_as : (P Q : Type 0) → (P → Q) → (Q → P) → Decided P → Decided Q
decided_as P Q to from (inl holds) = inl (to holds)
decided_as P Q to from (inr fails) = inr (λ q. fails (from q))

-- two facts
decided_both : (P Q : Type 0) → Decided P → Decided Q → Decided (P × Q)
decided_both P Q (inl p) (inl q) = inl (p, q)
decided_both P Q (inl p) (inr fails) = inr (λ both. fails both.1)
decided_both P Q (inr fails) other = inr (λ both. fails both.0)

-- three
pub decided_three : (P Q R : Type 0) → Decided P → Decided Q → Decided R → Decided (P × Q × R)
decided_three P Q R p q r =
    decided_as ((P × Q) × R) (P × Q × R) (λ all. (all.0.0, all.0.1, all.1))
    (λ all. ((all.0, all.1), all.2)) (decided_both (P × Q) R (decided_both P Q p q) r)

-- either of two
decided_either : (P Q : Type 0) → Decided P → Decided Q → Decided (P ⊎ Q)
decided_either P Q (inl p) other = inl (inl p)
decided_either P Q (inr fails) (inl q) = inl (inr q)
decided_either P Q (inr fails) (inr fails_too) = inr neither
  where
    neither : P ⊎ Q → ⊥
    neither (inl p) = fails p
    neither (inr q) = fails_too q

-- a test
pub decided_test : (test : Bool) → Decided (test ≡ true)
decided_test true = inl refl
decided_test false = inr (λ is. cc)

-- whether a state has a decided property is decided, and so are the relations
pub record IsDecided (a : Automaton) : Type 1 where
  pub some : (P : a.State → Type 0) → ((p : a.State) → Decided (P p))
      → Decided ((p : a.State) × P p)
  pub first : (p : a.State) → Decided (a.First p)
  pub last : (p : a.State) → Decided (a.Last p)
  pub follow : (p q : a.State) → Decided (a.Follow p q)
  pub meet : (p : a.State) (item : List Field) → Decided (a.Meet p item)

-- a path after a state
decided_on : (a : Automaton) → IsDecided a → (p : a.State) (word : Word)
    → Decided (Continues a p word)
decided_on a d p [] = d.last p
decided_on a d p (item ∷ word) =
    let Next : a.State → Type 0 = λ q. a.Follow p q × a.Meet q item × Continues a q word in
    decided_as ((q : a.State) × Next q) (Continues a p (item ∷ word))
    (λ on. (on.0, on.1.0, on.1.1, on.1.2)) (λ on. (on.0, (on.1, on.2, on.3)))
    (d.some Next (λ q. decided_three (a.Follow p q) (a.Meet q item) (Continues a q word)
    (d.follow p q) (d.meet q item) (decided_on a d q word)))

-- a word
decided_word : (a : Automaton) → IsDecided a → (word : Word) → Decided (Accepts a word)
decided_word a d [] = decided_test a.nullable
decided_word a d (item ∷ word) =
    let Begin : a.State → Type 0 = λ q. a.First q × a.Meet q item × Continues a q word in
    decided_as ((q : a.State) × Begin q) (Accepts a (item ∷ word))
    (λ on. (on.0, on.1.0, on.1.1, on.1.2)) (λ on. (on.0, (on.1, on.2, on.3)))
    (d.some Begin (λ q. decided_three (a.First q) (a.Meet q item) (Continues a q word) (d.first q)
    (d.meet q item) (decided_on a d q word)))

-- a state of either
decided_some : (A B : Type 0) (P : A ⊎ B → Type 0) → Decided ((p : A) × P (inl p))
    → Decided ((q : B) × P (inr q)) → Decided ((p : A ⊎ B) × P p)
decided_some A B P (inl (p, holds)) other = inl (inl p, holds)
decided_some A B P (inr fails) (inl (q, holds)) = inl (inr q, holds)
decided_some A B P (inr fails) (inr fails_too) = inr (λ some. neither some.0 some.1)
  where
    neither : (p : A ⊎ B) → P p → ⊥
    neither (inl p) holds = fails (p, holds)
    neither (inr q) holds = fails_too (q, holds)

-- the relations of a sequence
decided_sequence : (a b : Automaton) → IsDecided a → IsDecided b → IsDecided (of_sequence a b)
decided_sequence a b da db = record {
  some = λ P each. decided_some a.State b.State P
      (da.some (λ p. P (inl p)) (λ p. each (inl p))) (db.some (λ q. P (inr q)) (λ q. each (inr q)));
  first = first;
  last = last;
  follow = follow;
  meet = meet;
}
  where
    first : (p : a.State ⊎ b.State) → Decided ((of_sequence a b).First p)
    first (inl p) = da.first p
    first (inr q) =
        decided_both (a.nullable ≡ true) (b.First q) (decided_test a.nullable) (db.first q)

    last : (p : a.State ⊎ b.State) → Decided ((of_sequence a b).Last p)
    last (inl p) = decided_both (a.Last p) (b.nullable ≡ true) (da.last p) (decided_test b.nullable)
    last (inr q) = db.last q

    follow : (p q : a.State ⊎ b.State) → Decided ((of_sequence a b).Follow p q)
    follow (inl p) (inl q) = da.follow p q
    follow (inl p) (inr q) = decided_both (a.Last p) (b.First q) (da.last p) (db.first q)
    follow (inr p) (inl q) = inr (λ none. none)
    follow (inr p) (inr q) = db.follow p q

    meet : (p : a.State ⊎ b.State) (item : List Field) → Decided ((of_sequence a b).Meet p item)
    meet (inl p) item = da.meet p item
    meet (inr q) item = db.meet q item

-- the relations of a choice
decided_choice : (a b : Automaton) → IsDecided a → IsDecided b → IsDecided (of_choice a b)
decided_choice a b da db = record {
  some = λ P each. decided_some a.State b.State P
      (da.some (λ p. P (inl p)) (λ p. each (inl p))) (db.some (λ q. P (inr q)) (λ q. each (inr q)));
  first = first;
  last = last;
  follow = follow;
  meet = meet;
}
  where
    first : (p : a.State ⊎ b.State) → Decided ((of_choice a b).First p)
    first (inl p) = da.first p
    first (inr q) = db.first q

    last : (p : a.State ⊎ b.State) → Decided ((of_choice a b).Last p)
    last (inl p) = da.last p
    last (inr q) = db.last q

    follow : (p q : a.State ⊎ b.State) → Decided ((of_choice a b).Follow p q)
    follow (inl p) (inl q) = da.follow p q
    follow (inl p) (inr q) = inr (λ none. none)
    follow (inr p) (inl q) = inr (λ none. none)
    follow (inr p) (inr q) = db.follow p q

    meet : (p : a.State ⊎ b.State) (item : List Field) → Decided ((of_choice a b).Meet p item)
    meet (inl p) item = da.meet p item
    meet (inr q) item = db.meet q item

-- those of the automaton of a rate
decided_automaton : (rate : Regex) → IsDecided (automaton_of rate)
decided_automaton empty = record {
  some = λ P each. inr (λ some. some.0);
  first = λ p. absurd p;
  last = λ p. absurd p;
  follow = λ p q. absurd p;
  meet = λ p item. absurd p;
}
decided_automaton (one pred) = record {
  some = λ P each. decided_as (P tt) ((p : Unit {0}) × P p) (λ holds. (tt, holds))
      (λ some. some.1) (each tt);
  first = λ p. inl tt;
  last = λ p. inl tt;
  follow = λ p q. inr (λ none. none);
  meet = λ p item. decided_test (holds pred item);
}
decided_automaton (sequence first second) =
    decided_sequence (automaton_of first) (automaton_of second) (decided_automaton first)
    (decided_automaton second)
decided_automaton (choice first second) =
    decided_choice (automaton_of first) (automaton_of second) (decided_automaton first)
    (decided_automaton second)
decided_automaton (star inner) =
    let a = automaton_of inner in
    let d = decided_automaton inner in
    record {
      some = d.some;
      first = d.first;
      last = d.last;
      follow = λ p q. decided_either (a.Follow p q) (a.Last p × a.First q) (d.follow p q)
          (decided_both (a.Last p) (a.First q) (d.last p) (d.first q));
      meet = d.meet;
    }

-- each word is in a rate or is not
pub in_or_not : (rate : Regex) (word : Word) → In rate word ⊎ (In rate word → ⊥)
in_or_not rate word =
    decided_as (Accepts (automaton_of rate) word) (In rate word) (accepted_in rate word)
    (in_accepted rate word) (decided_word (automaton_of rate) (decided_automaton rate) word)
