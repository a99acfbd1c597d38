-- What a textbook says of the positions of a rate, its automaton says of their states.
use Rattle.std.proofs.Common.{◌≡◌, ◌⊎◌, inl, inr, ℕ, ◌+◌, ◌↔◌, ◌&&◌, ◌||◌, Bool, true, refl}
use Rattle.rate_expr.specs.FirstLastFollow.{IsNullable, IsFirst, IsLast, IsFollowedBy}
use Rattle.rate_expr.specs.Rates.{Regex, empty, one, sequence, choice, star, size_of}
use Rattle.rate_expr.proofs.Automata as automata
use Rattle.rate_expr.proofs.Automata.{Automaton, automaton_of}
use Rattle.rate_expr.proofs.Choices.{either, or_first, or_second}
use Rattle.rate_expr.proofs.Ends.{as_it_is}
use Rattle.rate_expr.proofs.Follows.{Step}
use Rattle.rate_expr.proofs.Numbers.{either_number, number_of}
use Rattle.rate_expr.proofs.Sequences.{both, and_both}

-- the number is that of a state of which it holds
abbrev pub IsNumberOf : (A : Type 0) → (A → ℕ) → (A → Type 0) → ℕ → Type 0
IsNumberOf A number P n = (p : A) × (number p ≡ n) × P p

-- either of two tests holds where either of two facts does
pub test_either : (x y : Bool) (X Y : Type 0) → (x ≡ true) ↔ X → (y ≡ true) ↔ Y
    → ((x || y) ≡ true) ↔ (X ⊎ Y)
test_either x y X Y left right = (λ is. to (either x y is), from)
  where
    to : (x ≡ true) ⊎ (y ≡ true) → X ⊎ Y
    to (inl is) = inl (left.0 is)
    to (inr is) = inr (right.0 is)

    from : X ⊎ Y → (x || y) ≡ true
    from (inl holds) = or_first x y (left.1 holds)
    from (inr holds) = or_second x y (right.1 holds)

-- both where both do
pub test_both : (x y : Bool) (X Y : Type 0) → (x ≡ true) ↔ X → (y ≡ true) ↔ Y
    → ((x && y) ≡ true) ↔ (X × Y)
test_both x y X Y left right = (
  λ is. let each = both x y is in (left.0 each.0, right.0 each.1),
  λ each. and_both x y (left.1 each.0) (right.1 each.1),
)

-- the number of a state of either of two
number_in_either : (A B : Type 0) (f : A → ℕ) (g : B → ℕ) (P : A → Type 0) (Q : B → Type 0)
    (R : A ⊎ B → Type 0) (n : ℕ) (X Y : Type 0) → ((p : A) → R (inl p) ↔ P p)
    → ((q : B) → R (inr q) ↔ Q q) → IsNumberOf A f P n ↔ X → IsNumberOf B g Q n ↔ Y
    → IsNumberOf (A ⊎ B) (either_number A B f g) R n ↔ (X ⊎ Y)
number_in_either A B f g P Q R n X Y left right in_a in_b = (to, from)
  where
    to : IsNumberOf (A ⊎ B) (either_number A B f g) R n → X ⊎ Y
    to (inl p, at, holds) = inl (in_a.0 (p, at, (left p).0 holds))
    to (inr q, at, holds) = inr (in_b.0 (q, at, (right q).0 holds))

    from : X ⊎ Y → IsNumberOf (A ⊎ B) (either_number A B f g) R n
    from (inl x) = let p = in_a.1 x in (inl p.0, p.1, (left p.0).1 p.2)
    from (inr y) = let q = in_b.1 y in (inr q.0, q.1, (right q.0).1 q.2)

-- with a fact that says nothing of the state
number_with : (A : Type 0) (f : A → ℕ) (P : A → Type 0) (n : ℕ) (fact X Y : Type 0) → fact ↔ X
    → IsNumberOf A f P n ↔ Y → IsNumberOf A f (λ p. fact × P p) n ↔ (X × Y)
number_with A f P n fact X Y is in_a = (
  λ some. (is.0 some.2.0, in_a.0 (some.0, some.1, some.2.1)),
  λ each. let p = in_a.1 each.1 in (p.0, p.1, (is.1 each.0, p.2)),
)

-- and the other way round
with_number : (A : Type 0) (f : A → ℕ) (P : A → Type 0) (n : ℕ) (fact X Y : Type 0) → fact ↔ X
    → IsNumberOf A f P n ↔ Y → IsNumberOf A f (λ p. P p × fact) n ↔ (Y × X)
with_number A f P n fact X Y is in_a = (
  λ some. (in_a.0 (some.0, some.1, some.2.0), is.0 some.2.1),
  λ each. let p = in_a.1 each.0 in (p.0, p.1, (p.2, is.1 each.1)),
)

-- the steps of either of two automata
steps_in_either : (a b : Automaton) (f : a.State → ℕ) (g : b.State → ℕ) (i n : ℕ) (X Y : Type 0)
    → Step a f i n ↔ X → Step b g i n ↔ Y
    → Step (automata.of_choice a b) (either_number a.State b.State f g) i n ↔ (X ⊎ Y)
steps_in_either a b f g i n X Y in_a in_b = (to, from)
  where
    to : Step (automata.of_choice a b) (either_number a.State b.State f g) i n → X ⊎ Y
    to (inl p, inl q, at, at_next, follow) = inl (in_a.0 (p, q, at, at_next, follow))
    to (inl p, inr q, at, at_next, follow) = absurd follow
    to (inr p, inl q, at, at_next, follow) = absurd follow
    to (inr p, inr q, at, at_next, follow) = inr (in_b.0 (p, q, at, at_next, follow))

    from : X ⊎ Y → Step (automata.of_choice a b) (either_number a.State b.State f g) i n
    from (inl x) = let step = in_a.1 x in (inl step.0, inl step.1, step.2, step.3, step.4)
    from (inr y) = let step = in_b.1 y in (inr step.0, inr step.1, step.2, step.3, step.4)

-- those of a sequence, with those from the one to the other
steps_in_sequence : (a b : Automaton)
    (f : a.State → ℕ) (g : b.State → ℕ) (i n : ℕ) (X Y L F : Type 0) → Step a f i n ↔ X
    → Step b g i n ↔ Y → IsNumberOf a.State f a.Last i ↔ L → IsNumberOf b.State g b.First n ↔ F
    → Step (automata.of_sequence a b) (either_number a.State b.State f g) i n ↔ ((X ⊎ Y) ⊎ (L × F))
steps_in_sequence a b f g i n X Y L F in_a in_b last first = (to, from)
  where
    to : Step (automata.of_sequence a b) (either_number a.State b.State f g) i n → (X ⊎ Y) ⊎ (L × F)
    to (inl p, inl q, at, at_next, follow) = inl (inl (in_a.0 (p, q, at, at_next, follow)))
    to (inl p, inr q, at, at_next, (ends, begins)) =
        inr (last.0 (p, at, ends), first.0 (q, at_next, begins))
    to (inr p, inl q, at, at_next, follow) = absurd follow
    to (inr p, inr q, at, at_next, follow) = inl (inr (in_b.0 (p, q, at, at_next, follow)))

    from : (X ⊎ Y) ⊎ (L × F)
        → Step (automata.of_sequence a b) (either_number a.State b.State f g) i n
    from (inl (inl x)) = let step = in_a.1 x in (inl step.0, inl step.1, step.2, step.3, step.4)
    from (inl (inr y)) = let step = in_b.1 y in (inr step.0, inr step.1, step.2, step.3, step.4)
    from (inr (ends, begins)) =
        let p = last.1 ends in let q = first.1 begins in (inl p.0, inr q.0, p.1, q.1, (p.2, q.2))

-- and those of a star, with those from its ends to its beginnings
steps_in_star : (a : Automaton) (f : a.State → ℕ) (i n : ℕ) (X L F : Type 0)
    → Step a f i n ↔ X → IsNumberOf a.State f a.Last i ↔ L → IsNumberOf a.State f a.First n ↔ F
    → Step (automata.of_star a) f i n ↔ (X ⊎ (L × F))
steps_in_star a f i n X L F in_a last first = (to, from)
  where
    to : Step (automata.of_star a) f i n → X ⊎ (L × F)
    to (p, q, at, at_next, inl follow) = inl (in_a.0 (p, q, at, at_next, follow))
    to (p, q, at, at_next, inr (ends, begins)) =
        inr (last.0 (p, at, ends), first.0 (q, at_next, begins))

    from : X ⊎ (L × F) → Step (automata.of_star a) f i n
    from (inl x) = let step = in_a.1 x in (step.0, step.1, step.2, step.3, inl step.4)
    from (inr (ends, begins)) =
        let p = last.1 ends in let q = first.1 begins in (p.0, q.0, p.1, q.1, inr (p.2, q.2))

-- the empty word is accepted
pub nullable_as : (rate : Regex) → ((automaton_of rate).nullable ≡ true) ↔ IsNullable rate
nullable_as empty = (λ is. tt, λ is. refl)
nullable_as (one pred) = (λ is. cc, λ none. absurd none)
nullable_as (sequence r s) =
    test_both (automaton_of r).nullable (automaton_of s).nullable (IsNullable r) (IsNullable s)
    (nullable_as r) (nullable_as s)
nullable_as (choice r s) =
    test_either (automaton_of r).nullable (automaton_of s).nullable (IsNullable r) (IsNullable s)
    (nullable_as r) (nullable_as s)
nullable_as (star inner) = (λ is. tt, λ is. refl)

-- words begin
pub first_as : (rate : Regex) (base n : ℕ)
    → IsNumberOf (automaton_of rate).State (number_of rate base) (automaton_of rate).First n
    ↔ IsFirst rate base n
first_as empty base n = (λ some. absurd some.0, λ none. absurd none)
first_as (one pred) base n = (λ some. some.1, λ is. (tt, is, tt))
first_as (sequence r s) base n =
    let a = automaton_of r in
    let b = automaton_of s in
    let next = base + size_of r in
    number_in_either a.State b.State (number_of r base) (number_of s next) a.First
    (λ q. (a.nullable ≡ true) × b.First q) (automata.of_sequence a b).First n (IsFirst r base n)
    (IsNullable r × IsFirst s next n) (λ p. as_it_is (a.First p))
    (λ q. as_it_is ((a.nullable ≡ true) × b.First q)) (first_as r base n)
    (number_with b.State (number_of s next) b.First n (a.nullable ≡ true) (IsNullable r)
    (IsFirst s next n) (nullable_as r) (first_as s next n))
first_as (choice r s) base n =
    let a = automaton_of r in
    let b = automaton_of s in
    let next = base + size_of r in
    number_in_either a.State b.State (number_of r base) (number_of s next) a.First b.First
    (automata.of_choice a b).First n (IsFirst r base n) (IsFirst s next n)
    (λ p. as_it_is (a.First p)) (λ q. as_it_is (b.First q)) (first_as r base n) (first_as s next n)
first_as (star inner) base n = first_as inner base n

-- they end
pub last_as : (rate : Regex) (base n : ℕ)
    → IsNumberOf (automaton_of rate).State (number_of rate base) (automaton_of rate).Last n
    ↔ IsLast rate base n
last_as empty base n = (λ some. absurd some.0, λ none. absurd none)
last_as (one pred) base n = (λ some. some.1, λ is. (tt, is, tt))
last_as (sequence r s) base n =
    let a = automaton_of r in
    let b = automaton_of s in
    let next = base + size_of r in
    number_in_either a.State b.State (number_of r base) (number_of s next)
    (λ p. a.Last p × (b.nullable ≡ true)) b.Last (automata.of_sequence a b).Last n
    (IsLast r base n × IsNullable s) (IsLast s next n)
    (λ p. as_it_is (a.Last p × (b.nullable ≡ true))) (λ q. as_it_is (b.Last q))
    (with_number a.State (number_of r base) a.Last n (b.nullable ≡ true) (IsNullable s)
    (IsLast r base n) (nullable_as s) (last_as r base n))
    (last_as s next n)
last_as (choice r s) base n =
    let a = automaton_of r in
    let b = automaton_of s in
    let next = base + size_of r in
    number_in_either a.State b.State (number_of r base) (number_of s next) a.Last b.Last
    (automata.of_choice a b).Last n (IsLast r base n) (IsLast s next n)
    (λ p. as_it_is (a.Last p)) (λ q. as_it_is (b.Last q)) (last_as r base n) (last_as s next n)
last_as (star inner) base n = last_as inner base n

-- they continue
pub follow_as : (rate : Regex) (base i n : ℕ)
    → Step (automaton_of rate) (number_of rate base) i n ↔ IsFollowedBy rate base i n
follow_as empty base i n = (λ some. absurd some.0, λ none. absurd none)
follow_as (one pred) base i n = (λ some. absurd some.4, λ none. absurd none)
follow_as (sequence r s) base i n =
    let next = base + size_of r in
    steps_in_sequence (automaton_of r) (automaton_of s) (number_of r base) (number_of s next) i n
    (IsFollowedBy r base i n) (IsFollowedBy s next i n) (IsLast r base i) (IsFirst s next n)
    (follow_as r base i n) (follow_as s next i n) (last_as r base i) (first_as s next n)
follow_as (choice r s) base i n =
    let next = base + size_of r in
    steps_in_either (automaton_of r) (automaton_of s) (number_of r base) (number_of s next) i n
    (IsFollowedBy r base i n) (IsFollowedBy s next i n) (follow_as r base i n)
    (follow_as s next i n)
follow_as (star inner) base i n =
    steps_in_star (automaton_of inner) (number_of inner base) i n (IsFollowedBy inner base i n)
    (IsLast inner base i) (IsFirst inner base n) (follow_as inner base i n) (last_as inner base i)
    (first_as inner base n)
