-- The states of the automaton of a rate, numbered from left to right.
use Rattle.std.proofs.Common.{◌≡◌, ◌⊎◌, inl, inr, ℕ, ◌+◌, ◌<◌, ◌≤◌, refl, ap, arith}
use Rattle.rate_expr.specs.Rates.{Regex, empty, one, sequence, choice, star, size_of}
use Rattle.rate_expr.proofs.Automata.{automaton_of}

-- the number of a state of either
abbrev pub either_number : (A B : Type 0) → (A → ℕ) → (B → ℕ) → A ⊎ B → ℕ
either_number A B f g (inl p) = f p
either_number A B f g (inr q) = g q

-- the number of a state, from a number on
abbrev pub number_of : (rate : Regex) → ℕ → (automaton_of rate).State → ℕ
number_of empty base p = base
number_of (one pred) base p = base
number_of (sequence first second) base p =
    either_number (automaton_of first).State (automaton_of second).State
    (number_of first base) (number_of second (base + size_of first)) p
number_of (choice first second) base p =
    either_number (automaton_of first).State (automaton_of second).State
    (number_of first base) (number_of second (base + size_of first)) p
number_of (star inner) base p = number_of inner base p

-- a number from the one on and below the other
abbrev Within : ℕ → ℕ → ℕ → Type 0
Within low high n = (low ≤ n) × (n < high)

-- the numbers of two parts lie one after the other
either_within : (A B : Type 0) (f : A → ℕ) (g : B → ℕ) (low middle high : ℕ) → low ≤ middle
    → middle ≤ high → ((p : A) → Within low middle (f p)) → ((q : B) → Within middle high (g q))
    → (p : A ⊎ B) → Within low high (either_number A B f g p)
either_within A B f g low middle high up on left right (inl p) =
    let at = left p in (at.0, omega arith)
either_within A B f g low middle high up on left right (inr q) =
    let at = right q in (omega arith, at.1)

-- the numbers are this many from the base on
pub number_within : (rate : Regex) (base : ℕ) (p : (automaton_of rate).State)
    → (base ≤ number_of rate base p) × (number_of rate base p < base + size_of rate)
number_within empty base p = absurd p
number_within (one pred) base p = (omega arith, omega arith)
number_within (sequence first second) base p =
    either_within (automaton_of first).State (automaton_of second).State
    (number_of first base) (number_of second (base + size_of first))
    base (base + size_of first) (base + (size_of first + size_of second))
    (omega arith) (omega arith) (number_within first base)
    (λ q. let at = number_within second (base + size_of first) q in (at.0, omega arith)) p
number_within (choice first second) base p =
    either_within (automaton_of first).State (automaton_of second).State
    (number_of first base) (number_of second (base + size_of first))
    base (base + size_of first) (base + (size_of first + size_of second))
    (omega arith) (omega arith) (number_within first base)
    (λ q. let at = number_within second (base + size_of first) q in (at.0, omega arith)) p
number_within (star inner) base p = number_within inner base p

-- states with one number are one state
abbrev AreApart : (A : Type 0) → (A → ℕ) → Type 0
AreApart A f = (p q : A) → f p ≡ f q → p ≡ q

-- those of two parts
either_apart : (A B : Type 0) (f : A → ℕ) (g : B → ℕ) (middle : ℕ)
    → ((p : A) → f p < middle) → ((q : B) → middle ≤ g q) → AreApart A f → AreApart B g
    → AreApart (A ⊎ B) (either_number A B f g)
either_apart A B f g middle below above left right (inl p) (inl q) same = ap inl (left p q same)
either_apart A B f g middle below above left right (inl p) (inr q) same =
    let lower = below p in let higher = above q in absurd (omega arith)
either_apart A B f g middle below above left right (inr p) (inl q) same =
    let lower = below q in let higher = above p in absurd (omega arith)
either_apart A B f g middle below above left right (inr p) (inr q) same = ap inr (right p q same)

-- those of a rate
pub number_apart : (rate : Regex) (base : ℕ) (p q : (automaton_of rate).State)
    → number_of rate base p ≡ number_of rate base q → p ≡ q
number_apart empty base p q same = absurd p
number_apart (one pred) base p q same = refl
number_apart (sequence first second) base p q same =
    either_apart (automaton_of first).State (automaton_of second).State
    (number_of first base) (number_of second (base + size_of first)) (base + size_of first)
    (λ p. (number_within first base p).1) (λ q. (number_within second (base + size_of first) q).0)
    (number_apart first base) (number_apart second (base + size_of first)) p q same
number_apart (choice first second) base p q same =
    either_apart (automaton_of first).State (automaton_of second).State
    (number_of first base) (number_of second (base + size_of first)) (base + size_of first)
    (λ p. (number_within first base p).1) (λ q. (number_within second (base + size_of first) q).0)
    (number_apart first base) (number_apart second (base + size_of first)) p q same
number_apart (star inner) base p q same = number_apart inner base p q same
