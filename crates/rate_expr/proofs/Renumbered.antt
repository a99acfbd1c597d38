-- The positions of a rate, numbered from a number on and from 0 on.
use Rattle.std.proofs.Common.{◌≡◌, ◌⊎◌, inl, inr, ℕ, ◌+◌, ◌↔◌, refl, sym, ap, ◌∙◌, arith}
use Rattle.rate_expr.specs.FirstLastFollow.{IsFirst, IsLast, IsFollowedBy}
use Rattle.rate_expr.specs.Rates.{Regex, empty, one, sequence, choice, star, size_of}
use Rattle.rate_expr.proofs.Automata.{automaton_of}
use Rattle.rate_expr.proofs.Numbers.{either_number, number_of}
use Rattle.rate_expr.proofs.Textbook.{IsNumberOf, first_as, last_as, follow_as}

-- the numbers of the states of two parts
either_from : (A B : Type 0) (f f' : A → ℕ) (g g' : B → ℕ) (base : ℕ)
    → ((p : A) → f p ≡ base + f' p) → ((q : B) → g q ≡ base + g' q)
    → (p : A ⊎ B) → either_number A B f g p ≡ base + either_number A B f' g' p
either_from A B f f' g g' base left right (inl p) = left p
either_from A B f f' g g' base left right (inr q) = right q

-- a number from a base on of what is numbered from further on
further : (base size n m k : ℕ) → n ≡ (base + size) + k → m ≡ (0 + size) + k → n ≡ base + m
further base size n m k is also = omega arith

-- each state has its number that much higher
number_from : (rate : Regex) (base : ℕ) (p : (automaton_of rate).State)
    → number_of rate base p ≡ base + number_of rate 0 p
number_from empty base p = absurd p
number_from (one pred) base p = omega arith
number_from (sequence r s) base p =
    either_from (automaton_of r).State (automaton_of s).State (number_of r base) (number_of r 0)
    (number_of s (base + size_of r)) (number_of s (0 + size_of r)) base (number_from r base)
    (λ q. further base (size_of r) (number_of s (base + size_of r) q)
    (number_of s (0 + size_of r) q) (number_of s 0 q) (number_from s (base + size_of r) q)
    (number_from s (0 + size_of r) q)) p
number_from (choice r s) base p =
    either_from (automaton_of r).State (automaton_of s).State (number_of r base) (number_of r 0)
    (number_of s (base + size_of r)) (number_of s (0 + size_of r)) base (number_from r base)
    (λ q. further base (size_of r) (number_of s (base + size_of r) q)
    (number_of s (0 + size_of r) q) (number_of s 0 q) (number_from s (base + size_of r) q)
    (number_from s (0 + size_of r) q)) p
number_from (star inner) base p = number_from inner base p

-- a position that is higher by this much than one of which it holds
abbrev pub IsFrom : (ℕ → ℕ → Type 0) → ℕ → ℕ → Type 0
IsFrom Is base m = (n : ℕ) × (base + n ≡ m) × Is 0 n

-- what holds of the numbers of these states
holds_from : (rate : Regex) (P : (automaton_of rate).State → Type 0) (Is : ℕ → ℕ → Type 0)
    → ((base n : ℕ) → IsNumberOf (automaton_of rate).State (number_of rate base) P n ↔ Is base n)
    → (base m : ℕ) → Is base m ↔ IsFrom Is base m
holds_from rate P Is same base m = (there, back)
  where
    there : Is base m → IsFrom Is base m
    there holds =
        let p = (same base m).1 holds in (
          number_of rate 0 p.0,
          sym (number_from rate base p.0) ∙ p.1,
          (same 0 (number_of rate 0 p.0)).0 (p.0, refl, p.2),
        )

    back : IsFrom Is base m → Is base m
    back (n, at, holds) =
        let p = (same 0 n).1 holds in
        (same base m).0 (p.0, number_from rate base p.0 ∙ ap (λ (k : ℕ). base + k) p.1 ∙ at, p.2)

-- words begin
pub first_from : (rate : Regex) (base m : ℕ)
    → IsFirst rate base m ↔ IsFrom (IsFirst rate) base m
first_from rate base m =
    holds_from rate (automaton_of rate).First (IsFirst rate) (first_as rate) base m

-- they end
pub last_from : (rate : Regex) (base m : ℕ)
    → IsLast rate base m ↔ IsFrom (IsLast rate) base m
last_from rate base m =
    holds_from rate (automaton_of rate).Last (IsLast rate) (last_as rate) base m

-- two positions, higher by this much than one and the next
abbrev pub IsStepFrom : Regex → ℕ → ℕ → ℕ → Type 0
IsStepFrom rate base i m =
    (j : ℕ) × (n : ℕ) × (base + j ≡ i) × (base + n ≡ m) × IsFollowedBy rate 0 j n

-- they continue
pub follow_from : (rate : Regex) (base i m : ℕ)
    → IsFollowedBy rate base i m ↔ IsStepFrom rate base i m
follow_from rate base i m = (there, back)
  where
    there : IsFollowedBy rate base i m → IsStepFrom rate base i m
    there holds =
        let p = (follow_as rate base i m).1 holds in (
          number_of rate 0 p.0,
          number_of rate 0 p.1,
          sym (number_from rate base p.0) ∙ p.2,
          sym (number_from rate base p.1) ∙ p.3,
          (follow_as rate 0 (number_of rate 0 p.0) (number_of rate 0 p.1)).0
              (p.0, p.1, refl, refl, p.4),
        )

    back : IsStepFrom rate base i m → IsFollowedBy rate base i m
    back (j, n, at, next, holds) =
        let p = (follow_as rate 0 j n).1 holds in
        (follow_as rate base i m).0 (
          p.0,
          p.1,
          number_from rate base p.0 ∙ ap (λ (k : ℕ). base + k) p.2 ∙ at,
          number_from rate base p.1 ∙ ap (λ (k : ℕ). base + k) p.3 ∙ next,
          p.4,
        )
