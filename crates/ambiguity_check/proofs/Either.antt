-- Facts of two parts, each of which is said in another way.
use Rattle.std.proofs.Common.{ℕ, ◌≡◌, ◌⊎◌, ◌↔◌, Bool, true, false, Option, IsTrue, refl, inl, inr}
use Rattle.std.proofs.Common.{⊎_elim}
use Rattle.std.specs.Bool.{then_some}
use Rattle.std.specs.Prelude.{IsSomeAnd}
use Rattle.rate_expr.specs.Sets.{Has}

-- two facts that are said in another way are so together
pub each_way : {A B C D : Type 0} → (A ↔ C) → (B ↔ D) → (A ⊎ B) ↔ (C ⊎ D)
each_way one two = (
  (λ e. ⊎_elim (λ a. inl (one.0 a)) (λ b. inr (two.0 b)) e),
  (λ e. ⊎_elim (λ c. inl (one.1 c)) (λ d. inr (two.1 d)) e),
)

-- so are two conditions under a third
pub both_ways : {P A B C D : Type 0} → (A ↔ C) → (B ↔ D) → (P × A × B) ↔ (P × C × D)
both_ways one two = ((λ e. (e.0, one.0 e.1, two.0 e.2)), (λ e. (e.0, one.1 e.1, two.1 e.2)))

-- one part, where the other cannot be
pub only_way : {A C : Type 0} → (A ↔ C) → (A ⊎ ⊥) ↔ C
only_way one = ((λ e. ⊎_elim (λ a. one.0 a) absurd e), (λ c. inl (one.1 c)))

-- from several places on the right, where what is asked of the right is asked of one of them
pub from_some : {P A C B : Type 0} (mask : ℕ) (R : ℕ → Type 0) → (A ↔ C)
    → (B ↔ ((right : ℕ) × Has mask right × R right))
    → (P × A × B) ↔ ((right : ℕ) × Has mask right × (P × C × R right))
from_some mask R one two = (
  (λ e. let right = two.0 e.2 in (right.0, right.1, (e.0, one.0 e.1, right.2))),
  (λ e. (e.2.0, one.1 e.2.1, two.1 (e.0, e.1, e.2.2))),
)

-- from several places on the right in one of two ways
pub some_each : {A B : Type 0} (mask : ℕ) (R S : ℕ → Type 0)
    → (A ↔ ((right : ℕ) × Has mask right × R right))
    → (B ↔ ((right : ℕ) × Has mask right × S right))
    → (A ⊎ B) ↔ ((right : ℕ) × Has mask right × (R right ⊎ S right))
some_each mask R S one two = (
  (λ e. ⊎_elim (λ a. let some = one.0 a in (some.0, some.1, inl some.2))
      (λ b. let some = two.0 b in (some.0, some.1, inr some.2)) e),
  (λ some. ⊎_elim (λ r. inl (one.1 (some.0, some.1, r))) (λ s. inr (two.1 (some.0, some.1, s)))
      some.2),
)

-- what a test allows
pub then_says : {A C : Type 0} (test : Bool) (step : A) (turn : Option A) (Q : A → Type 0)
    → turn ≡ then_some test step → (IsTrue test ↔ C) → IsSomeAnd turn Q ↔ (C × Q step)
then_says true step turn Q is says = rw is ((λ q. (says.0 refl, q)), (λ e. e.1))
then_says false step turn Q is says = rw is (absurd, (λ e. let not' = says.1 e.0 in absurd (cc)))

-- what a test allows, from several places on the right
pub turn_from_some : {T C P A B : Type 0} (mask : ℕ) (R : ℕ → Type 0) → (T ↔ (C × (P × A × B)))
    → (B ↔ ((right : ℕ) × Has mask right × R right))
    → T ↔ ((right : ℕ) × Has mask right × (C × P × A × R right))
turn_from_some mask R one two = (
  (λ t. let e = one.0 t in let right = two.0 e.1.2 in
      (right.0, right.1, (e.0, e.1.0, e.1.1, right.2))),
  (λ e. one.1 (e.2.0, (e.2.1, e.2.2, two.1 (e.0, e.1, e.2.3)))),
)
