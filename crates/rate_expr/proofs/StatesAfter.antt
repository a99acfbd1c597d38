-- After each word there is a state, and only one.
use Rattle.std.proofs.Common.{◌≡◌, ◌⊎◌, inl, inr, ℕ, zero, suc, ◌^◌, ◌<◌, ◌≤◌, ◌↔◌, true, List, []}
use Rattle.std.proofs.Common.{◌∷◌, length, bit_or, refl, sym, ap, subst, arith}
use Rattle.std.proofs.Math.Nat.{eq-or-lt_of_le}
use Rattle.std.proofs.lemmas.Bool.Decides.{eqb_tells}
use Rattle.value_ops.specs.declared.field.Field.{Field}
use Rattle.predicates.specs.Predicates.{Predicate}
use Rattle.predicates.specs.Truth.{holds}
use Rattle.rate_expr.specs.After.{IsStateOf, IsAfter}
use Rattle.rate_expr.specs.Paths.{Follows, Meets, LeadsOn, Leads}
use Rattle.rate_expr.specs.Sets.{Sets, Has}
use Rattle.rate_expr.specs.Words.{Word}
use Rattle.rate_expr.specs.declared.state.State.{State}
use Rattle.rate_expr.specs.declared.state.State.TheVariants.{Initial, At}
use Rattle.rate_expr.proofs.Deciding.{Decided, decided_as, decided_three, decided_test}
use Rattle.rate_expr.proofs.Linking.{Goes}
use Rattle.rate_expr.proofs.MaskMembers.{has_zero, has_one, has_only_one, has_or, has_first}
use Rattle.rate_expr.proofs.MaskMembers.{has_second}
use Rattle.rate_expr.proofs.MaskSets.{below-has, same-has}
use Rattle.rate_expr.proofs.Meetings.{MeetsAt}
use Rattle.rate_expr.proofs.PathSteps.{meets_below, leads_below}

-- whether two numbers are one is decided
decided_same : (m n : ℕ) → Decided (m ≡ n)
decided_same m n = elim (eqb_tells m n) [ inl same ↦ inl same.1 | inr other ↦ inr other.1 ]

-- whether words continue
decided_goes : (masks : List ℕ) (before next : ℕ) → Decided (Goes masks before next)
decided_goes [] before next = inr none
  where
    none : Goes [] before next → ⊥
    none (mask, is, has) = cc
decided_goes (mask ∷ masks) zero next =
    decided_as (Has mask next) (Goes (mask ∷ masks) zero next) (λ has. (mask, refl, has)) here
    (decided_same _ 1)
  where
    here : Goes (mask ∷ masks) zero next → Has mask next
    here (other, is, has) = let same : other ≡ mask = cc in subst (λ (m : ℕ). Has m next) same has
decided_goes (mask ∷ masks) (suc before) next = decided_goes masks before next

-- whether an item meets a position
decided_meets : (preds : List Predicate) (position : ℕ) (item : List Field)
    → Decided (MeetsAt preds position item)
decided_meets [] position item = inr none
  where
    none : MeetsAt [] position item → ⊥
    none (pred, is, meet) = cc
decided_meets (pred ∷ preds) zero item =
    decided_as (holds pred item ≡ true) (MeetsAt (pred ∷ preds) zero item)
    (λ meet. (pred, refl, meet)) here (decided_test (holds pred item))
  where
    here : MeetsAt (pred ∷ preds) zero item → holds pred item ≡ true
    here (other, is, meet) = let same : other ≡ pred = cc in
        subst (λ (p : Predicate). holds p item ≡ true) same meet
decided_meets (pred ∷ preds) (suc position) item = decided_meets preds position item

-- one below the next number is that number or below it
this_or_below : (i n : ℕ) → i < suc n → (i ≡ n) ⊎ (i < n)
this_or_below i n below = let most : i ≤ n = omega arith in eq-or-lt_of_le most

-- whether some number below a bound has a decided property
some_below : (bound : ℕ) (P : ℕ → Type 0) → ((i : ℕ) → Decided (P i))
    → Decided ((i : ℕ) × (i < bound) × P i)
some_below zero P each = inr (λ some. let below = some.1 in omega arith)
some_below (suc bound) P each = elim (each bound) [
  | inl holds ↦ inl (bound, omega arith, holds)
  | inr fails ↦ decided_as ((i : ℕ) × (i < bound) × P i) ((i : ℕ) × (i < suc bound) × P i)
      (λ some. let below = some.1 in (some.0, omega arith, some.2))
      (λ some. elim (this_or_below some.0 bound some.1) [
        | inl same ↦ absurd (fails (subst P same some.2))
        | inr below ↦ (some.0, below, some.2)
      ])
      (some_below bound P each)
]

-- the mask of the numbers below a bound that have a decided property
mask_of : (bound : ℕ) (P : ℕ → Type 0) → ((i : ℕ) → Decided (P i))
    → (mask : ℕ) × ((i : ℕ) → Has mask i ↔ ((i < bound) × P i))
mask_of zero P each =
    (0, λ i. (λ has. absurd (has_zero i has), λ both. let below = both.0 in absurd (omega arith)))
mask_of (suc bound) P each =
    let rest = mask_of bound P each in
    elim (each bound) [
      | inl holds ↦ (
        bit_or rest.0 (2 ^ bound),
        λ i. (
          λ has. elim (has_or rest.0 (2 ^ bound) i has) [
            | inl before ↦ let is = (rest.1 i).0 before in let below = is.0 in (omega arith, is.1)
            | inr one ↦ let same = has_only_one bound i one in (omega arith, subst P same holds)
          ],
          λ both. elim (this_or_below i bound both.0) [
            | inl same ↦ has_second rest.0 (2 ^ bound) i
                (subst (λ (n : ℕ). Has (2 ^ bound) n) (sym same) (has_one bound))
            | inr below ↦ has_first rest.0 (2 ^ bound) i ((rest.1 i).1 (below, both.1))
          ],
        ),
      )
      | inr fails ↦ (
        rest.0,
        λ i. (
          λ has. let is = (rest.1 i).0 has in let below = is.0 in (omega arith, is.1),
          λ both. elim (this_or_below i bound both.0) [
            | inl same ↦ absurd (fails (subst P same both.1))
            | inr below ↦ (rest.1 i).1 (below, both.1)
          ],
        ),
      )
    ]

-- whether a path after a position is spelled by a word
decided_on : (sets : Sets) (from : ℕ) (word : Word) (to : ℕ) → Decided (LeadsOn sets from word to)
decided_on sets from [] to = decided_same from to
decided_on sets from (item ∷ word) to =
    let Next : ℕ → Type 0 =
    λ next. Follows sets from next × Meets sets next item × LeadsOn sets next word to in
    decided_as ((next : ℕ) × (next < length sets.preds) × Next next)
    (LeadsOn sets from (item ∷ word) to) (λ some. (some.0, some.2.0, some.2.1, some.2.2))
    (λ on. (on.0, meets_below sets on.0 item on.2, (on.1, on.2, on.3)))
    (some_below (length sets.preds) Next (λ next.
    decided_three (Follows sets from next) (Meets sets next item) (LeadsOn sets next word to)
    (decided_goes sets.follow from next) (decided_meets sets.preds next item)
    (decided_on sets next word to)))

-- and one from the beginning
decided_leads : (sets : Sets) (word : Word) (to : ℕ) → Decided (Leads sets word to)
decided_leads sets [] to = inr (λ none. none)
decided_leads sets (item ∷ word) to =
    let Begin : ℕ → Type 0 =
    λ begin. Has sets.first begin × Meets sets begin item × LeadsOn sets begin word to in
    decided_as ((begin : ℕ) × (begin < length sets.preds) × Begin begin)
    (Leads sets (item ∷ word) to) (λ some. (some.0, some.2.0, some.2.1, some.2.2))
    (λ on. (on.0, meets_below sets on.0 item on.2, (on.1, on.2, on.3)))
    (some_below (length sets.preds) Begin (λ begin.
    decided_three (Has sets.first begin) (Meets sets begin item) (LeadsOn sets begin word to)
    (decided_same _ 1) (decided_meets sets.preds begin item) (decided_on sets begin word to)))

-- there is a state after each word
pub some_after : (sets : Sets) (word : Word) → (state : State) × IsAfter sets word state
some_after sets [] = (Initial, tt)
some_after sets (item ∷ word) =
    let made = mask_of (length sets.preds) (λ to. Leads sets (item ∷ word) to)
    (decided_leads sets (item ∷ word)) in (
      At made.0,
      λ to. (
        λ has. ((made.1 to).0 has).1,
        λ leads. (made.1 to).1 (leads_below sets (item ∷ word) to leads, leads),
      ),
    )

-- whose positions exist
pub after_exists : (sets : Sets) (word : Word) (state : State) → IsAfter sets word state
    → IsStateOf sets state
after_exists sets word Initial after = tt
after_exists sets [] (At mask) after = absurd after
after_exists sets (item ∷ word) (At mask) after =
    below-has mask (length sets.preds)
    (λ to has. leads_below sets (item ∷ word) to ((after to).0 has))

-- and no other
pub one_after : (sets : Sets) (word : Word) (state other : State) → IsAfter sets word state
    → IsAfter sets word other → other ≡ state
one_after sets [] Initial Initial after also = refl
one_after sets [] Initial (At mask) after also = absurd also
one_after sets [] (At mask) other after also = absurd after
one_after sets (item ∷ word) Initial other after also = absurd after
one_after sets (item ∷ word) (At mask) Initial after also = absurd also
one_after sets (item ∷ word) (At mask) (At other) after also = ap At (same-has other mask (λ to. (
  λ has. (after to).1 ((also to).0 has),
  λ has. (also to).1 ((after to).0 has),
)))
