-- The sets of a rate are those of the textbook, and such sets spell its words.
use Rattle.std.proofs.Common.{◌≡◌, ◌⊎◌, inl, inr, ℕ, ◌↔◌, Bool, true, false, List, [], refl, sym}
use Rattle.std.proofs.Common.{subst}
use Rattle.value_ops.specs.declared.field.Field.{Field}
use Rattle.predicates.specs.Predicates.{Predicate}
use Rattle.rate_expr.specs.FirstLastFollow.{AreSetsOf}
use Rattle.rate_expr.specs.Parts.{part_of, follow_of}
use Rattle.rate_expr.specs.Paths.{AreOf}
use Rattle.rate_expr.specs.Rates.{Regex, preds_of}
use Rattle.rate_expr.specs.Sets.{Sets, Has}
use Rattle.rate_expr.proofs.Automata.{Automaton, automaton_of}
use Rattle.rate_expr.proofs.Ends.{AreIn, is_part}
use Rattle.rate_expr.proofs.Follows.{Step, add_steps}
use Rattle.rate_expr.proofs.Linking.{Goes}
use Rattle.rate_expr.proofs.Meetings.{MeetsAt, add_preds}
use Rattle.rate_expr.proofs.Numbers.{number_of, number_apart}
use Rattle.rate_expr.proofs.Spelled.{Say, spell_exactly}
use Rattle.rate_expr.proofs.Textbook.{IsNumberOf, nullable_as, first_as, last_as, follow_as}

-- the sets of a rate
abbrev pub sets_of : Regex → Sets
sets_of rate =
    let part = part_of rate 0 in
    record {
      nullable = part.nullable;
      first = part.first;
      last = part.last;
      follow = follow_of rate [];
      preds = preds_of rate;
    }

-- nothing continues where there is no mask
step_only : (a : Automaton) (number : a.State → ℕ) (i n : ℕ) → Goes [] i n ⊎ Step a number i n
    → Step a number i n
step_only a number i n (inl (mask, is, has)) = absurd (cc)
step_only a number i n (inr step) = step

-- nothing is met where there is no predicate
meet_only : (A : Type 0) (number : A → ℕ) (Meet : A → List Field → Type 0) (n : ℕ)
    (item : List Field) → MeetsAt [] n item ⊎ ((p : A) × (number p ≡ n) × Meet p item)
    → (p : A) × (number p ≡ n) × Meet p item
meet_only A number Meet n item (inl (pred, is, meet)) = absurd (cc)
meet_only A number Meet n item (inr met) = met

-- the sets of a rate say what its automaton says
sets_say : (rate : Regex) → Say (sets_of rate) (automaton_of rate) (number_of rate 0)
sets_say rate =
    let a = automaton_of rate in
    let part = is_part rate 0 in
    let steps = add_steps rate 0 [] refl in
    let preds = add_preds rate 0 [] refl in
    record {
      nullable = part.nullable;
      first = part.first;
      last = part.last;
      goes = steps.each;
      step = λ i n goes. step_only a (number_of rate 0) i n (steps.only i n goes);
      meets = preds.each;
      meet = λ n item meets. meet_only a.State (number_of rate 0) a.Meet n item
          (preds.only n item meets);
      apart = number_apart rate 0;
    }

-- one fact for another for a third
through : (P Q R : Type 0) → P ↔ Q → Q ↔ R → P ↔ R
through P Q R one other = (λ p. other.0 (one.0 p), λ r. one.1 (other.1 r))

-- a mask has the numbers of these states where it has what is the number of one
numbers_in : (A : Type 0) (number : A → ℕ) (P : A → Type 0) (mask : ℕ) → AreIn A number P mask
    → (n : ℕ) → Has mask n ↔ IsNumberOf A number P n
numbers_in A number P mask are n =
    (are.only n, λ some. subst (λ (m : ℕ). Has mask m) some.1 (are.each some.0 some.2))

in_numbers : (A : Type 0) (number : A → ℕ) (P : A → Type 0) (mask : ℕ)
    → ((n : ℕ) → Has mask n ↔ IsNumberOf A number P n) → AreIn A number P mask
in_numbers A number P mask same = record {
  each = λ p holds. (same (number p)).1 (p, refl, holds);
  only = λ n has. (same n).0 has;
}

-- tests of one fact are equal
pub same_test : (x y : Bool) (P : Type 0) → (x ≡ true) ↔ P → (y ≡ true) ↔ P → x ≡ y
same_test true y P of_x of_y = sym (of_y.1 (of_x.0 refl))
same_test false true P of_x of_y = of_x.1 (of_y.0 refl)
same_test false false P of_x of_y = refl

-- the sets of a rate are those of the textbook
pub are_sets_of : (rate : Regex) → AreSetsOf (sets_of rate) rate
are_sets_of rate =
    let a = automaton_of rate in
    let number = number_of rate 0 in
    let say = sets_say rate in
    let sets = sets_of rate in
    record {
      nullable = through (sets.nullable ≡ true) (a.nullable ≡ true) _
          (subst (λ (b : Bool). (sets.nullable ≡ true) ↔ (b ≡ true)) say.nullable
          (λ is. is, λ is. is))
          (nullable_as rate);
      first = λ n. through (Has sets.first n) _ _
          (numbers_in a.State number a.First sets.first say.first n) (first_as rate 0 n);
      last = λ n. through (Has sets.last n) _ _
          (numbers_in a.State number a.Last sets.last say.last n) (last_as rate 0 n);
      follow = λ i n. through (Goes sets.follow i n) (Step a number i n) _
          (say.step i n, λ step. goes_at i n step) (follow_as rate 0 i n);
      preds = refl;
    }
  where
    goes_at : (i n : ℕ) → Step (automaton_of rate) (number_of rate 0) i n
        → Goes (sets_of rate).follow i n
    goes_at i n (p, q, at, at_next, follow) =
        subst (λ (m : ℕ). Goes (sets_of rate).follow m n) at
        (subst (λ (m : ℕ). Goes (sets_of rate).follow (number_of rate 0 p) m) at_next
        ((sets_say rate).goes p q follow))

-- and sets of the textbook say what the automaton says
say_of : (sets : Sets) (rate : Regex) → AreSetsOf sets rate
    → Say sets (automaton_of rate) (number_of rate 0)
say_of sets rate are =
    let a = automaton_of rate in
    let number = number_of rate 0 in
    let preds = add_preds rate 0 [] refl in
    record {
      nullable = same_test sets.nullable a.nullable _ are.nullable (nullable_as rate);
      first = in_numbers a.State number a.First sets.first (λ n.
          let same = first_as rate 0 n in
          (λ has. same.1 ((are.first n).0 has), λ is. (are.first n).1 (same.0 is)));
      last = in_numbers a.State number a.Last sets.last (λ n.
          let same = last_as rate 0 n in
          (λ has. same.1 ((are.last n).0 has), λ is. (are.last n).1 (same.0 is)));
      goes = λ p q follow. (are.follow (number p) (number q)).1
          ((follow_as rate 0 (number p) (number q)).0 (p, q, refl, refl, follow));
      step = λ i n goes. (follow_as rate 0 i n).1 ((are.follow i n).0 goes);
      meets = λ p item meet.
          subst (λ (list : List Predicate). MeetsAt list (number p) item) (sym are.preds)
          (preds.each p item meet);
      meet = λ n item meets. meet_only a.State number a.Meet n item
          (preds.only n item
          (subst (λ (list : List Predicate). MeetsAt list n item) are.preds meets));
      apart = number_apart rate 0;
    }

-- so they spell exactly its words
pub sets_spell : (sets : Sets) (rate : Regex) → AreSetsOf sets rate → AreOf sets rate
sets_spell sets rate are = spell_exactly rate sets (say_of sets rate are)
