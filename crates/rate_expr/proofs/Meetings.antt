-- What items meet: predicates as the states' numbers.
use Rattle.std.proofs.Common.{◌≡◌, ◌⊎◌, inl, inr, ℕ, zero, suc, ◌+◌, true, List, [], ◌∷◌, ◌++◌}
use Rattle.std.proofs.Common.{length, slice_get, Some, refl, sym, ap, ◌∙◌, subst, append_assoc}
use Rattle.std.proofs.Common.{length-append, arith}
use Rattle.std.proofs.lemmas.List.{append-nil}
use Rattle.value_ops.specs.declared.field.Field.{Field}
use Rattle.predicates.specs.Predicates.{Predicate}
use Rattle.predicates.specs.Truth.{holds}
use Rattle.rate_expr.specs.Rates.{Regex, empty, one, sequence, choice, star, size_of, preds_of}
use Rattle.rate_expr.proofs.Automata.{Automaton, MeetEither, automaton_of}
use Rattle.rate_expr.proofs.Numbers.{either_number, number_of}

-- the rate has this many predicates
pub length-preds_of : (rate : Regex) → length (preds_of rate) ≡ size_of rate
length-preds_of empty = refl
length-preds_of (one pred) = refl
length-preds_of (sequence first second) =
    length-append (preds_of first) (preds_of second)
    ∙ (let left = length-preds_of first in let right = length-preds_of second in omega arith)
length-preds_of (choice first second) =
    length-append (preds_of first) (preds_of second)
    ∙ (let left = length-preds_of first in let right = length-preds_of second in omega arith)
length-preds_of (star inner) = length-preds_of inner

-- the item meets the predicate of the position
abbrev pub MeetsAt : List Predicate → ℕ → List Field → Type 0
MeetsAt preds n item =
    (pred : Predicate) × (slice_get preds n ≡ Some pred) × (holds pred item ≡ true)

-- the predicates after are those before, with those of the automaton
pub record AddPreds (A : Type 0) (number : A → ℕ) (Meet : A → List Field → Type 0)
    (before after : List Predicate) : Type 0 where
  pub kept : (n : ℕ) (item : List Field) → MeetsAt before n item → MeetsAt after n item
  pub each : (p : A) (item : List Field) → Meet p item → MeetsAt after (number p) item
  pub only : (n : ℕ) (item : List Field) → MeetsAt after n item
      → MeetsAt before n item ⊎ ((p : A) × (number p ≡ n) × Meet p item)

-- a predicate after others leaves them their places
meets_before : (preds : List Predicate) (pred : Predicate) (n : ℕ) (item : List Field)
    → MeetsAt preds n item → MeetsAt (preds ++ pred ∷ []) n item
meets_before [] pred n item (other, is, meet) = absurd (cc)
meets_before (first ∷ preds) pred zero item meets = meets
meets_before (first ∷ preds) pred (suc n) item meets = meets_before preds pred n item meets

-- and is at the next
meets_after : (preds : List Predicate) (pred : Predicate) (item : List Field)
    → holds pred item ≡ true → MeetsAt (preds ++ pred ∷ []) (length preds) item
meets_after [] pred item meet = (pred, refl, meet)
meets_after (first ∷ preds) pred item meet = meets_after preds pred item meet

-- and there alone
meets_no_more : (preds : List Predicate) (pred : Predicate) (n : ℕ) (item : List Field)
    → MeetsAt (preds ++ pred ∷ []) n item
    → MeetsAt preds n item ⊎ (length preds ≡ n) × (holds pred item ≡ true)
meets_no_more [] pred zero item (other, is, meet) =
    let same : other ≡ pred = cc in
    inr (refl, subst (λ (p : Predicate). holds p item ≡ true) same meet)
meets_no_more [] pred (suc n) item (other, is, meet) = absurd (cc)
meets_no_more (first ∷ preds) pred zero item meets = inl meets
meets_no_more (first ∷ preds) pred (suc n) item meets =
    in_one (meets_no_more preds pred n item meets)
  where
    in_one : MeetsAt preds n item ⊎ (length preds ≡ n) × (holds pred item ≡ true)
        → MeetsAt (first ∷ preds) (suc n) item
        ⊎ (suc (length preds) ≡ suc n) × (holds pred item ≡ true)
    in_one (inl meet) = inl meet
    in_one (inr (is, meet)) = inr (ap suc is, meet)

-- the predicates of two parts
either_preds :
    (a b : Automaton) (f : a.State → ℕ) (g : b.State → ℕ) (before middle after : List Predicate)
    → AddPreds a.State f a.Meet before middle → AddPreds b.State g b.Meet middle after
    → AddPreds (a.State ⊎ b.State) (either_number a.State b.State f g) (MeetEither a b) before after
either_preds a b f g before middle after in_a in_b = record {
  kept = λ n item meets. in_b.kept n item (in_a.kept n item meets);
  each = each;
  only = λ n item meets. found n item (in_b.only n item meets);
}
  where
    each : (p : a.State ⊎ b.State) (item : List Field) → MeetEither a b p item
        → MeetsAt after (either_number a.State b.State f g p) item
    each (inl p) item meet = in_b.kept (f p) item (in_a.each p item meet)
    each (inr q) item meet = in_b.each q item meet

    found_first : (n : ℕ) (item : List Field)
        → MeetsAt before n item ⊎ ((p : a.State) × (f p ≡ n) × a.Meet p item)
        → MeetsAt before n item ⊎ ((p : a.State ⊎ b.State)
        × (either_number a.State b.State f g p ≡ n) × MeetEither a b p item)
    found_first n item (inl meets) = inl meets
    found_first n item (inr (p, at, meet)) = inr (inl p, at, meet)

    found : (n : ℕ) (item : List Field)
        → MeetsAt middle n item ⊎ ((q : b.State) × (g q ≡ n) × b.Meet q item)
        → MeetsAt before n item ⊎ ((p : a.State ⊎ b.State)
        × (either_number a.State b.State f g p ≡ n) × MeetEither a b p item)
    found n item (inl meets) = found_first n item (in_a.only n item meets)
    found n item (inr (q, at, meet)) = inr (inr q, at, meet)

-- those of two rates, one after the other
two_preds : (first second : Regex) (base : ℕ) (before : List Predicate)
    → AddPreds (automaton_of first).State (number_of first base) (automaton_of first).Meet before
    (before ++ preds_of first) → AddPreds (automaton_of second).State
    (number_of second (base + size_of first)) (automaton_of second).Meet
    (before ++ preds_of first) ((before ++ preds_of first) ++ preds_of second)
    → AddPreds ((automaton_of first).State ⊎ (automaton_of second).State)
    (either_number (automaton_of first).State (automaton_of second).State (number_of first base)
    (number_of second (base + size_of first))) (MeetEither (automaton_of first)
    (automaton_of second)) before (before ++ (preds_of first ++ preds_of second))
two_preds first second base before left right =
    rw (← append_assoc before (preds_of first) (preds_of second))
    (either_preds (automaton_of first) (automaton_of second) (number_of first base)
    (number_of second (base + size_of first)) before (before ++ preds_of first)
    ((before ++ preds_of first) ++ preds_of second) left right)

-- the predicates of a rate are what its automaton meets
pub add_preds : (rate : Regex) (base : ℕ) (before : List Predicate) → length before ≡ base
    → AddPreds (automaton_of rate).State (number_of rate base) (automaton_of rate).Meet before
    (before ++ preds_of rate)
add_preds empty base before is = record {
  kept = λ n item meets. rw append-nil meets;
  each = λ p item meet. absurd p;
  only = λ n item meets.
      inl (subst (λ (preds : List Predicate). MeetsAt preds n item) (append-nil before) meets);
}
add_preds (one pred) base before is = record {
  kept = meets_before before pred;
  each = λ p item meet. subst (λ (n : ℕ). MeetsAt (before ++ pred ∷ []) n item) is
      (meets_after before pred item meet);
  only = λ n item meets. found n item (meets_no_more before pred n item meets);
}
  where
    found : (n : ℕ) (item : List Field)
        → MeetsAt before n item ⊎ (length before ≡ n) × (holds pred item ≡ true)
        → MeetsAt before n item ⊎ ((p : Unit {0}) × (base ≡ n) × (holds pred item ≡ true))
    found n item (inl meets) = inl meets
    found n item (inr (at, meet)) = inr (tt, sym is ∙ at, meet)
add_preds (sequence first second) base before is =
    two_preds first second base before (add_preds first base before is)
    (add_preds second (base + size_of first) (before ++ preds_of first)
    (let long = length-append before (preds_of first) in
    let size = length-preds_of first in omega arith))
add_preds (choice first second) base before is =
    two_preds first second base before (add_preds first base before is)
    (add_preds second (base + size_of first) (before ++ preds_of first)
    (let long = length-append before (preds_of first) in
    let size = length-preds_of first in omega arith))
add_preds (star inner) base before is = add_preds inner base before is
