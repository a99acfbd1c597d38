-- New nodes.
use Rattle.std.proofs.Common.{◌≡◌, ◌≤◌, ℕ, ◌-◌, ◌^◌, min, List, [], sym, subst, arith}
use Rattle.std.specs.Prelude.{ℤ}
use Rattle.std.proofs.lemmas.Option.{none-some}
use Rattle.value_ops.specs.declared.value.Value.{Value}
use Rattle.expressions.specs.Expressions.{Expression}
use Rattle.item_schema.specs.declared.column.Column.{Column}
use Rattle.rate_expr.specs.Language.{In}
use Rattle.rate_expr.specs.Rates as rate
use Rattle.rate_expr.specs.Readings.{HasExtension}
use Rattle.rate_expr.specs.Words.{Word}
use Rattle.query_model.specs.Bounds.{inner_of, nodes_of, places_of}
use Rattle.query_model.specs.Denotation.{Den}
use Rattle.query_model.specs.Following.{composes_of}
use Rattle.query_model.specs.Rates.{rate_of}
use Rattle.query_model.specs.Sizes.{max_slots}
use Rattle.query_model.specs.Queries.{Qre, atom, eps, choice, split, iter, combine, apply, compose}
use Rattle.query_model.specs.Queries.{collect}
use Rattle.eval_nodes.specs.Holdings.{Holding, Seen, iter_held, split_held}
use Rattle.eval_nodes.specs.Represents.{AreReached, AreWaiting, Represents}
use Rattle.eval_nodes.specs.Sound.{IsSound}
use Rattle.eval_nodes.proofs.Members.{no_member}

-- a node keeps more than it has places
pub places_few : (q : Qre) → places_of q ≤ inner_of q
places_few (atom pred e) = omega arith
places_few (eps number) = omega arith
places_few (choice f g) = let a = places_few f in let b = places_few g in omega (arith, a, b)
places_few (split f g e) = let a = places_few f in let b = places_few g in omega (arith, a, b)
places_few (iter f number e) = let a = places_few f in omega (arith, a)
places_few (combine f g e) = let a = places_few f in let b = places_few g in omega (arith, a, b)
places_few (apply f e) = places_few f
places_few (compose f g) = let a = places_few f in omega (arith, a)
places_few (collect chosen sync rate f) = omega arith

-- composes are nodes
pub composes_few : (q : Qre) → composes_of q ≤ nodes_of q
composes_few (atom pred e) = omega arith
composes_few (eps number) = omega arith
composes_few (choice f g) = let a = composes_few f in let b = composes_few g in omega (arith, a, b)
composes_few (split f g e) = let a = composes_few f in let b = composes_few g in omega (arith, a, b)
composes_few (iter f number e) = let a = composes_few f in omega (arith, a)
composes_few (combine f g e) = let a = composes_few f in let b = composes_few g in
    omega (arith, a, b)
composes_few (apply f e) = let a = composes_few f in omega (arith, a)
composes_few (compose f g) = let a = composes_few f in let b = composes_few g in omega (arith, a, b)
composes_few (collect chosen sync rate f) = let a = composes_few f in omega (arith, a)

-- a query that keeps little has few places, so that the room for what waits is as large
-- as it is to be
pub all_places : (q : Qre) (room : ℕ) → inner_of q ≤ max_slots
    → room ≡ min (places_of q) (2 ^ 32 - 1) → room ≡ places_of q
all_places q room small is =
    let few = places_few q in
    let kept : inner_of q ≤ 2 ^ 20 = small in
    omega (arith, few, kept, is)

-- nothing is reached and nothing waits without a start
pub none_reached : (A : Word → Type 0) → AreReached A [] [] []
none_reached A = λ end. (
  λ there. absurd (no_member end there),
  λ (start, piece, from, is, in_a). absurd (no_member start from),
)

pub none_waits : (D : Word → Value → Type 0) (continues : Word → Type 0)
    → AreWaiting D continues [] [] []
none_waits D continues = record {
  distinct = tt;
  each = λ inner outer v. (
    λ found. absurd (none-some _ found),
    λ (from, rest, more). absurd (no_member outer from),
  );
}

module _ {R : Type 0} (seen : R → Seen R) where
  -- a split whose operands are new, and which has its room
  abbrev pub IsNewSplit : List Column → Qre → Qre → Holding R → Holding R → ℕ → Type 0
  IsNewSplit columns f g a b room =
      Represents seen columns f a [] []
      × ((ends : List ℕ) × AreReached (In (rate_of f)) [] [] ends
      × Represents seen columns g b [] ends)
      × AreWaiting (Den f) (HasExtension columns (rate_of g)) [] [] [] × (room ≡ places_of g)

  pub new_split : (columns : List Column) (f g : Qre) (a b : Holding R) (room : ℕ)
      → Represents seen columns f a [] [] → Represents seen columns g b [] [] → room ≡ places_of g
      → IsNewSplit columns f g a b room
  new_split columns f g a b room first second places = (
    first,
    ([], none_reached (In (rate_of f)), second),
    none_waits (Den f) (HasExtension columns (rate_of g)),
    places,
  )

  -- an iteration whose operand is new, and which has its room
  abbrev pub IsNewChain : List Column → Qre → ℤ → Expression → Holding R → ℕ → Type 0
  IsNewChain columns f number e a room =
      ((ends : List ℕ) × AreReached (In (rate.star (rate_of f))) [] [] ends
      × Represents seen columns f a [] ends)
      × AreWaiting (Den (iter f number e)) (HasExtension columns (rate_of f)) [] [] []
      × (room ≡ places_of f)

  pub new_chain : (columns : List Column) (f : Qre) (number : ℤ) (e : Expression)
      (a : Holding R) (room : ℕ) → Represents seen columns f a [] [] → room ≡ places_of f
      → IsNewChain columns f number e a room
  new_chain columns f number e a room first places = (
    ([], none_reached (In (rate.star (rate_of f))), first),
    none_waits (Den (iter f number e)) (HasExtension columns (rate_of f)),
    places,
  )

  -- with no entries they are sound
  pub new_split_sound : (columns : List Column) (f g : Qre) (e : Expression)
      (a b : Holding R) (room : ℕ) → IsSound seen columns f 0 a → IsSound seen columns g 0 b
      → room ≡ places_of g
      → IsSound seen columns (split f g e) 0 (split_held a b (record { entries = []; room = room }))
  new_split_sound columns f g e a b room first second places = (
    first,
    second,
    record { room = places; few = omega arith; distinct = tt; typed = tt },
  )

  pub new_chain_sound : (columns : List Column) (f : Qre) (number : ℤ) (e : Expression)
      (a : Holding R) (room : ℕ) → IsSound seen columns f 0 a → room ≡ places_of f
      → IsSound seen columns (iter f number e) 0
      (iter_held a (record { entries = []; room = room }))
  new_chain_sound columns f number e a room first places = (
    first,
    record { room = places; few = omega arith; distinct = tt; typed = tt },
  )

  -- the same node of the same query
  pub made_as : (columns : List Column) (q q' : Qre) (h h' : Holding R) → q' ≡ q → h' ≡ h
      → Represents seen columns q h [] [] → Represents seen columns q' h' [] []
  made_as columns q q' h h' query node is =
      subst (λ (x : Qre). Represents seen columns x h' [] []) (sym query)
      (subst (λ (x : Holding R). Represents seen columns q x [] []) (sym node) is)
