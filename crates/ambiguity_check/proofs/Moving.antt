-- How a search follows one move, from the lowest place on the left on.
use Rattle.std.proofs.Common.{◌≡◌, ℕ, ◌<◌, ◌^◌, ◌⊎◌, ◌↔◌, List, None, Some, refl, inl, inr, ⊎_elim}
use Rattle.std.proofs.Common.{subst, sym}
use Rattle.std.specs.Prelude.{slice_index}
use Rattle.std.proofs.lemmas.Bool.{cases_eq}
use Rattle.rate_expr.specs.Sets.{Has, IsLowest}
use Rattle.rate_expr.proofs.MaskMembers.{has_zero}
use Rattle.ambiguity_check.specs.declared.graph.Move.{Move}
use Rattle.ambiguity_check.specs.declared.graph.Moves.{Moves}
use Rattle.ambiguity_check.specs.declared.graph.Node.{Node}
use Rattle.ambiguity_check.specs.declared.graph.Phase.{Phase}
use Rattle.ambiguity_check.specs.Walks.{IsOf, IsIn}
use Rattle.ambiguity_check.specs.Marked.{IsMarked, IsInRow}
use Rattle.ambiguity_check.specs.Found.{AreFound}
use Rattle.ambiguity_check.proofs.Bits.{new_places, in_new_places, new_or_old}
use Rattle.ambiguity_check.proofs.Finding.{found_none, found_as, found_both}
use Rattle.ambiguity_check.proofs.Gathering.{one_lowest}
use Rattle.ambiguity_check.proofs.Marking.{node_at, same_parts, row_at}

-- the mask of a row says which of its nodes are marked
pub row_says : (marks : List ℕ) (phase : Phase) (left row : ℕ)
    → row ≡ slice_index marks (row_at phase left)
    → (node : Node) → node.phase ≡ phase → node.left ≡ left
    → (IsMarked marks node → Has row node.right) × (Has row node.right → IsMarked marks node)
row_says marks phase left row row_is node phases lefts = rw (row_is, phases, lefts)
    ((λ is. is), (λ is. is))

module _ (step : Move) (meet : Node → Type 0) (seen next : List ℕ) where
  -- a node of the move whose place on the left is not left to be searched
  abbrev pub IsPassed : ℕ → Node → Type 0
  IsPassed rest node = (IsOf step node × meet node) × (Has rest node.left → ⊥)

  -- the move was followed from all places on the left but those that are left
  pub record AreMoved (rest : ℕ) (seen' next' : List ℕ) : Type 0 where
    pub kept : (place : ℕ) → Has rest place → Has step.left place
    pub found : AreFound (IsPassed rest) seen next seen' next'

  -- from none
  pub moved_none : AreMoved step.left seen next
  moved_none = record {
    kept = λ place has. has;
    found = found_none (IsPassed step.left) seen next (λ node passed. passed.1 passed.0.0.1);
  }

  -- from all
  pub moved_all : (seen' next' : List ℕ) → AreMoved 0 seen' next'
      → AreFound (λ node. IsOf step node × meet node) seen next seen' next'
  moved_all seen' next' moved = found_as (IsPassed 0) (λ node. IsOf step node × meet node) _ _ _ _
      (λ node passed. passed.0) (λ node of. inl (of, λ has. has_zero node.left has)) moved.found

  module _ (rest left met row : ℕ) (seen' next' : List ℕ)
      (met_fits : met < 2 ^ 128) (row_fits : row < 2 ^ 128)
      (row_is : row ≡ slice_index seen' (row_at step.phase left))
      (meets : (right : ℕ) → Has met right ↔ meet (node_at step.phase left right)) where
    -- the places on the right that are new
    abbrev found : ℕ
    found = new_places step.right met row

    -- the nodes of the row that are found are not marked
    pub fresh_row : (node : Node) → IsInRow step.phase left found node → IsMarked seen' node → ⊥
    fresh_row node in' is =
        let new = in_new_places step.right met row node.right met_fits row_fits in'.2 in
        new.2 ((row_says seen' step.phase left row row_is node in'.0 in'.1).0 is)

    -- the move was followed from one more place
    pub moved_next : (after : ℕ) (seen'' next'' : List ℕ) → IsLowest rest left
        → ((place : ℕ) → Has after place ↔ (Has rest place × (IsLowest rest place → ⊥)))
        → AreMoved rest seen' next'
        → AreFound (IsInRow step.phase left found) seen' next' seen'' next''
        → AreMoved after seen'' next''
    moved_next after seen'' next'' lowest exact moved new = record {
      kept = λ place has. moved.kept place ((exact place).0 has).0;
      found = found_as (λ node. IsPassed rest node ⊎ IsInRow step.phase left found node)
          (IsPassed after) _ _ _ _ wider back
          (found_both (IsPassed rest) (IsInRow step.phase left found) _ _ _ _ _ _ moved.found new);
    }
      where
        wider : (node : Node) → IsPassed rest node ⊎ IsInRow step.phase left found node
            → IsPassed after node
        wider node (inl passed) = (passed.0, λ has. passed.1 ((exact node.left).0 has).0)
        wider node (inr in') =
            let parts = in_new_places step.right met row node.right met_fits row_fits in'.2 in
            let same = same_parts node step.phase left node.right in'.0 in'.1 refl in (
              (
                (in'.0, rw (in'.1) (moved.kept left lowest.has), parts.0),
                subst meet (sym same) ((meets node.right).0 parts.1),
              ),
              λ has. ((exact left).0 (rw (in'.1) at has)).1 lowest,
            )

        -- a node of the row is new or was seen
        in_row : (node : Node) → IsOf step node × meet node → node.left ≡ left
            → (IsPassed rest node ⊎ IsInRow step.phase left found node) ⊎ IsMarked seen node
        in_row node of lefts =
            let same = same_parts node step.phase left node.right of.0.0 lefts refl in
            ⊎_elim (λ new. inl (inr (of.0.0, lefts, new)))
            (λ old. ⊎_elim (λ was. inr was) (λ earlier. inl (inl earlier.0))
            (moved.found.only node
            ((row_says seen' step.phase left row row_is node of.0.0 lefts).1 old)))
            (new_or_old step.right met row node.right met_fits row_fits of.0.2
            ((meets node.right).1 (subst meet same of.1)))

        back : (node : Node) → IsPassed after node
            → (IsPassed rest node ⊎ IsInRow step.phase left found node) ⊎ IsMarked seen node
        back node passed = elim (cases_eq node.left left) [
          | inl lefts ↦ in_row node passed.0 lefts
          | inr differ ↦ inl (inl (
            passed.0,
            λ has. passed.1 ((exact node.left).1
                (has, λ also. differ (one_lowest rest left node.left lowest also))),
          ))
        ]

-- one move was followed, and there is no other
pub moves_one : (moves : Moves) (meet : Node → Type 0) (seen next seen' next' : List ℕ)
    → moves.turn ≡ None
    → AreFound (λ node. IsOf moves.stay node × meet node) seen next seen' next'
    → AreFound (λ node. IsIn moves node × meet node) seen next seen' next'
moves_one moves meet seen next seen' next' none =
    found_as (λ node. IsOf moves.stay node × meet node)
    (λ node. IsIn moves node × meet node) _ _ _ _ (λ node of. (inl of.0, of.1))
    (λ node in'. inl (⊎_elim (λ of. of) (λ turned. absurd (rw none at turned)) in'.0, in'.1))

-- two moves were followed
pub moves_two : (moves : Moves) (turn : Move) (meet : Node → Type 0)
    (seen next seen' next' seen'' next'' : List ℕ) → moves.turn ≡ Some turn
    → AreFound (λ node. IsOf moves.stay node × meet node) seen next seen' next'
    → AreFound (λ node. IsOf turn node × meet node) seen' next' seen'' next''
    → AreFound (λ node. IsIn moves node × meet node) seen next seen'' next''
moves_two moves turn meet seen next seen' next' seen'' next'' some first second =
    found_as (λ node. (IsOf moves.stay node × meet node) ⊎ (IsOf turn node × meet node))
    (λ node. IsIn moves node × meet node) _ _ _ _
    (λ node. ⊎_elim (λ of. (inl of.0, of.1)) (λ of. (inr (rw some of.0), of.1)))
    (λ node in'.
    inl (⊎_elim (λ of. inl (of, in'.1)) (λ turned. inr (rw some at turned, in'.1)) in'.0))
    (found_both (λ node. IsOf moves.stay node × meet node)
    (λ node. IsOf turn node × meet node) _ _ _ _ _ _ first second)
