-- How a search goes through the rows of a level.
use Rattle.std.proofs.Common.{◌≡◌, ℕ, ◌+◌, ◌<◌, ◌⊎◌, ◌↔◌, List, refl, inl, inr, ⊎_elim, subst}
use Rattle.std.proofs.Common.{arith}
use Rattle.std.specs.Prelude.{slice_index}
use Rattle.std.proofs.lemmas.Bool.{cases_lt}
use Rattle.rate_expr.specs.Sets.{Has}
use Rattle.rate_expr.proofs.MaskMembers.{has_zero}
use Rattle.ambiguity_check.specs.declared.graph.Moves.{Moves}
use Rattle.ambiguity_check.specs.declared.graph.Node.{Node}
use Rattle.ambiguity_check.specs.declared.graph.Phase.{Phase}
use Rattle.ambiguity_check.specs.declared.graph.Phase.TheVariants.{Together, Parted, Rejoined}
use Rattle.ambiguity_check.specs.Walks.{IsIn}
use Rattle.ambiguity_check.specs.Marked.{IsMarked}
use Rattle.ambiguity_check.specs.Found.{AreFound, IsAfter, IsAfterPhase}
use Rattle.ambiguity_check.proofs.Finding.{found_none, found_as, found_both}
use Rattle.ambiguity_check.proofs.Marking.{node_at, same_parts, row_at}
use Rattle.ambiguity_check.proofs.Moving.{row_says}

module _ (continues : Node → Node → Type 0) (meet : Node → Type 0) (level : List ℕ) where
  module _ (in_phase : Phase) where
    -- after a node of this phase with a lower place on the left
    pub record IsAfterBelow (left : ℕ) (node : Node) : Type 0 where
      pub before : Node
      pub below : before.left < left
      pub phase : before.phase ≡ in_phase
      pub marked : IsMarked level before
      pub goes : continues before node
      pub met : meet node

    module _ (seen next : List ℕ) where
      -- no row yet
      pub rows_none : AreFound (IsAfterBelow 0) seen next seen next
      rows_none = found_none (IsAfterBelow 0) seen next
          (λ node after. let below = after.below in omega arith)

      -- all rows
      pub rows_all : (end : ℕ) (seen' next' : List ℕ)
          → ((node : Node) → IsMarked level node → node.left < end)
          → AreFound (IsAfterBelow end) seen next seen' next'
          → AreFound (IsAfterPhase continues meet level in_phase) seen next seen' next'
      rows_all end seen' next' all =
          found_as (IsAfterBelow end) (IsAfterPhase continues meet level in_phase) _ _ _ _
          (λ node after. (after.before, after.phase, after.marked, after.goes, after.met))
          (λ node after. inl (record {
            before = after.0;
            below = all after.0 after.2;
            phase = after.1;
            marked = after.2;
            goes = after.3;
            met = after.4;
          }))

      module _ (left rights : ℕ) (row_is : rights ≡ slice_index level (row_at in_phase left)) where
        -- one place more
        more : (node : Node) → IsAfterBelow left node → IsAfterBelow (left + 1) node
        more node after = record {
          before = after.before;
          below = let below = after.below in omega arith;
          phase = after.phase;
          marked = after.marked;
          goes = after.goes;
          met = after.met;
        }

        -- a node below one place more is below the place or in the row
        in_row : (node : Node) → IsAfterBelow (left + 1) node → IsAfterBelow left node
            ⊎ (((right : ℕ) × Has rights right × continues (node_at in_phase left right) node)
            × meet node)
        in_row node after = elim (cases_lt (after.before).left left) [
          | inl below ↦ inl (record {
            before = after.before;
            below = below;
            phase = after.phase;
            marked = after.marked;
            goes = after.goes;
            met = after.met;
          })
          | inr above ↦
              let below = after.below in
              let lefts : (after.before).left ≡ left = omega arith in
              let same = same_parts after.before in_phase left (after.before).right
              after.phase lefts refl in
              inr (
                (
                  (after.before).right,
                  (row_says level in_phase left rights row_is after.before after.phase lefts).0
                      after.marked,
                  subst (λ n. continues n node) same after.goes,
                ),
                after.met,
              )
        ]

        -- an empty row is passed over
        pub rows_skip : (seen' next' : List ℕ) → rights ≡ 0
            → AreFound (IsAfterBelow left) seen next seen' next'
            → AreFound (IsAfterBelow (left + 1)) seen next seen' next'
        rows_skip seen' next' empty =
            found_as (IsAfterBelow left) (IsAfterBelow (left + 1)) _ _ _ _ more
            (λ node after. ⊎_elim (λ below. inl below)
            (λ row. absurd (has_zero row.0.0 (rw empty at row.0.1))) (in_row node after))

        -- the moves of one more row were followed
        pub rows_next : (moves : Moves) (seen1 next1 seen2 next2 : List ℕ)
            → ((node : Node) → IsIn moves node
            ↔ ((right : ℕ) × Has rights right × continues (node_at in_phase left right) node))
            → AreFound (IsAfterBelow left) seen next seen1 next1
            → AreFound (λ node. IsIn moves node × meet node) seen1 next1 seen2 next2
            → AreFound (IsAfterBelow (left + 1)) seen next seen2 next2
        rows_next moves seen1 next1 seen2 next2 are before new =
            found_as (λ node. IsAfterBelow left node ⊎ (IsIn moves node × meet node))
            (IsAfterBelow (left + 1)) _ _ _ _ wider back
            (found_both (IsAfterBelow left) (λ node. IsIn moves node × meet node) _ _ _
            _ _ _ before new)
          where
            wider : (node : Node) → IsAfterBelow left node ⊎ (IsIn moves node × meet node)
                → IsAfterBelow (left + 1) node
            wider node (inl after) = more node after
            wider node (inr in') =
                let some = (are node).0 in'.0 in
                record {
                  before = node_at in_phase left some.0;
                  below = omega arith;
                  phase = refl;
                  marked = (row_says level in_phase left rights row_is
                      (node_at in_phase left some.0) refl refl).1 some.1;
                  goes = some.2;
                  met = in'.1;
                }

            back : (node : Node) → IsAfterBelow (left + 1) node
                → (IsAfterBelow left node ⊎ (IsIn moves node × meet node)) ⊎ IsMarked seen node
            back node after = inl (⊎_elim (λ below. inl below)
                (λ row. inr ((are node).1 row.0, row.1)) (in_row node after))

  -- after a node of one of the first two phases
  abbrev IsAfterTwo : Node → Type 0
  IsAfterTwo node = IsAfterPhase continues meet level Together node
      ⊎ IsAfterPhase continues meet level Parted node

  -- after a node of any phase
  in_a_phase : (node : Node) → IsAfter continues meet level node
      → IsAfterTwo node ⊎ IsAfterPhase continues meet level Rejoined node
  in_a_phase node (before, marked, goes, met) = which before.phase refl
    where
      which : (phase : Phase) → before.phase ≡ phase
          → IsAfterTwo node ⊎ IsAfterPhase continues meet level Rejoined node
      which Together is = inl (inl (before, is, marked, goes, met))
      which Parted is = inl (inr (before, is, marked, goes, met))
      which Rejoined is = inr (before, is, marked, goes, met)

  -- a node of a phase is one of the level's
  any_phase : (phase : Phase) (node : Node) → IsAfterPhase continues meet level phase node
      → IsAfter continues meet level node
  any_phase phase node after = (after.0, after.2, after.3, after.4)

  -- all three phases
  pub phases_all : (seen next seen1 next1 seen2 next2 seen3 next3 : List ℕ)
      → AreFound (IsAfterPhase continues meet level Together) seen next seen1 next1
      → AreFound (IsAfterPhase continues meet level Parted) seen1 next1 seen2 next2
      → AreFound (IsAfterPhase continues meet level Rejoined) seen2 next2 seen3 next3
      → AreFound (IsAfter continues meet level) seen next seen3 next3
  phases_all seen next seen1 next1 seen2 next2 seen3 next3 one two three =
      found_as (λ node. IsAfterTwo node ⊎ IsAfterPhase continues meet level Rejoined node)
      (IsAfter continues meet level) _ _ _ _
      (λ node. ⊎_elim (λ e. ⊎_elim (any_phase Together node) (any_phase Parted node) e)
      (any_phase Rejoined node))
      (λ node after. inl (in_a_phase node after))
      (found_both IsAfterTwo (IsAfterPhase continues meet level Rejoined) _ _ _ _ _ _
      (found_both (IsAfterPhase continues meet level Together)
      (IsAfterPhase continues meet level Parted) _ _ _ _ _ _ one two) three)
