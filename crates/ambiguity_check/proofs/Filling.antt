-- How the meetings are found, a cell after another.
use Rattle.std.proofs.Common.{◌≡◌, ℕ, ◌+◌, ◌<◌, ◌≤◌, ◌∙◌, List, length, replicate, refl, Bool, true}
use Rattle.std.proofs.Common.{false, not, eqb, ◌&&◌, inl, inr, ⊎_elim, arith}
use Rattle.std.specs.Prelude.{slice_index}
use Rattle.std.proofs.Math.ListN.{length-replicate}
use Rattle.std.proofs.lemmas.Bool.{cases_lt, eqb-true}
use Rattle.value_ops.specs.declared.field.Field.{Field}
use Rattle.item_schema.specs.Items.{IsItemOf}
use Rattle.predicate_cells.specs.Cells.{Partition, CellsHaveItems, cell_count, cell_of}
use Rattle.rate_expr.specs.Paths.{Meets}
use Rattle.rate_expr.specs.Sets.{Sets, Has}
use Rattle.symbolic_nfa.specs.Automata.{IsMet}
use Rattle.ambiguity_check.specs.Meetings.{MeetOne, AreMeetings, IsJoined}
use Rattle.rate_expr.proofs.MaskMembers.{has_zero}
use Rattle.rate_expr.proofs.MaskSets.{has-below}
use Rattle.ambiguity_check.proofs.Marking.{empty_row}

-- masks that a test finds the same
pub same_masks : (a b c d : ℕ) → false ≡ not (eqb a b && eqb c d) → (a ≡ b) × (c ≡ d)
same_masks a b c d is = go (eqb a b) (eqb c d) refl refl is
  where
    go : (one two : Bool) → eqb a b ≡ one → eqb c d ≡ two → false ≡ not (one && two)
        → (a ≡ b) × (c ≡ d)
    go true true one two e = (eqb-true a b one, eqb-true c d two)
    go true false one two e = absurd (cc)
    go false true one two e = absurd (cc)
    go false false one two e = absurd (cc)

module _ (cells : Partition) (first second : Sets) where
  -- the rows have the meetings by items of the cells below one
  pub record IsFilled (end : ℕ) (rows : List ℕ) : Type 0 where
    pub same : length rows ≡ length first.preds
    pub sound : (left right : ℕ) → Has (slice_index rows left) right
        → MeetOne cells.layout.columns first second left right
    pub whole : (left right : ℕ) (item : List Field) → cell_of cells item < end
        → IsItemOf cells.layout.columns item
        → Meets first left item → Meets second right item → Has (slice_index rows left) right

  -- before the first cell
  pub filled_none : (rows : List ℕ) → rows ≡ replicate (length first.preds) 0 → IsFilled 0 rows
  filled_none rows empty = record {
    same = rw empty (length-replicate (length first.preds) 0);
    sound = λ left right has. absurd (has_zero right
        (rw (empty, empty_row (length first.preds) left) at has));
    whole = λ left right item below is first_meets second_meets. absurd (omega arith);
  }

  -- after one more cell
  pub filled_next : CellsHaveItems cells → (cell : ℕ) (rows : List ℕ) (first_mask second_mask : ℕ)
      (rows' : List ℕ)
      → cell < cell_count cells → IsMet first cells cell first_mask
      → IsMet second cells cell second_mask
      → IsFilled cell rows → IsJoined rows first_mask second_mask rows' → IsFilled (cell + 1) rows'
  filled_next have cell rows first_mask second_mask rows' below first_met second_met before joined =
      record {
        same = joined.same ∙ before.same;
        sound = λ left right has. ⊎_elim (λ was. before.sound left right was)
            (λ new. let some = have cell below in (
              some.0,
              some.1.0,
              first_met.sound left some.0 some.1 new.0,
              second_met.sound right some.0 some.1 new.1,
            ))
            (joined.only left right has);
        whole = λ left right item within is first_meets second_meets. elim
            (cases_lt (cell_of cells item) cell) [
              | inl less ↦ joined.kept left right (before.whole left right item less is first_meets
                  second_meets)
              | inr most ↦ let this : cell_of cells item ≡ cell = omega arith in
                  joined.joined left right (first_met.whole left item (is, this) first_meets)
                  (second_met.whole right item (is, this) second_meets)
            ];
      }

  -- the rows have the meetings of the cell before
  abbrev pub HaveMasks : ℕ → ℕ → List ℕ → Type 0
  HaveMasks first_mask second_mask rows = (left right : ℕ) → Has first_mask left
      → Has second_mask right → Has (slice_index rows left) right

  -- a cell whose masks are those of the cell before adds nothing
  pub joined_already : (first_mask second_mask : ℕ) (rows : List ℕ)
      → HaveMasks first_mask second_mask rows → IsJoined rows first_mask second_mask rows
  joined_already first_mask second_mask rows have = record {
    same = refl;
    kept = λ left right has. has;
    joined = have;
    only = λ left right has. inl has;
  }

  -- after all cells
  pub filled_all : ((item : List Field) → cell_of cells item < cell_count cells)
      → (end : ℕ) (rows : List ℕ) → cell_count cells ≤ end
      → IsFilled end rows → AreMeetings cells.layout.columns first second rows
  filled_all below end rows past filled left right = (
    filled.sound left right,
    (λ met. filled.whole left right met.0
        (let cell = below met.0 in omega arith) met.1 met.2 met.3),
  )

  -- the rows cover the places that a cell's items meet
  pub rows_cover : (cell : ℕ) (rows : List ℕ) (first_mask : ℕ) → IsMet first cells cell first_mask
      → length rows ≡ length first.preds → (place : ℕ) → Has first_mask place → place < length rows
  rows_cover cell rows first_mask met same place has = let below = has-below first_mask _ place
      met.within has in omega arith
