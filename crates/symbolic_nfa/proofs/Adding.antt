-- Positions that the masks of some cells get.
use Rattle.std.proofs.Common.{◌≡◌, ◌≢◌, ◌⊎◌, inl, inr, ℕ, ◌+◌, ◌<◌, ◌≤◌, ◌↔◌, List, length, get_or}
use Rattle.std.proofs.Common.{set, refl, ◌∙◌, bit_or, slice_index, arith, get_or-set_other}
use Rattle.std.proofs.Common.{get_or-set_same}
use Rattle.std.proofs.lemmas.List.{length-set}
use Rattle.std.specs.List.{Contains}
use Rattle.rate_expr.specs.Sets.{Has}
use Rattle.symbolic_nfa.specs.Tables.{AddsPositions}
use Rattle.rate_expr.proofs.MaskMembers.{has_or, has_first, has_second}
use Rattle.rate_expr.proofs.MaskSets.{below-more}

-- the masks of the cells of the set below a bound have got the positions, and the others
-- are as they were
pub record AreAdded (old new : List ℕ) (bound positions : ℕ) (cells : List ℕ) : Type 0 where
  pub same : length new ≡ length old
  pub done : (cell other : ℕ) → cell < bound → Has (slice_index new cell) other
      ↔ (Has (slice_index old cell) other ⊎ (Has positions other × Contains cells cell))
  pub rest : (cell : ℕ) → bound ≤ cell → slice_index new cell ≡ slice_index old cell

-- none yet
pub added-none :
    (masks : List ℕ) (positions : ℕ) (cells : List ℕ) → AreAdded masks masks 0 positions cells
added-none masks positions cells = record {
  same = refl;
  done = λ cell other below. absurd (omega arith);
  rest = λ cell above. refl;
}

-- a cell of the set
pub added-here :
    (old new : List ℕ) (at positions : ℕ) (cells : List ℕ) → AreAdded old new at positions cells
    → at < length new → Contains cells at
    → AreAdded old (set new at (bit_or (get_or new at 0) positions)) (at + 1)
    positions cells
added-here old new at positions cells so_far within is_in =
    let after = set new at (bit_or (get_or new at 0) positions) in
    let here : get_or after at 0 ≡ bit_or (get_or new at 0) positions =
    get_or-set_same new at (bit_or (get_or new at 0) positions) 0 within in
    let before : get_or new at 0 ≡ get_or old at 0 = so_far.rest at (omega arith) in
    let at_here : (other : ℕ) → Has (get_or after at 0) other
    ↔ (Has (get_or old at 0) other ⊎ (Has positions other × Contains cells at)) =
    λ other. rw (here, before) (
      λ has. elim (has_or (get_or old at 0) positions other has) [
        | inl kept ↦ inl kept
        | inr more ↦ inr (more, is_in)
      ],
      λ has. elim has [
        | inl kept ↦ has_first (get_or old at 0) positions other kept
        | inr (more, there) ↦ has_second (get_or old at 0) positions other more
      ],
    ) in
    record {
      same = length-set new at (bit_or (get_or new at 0) positions) ∙ so_far.same;
      done = λ cell other below. elim (below-more cell at below) [
        | inr less ↦
            let kept = get_or-set_other new at cell (bit_or (get_or new at 0) positions) 0
            (less_not less) in
            rw kept (so_far.done cell other less)
        | inl same ↦ rw same (at_here other)
      ];
      rest = λ cell above.
          get_or-set_other new at cell (bit_or (get_or new at 0) positions) 0 (more_not above)
          ∙ so_far.rest cell (omega arith);
    }
  where
    less_not : {cell : ℕ} → cell < at → cell ≢ at
    less_not less same = absurd (omega arith)

    more_not : {cell : ℕ} → at + 1 ≤ cell → cell ≢ at
    more_not more same = absurd (omega arith)

-- any other
pub added-passed :
    (old new : List ℕ) (at positions : ℕ) (cells : List ℕ) → AreAdded old new at positions cells
    → (Contains cells at → ⊥) → AreAdded old new (at + 1) positions cells
added-passed old new at positions cells so_far is_out = record {
  same = so_far.same;
  done = λ cell other below. elim (below-more cell at below) [
    | inr less ↦ so_far.done cell other less
    | inl same ↦ rw (same, so_far.rest at (omega arith)) (
      λ has. inl has,
      λ has. elim has [ inl kept ↦ kept | inr (e, is_in) ↦ absurd (is_out is_in) ],
    )
  ];
  rest = λ cell above. so_far.rest cell (omega arith);
}

-- all of them
pub added-all :
    (old new : List ℕ) (bound positions : ℕ) (cells : List ℕ)
    → AreAdded old new bound positions cells → length old ≤ bound
    → AddsPositions old new positions cells
added-all old new bound positions cells all enough = record {
  same = all.same;
  has = λ cell other below. all.done cell other (omega arith);
}
