-- How the rows of meetings are filled.
use Rattle.std.proofs.Common.{◌≡◌, ◌≢◌, ℕ, ◌<◌, ◌⊎◌, ◌↔◌, ◌∙◌, List, length, refl, inl, inr, ⊎_elim}
use Rattle.std.proofs.Common.{subst, sym}
use Rattle.std.specs.Prelude.{slice_index, bit_or}
use Rattle.std.proofs.Math.ListN.{set, length-set}
use Rattle.std.proofs.lemmas.Bool.{cases_eq}
use Rattle.std.proofs.lemmas.List.{get_or-set_same, get_or-set_other}
use Rattle.rate_expr.specs.Sets.{Has, IsLowest}
use Rattle.ambiguity_check.specs.Meetings.{IsJoined}
use Rattle.ambiguity_check.proofs.Gathering.{one_lowest}
use Rattle.rate_expr.proofs.MaskMembers.{has_or, has_first, has_second, has_zero}

-- the rows of a mask were filled, but for those that are left
pub record AreJoined (old : List ℕ) (first second rest : ℕ) (new : List ℕ) : Type 0 where
  pub same : length new ≡ length old
  pub left : (left : ℕ) → Has rest left → Has first left
  pub kept : (left right : ℕ) → Has (slice_index old left) right → Has (slice_index new left) right
  pub joined : (left right : ℕ) → Has first left → Has second right
      → Has rest left ⊎ Has (slice_index new left) right
  pub only : (left right : ℕ) → Has (slice_index new left) right
      → Has (slice_index old left) right ⊎ (Has first left × Has second right)

-- no row was filled
pub joined_none : (old : List ℕ) (first second : ℕ) → AreJoined old first second first old
joined_none old first second = record {
  same = refl;
  left = λ left has. has;
  kept = λ left right has. has;
  joined = λ left right has has'. inl has;
  only = λ left right has. inl has;
}

-- all rows were filled
pub joined_all : (old : List ℕ) (first second : ℕ) (new : List ℕ)
    → AreJoined old first second 0 new → IsJoined old first second new
joined_all old first second new all = record {
  same = all.same;
  kept = all.kept;
  joined = λ left right has has'. ⊎_elim (λ waits. absurd (has_zero left waits)) (λ is. is)
      (all.joined left right has has');
  only = all.only;
}

module _ (rows : List ℕ) (second place : ℕ) (within : place < length rows) where
  -- the rows with one more that is filled
  abbrev filled : List ℕ
  filled = set rows place (bit_or (slice_index rows place) second)

  -- the row that was filled
  this_row : (left : ℕ) → left ≡ place
      → slice_index filled left ≡ bit_or (slice_index rows left) second
  this_row left same = rw same (get_or-set_same rows place _ 0 within)

  -- the others
  other_row : (left : ℕ) → left ≢ place → slice_index filled left ≡ slice_index rows left
  other_row left differ = get_or-set_other rows place left _ 0 differ

  -- what was in a row is in it
  fill_keeps : (left right : ℕ) → Has (slice_index rows left) right
      → Has (slice_index filled left) right
  fill_keeps left right has = elim (cases_eq left place) [
    | inl same ↦ rw (this_row left same) (has_first (slice_index rows left) second right has)
    | inr differ ↦ rw (other_row left differ) has
  ]

  -- one more row was filled
  pub joined_next : (old : List ℕ) (first rest after : ℕ) → IsLowest rest place
      → ((at : ℕ) → Has after at ↔ (Has rest at × (IsLowest rest at → ⊥)))
      → AreJoined old first second rest rows → AreJoined old first second after filled
  joined_next old first rest after lowest exact so_far = record {
    same = length-set rows place _ ∙ so_far.same;
    left = λ left has. so_far.left left ((exact left).0 has).0;
    kept = λ left right was. fill_keeps left right (so_far.kept left right was);
    joined = λ left right has has'. ⊎_elim
        (λ waits. elim (cases_eq left place) [
          | inl same ↦ inr (rw (this_row left same)
              (has_second (slice_index rows left) second right has'))
          | inr differ ↦ inl ((exact left).1
              (waits, λ also. differ (one_lowest rest place left lowest also)))
        ])
        (λ is. inr (fill_keeps left right is)) (so_far.joined left right has has');
    only = λ left right is. elim (cases_eq left place) [
      | inl same ↦ ⊎_elim (λ was. so_far.only left right was)
          (λ new. inr (
            subst (λ (p : ℕ). Has first p) (sym same) (so_far.left place lowest.has),
            new,
          ))
          (has_or (slice_index rows left) second right (rw (this_row left same) at is))
      | inr differ ↦ so_far.only left right (rw (other_row left differ) at is)
    ];
  }
