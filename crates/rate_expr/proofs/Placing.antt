-- The positions of the predicate at a place, gathered one by one.
use Rattle.std.proofs.Common.{◌≡◌, inl, inr, ℕ, ◌+◌, ◌^◌, ◌<◌, ◌≤◌, List, Some, length, get_or}
use Rattle.std.proofs.Common.{slice_get, bit_or, sym, ap, ◌∙◌, subst, ◌↔◌, arith}
use Rattle.std.proofs.lemmas.Option.{get_or_from_slice_get, slice_get-get_or, slice_get_within}
use Rattle.std.proofs.lemmas.Grind.{get_or_default_zero}
use Rattle.rate_expr.specs.Sets.{Has}
use Rattle.rate_expr.proofs.MaskMembers.{has_zero, has_added, has_added_same, has_first}
use Rattle.rate_expr.proofs.MaskSets.{below-more}

-- the mask has the positions below a bound that have this place
pub record ArePlaced (places : List ℕ) (place bound found : ℕ) : Type 0 where
  pub sound : (position : ℕ) → Has found position → slice_get places position ≡ Some place
  pub whole : (position : ℕ) → position < bound → slice_get places position ≡ Some place
      → Has found position

pub placed_none : (places : List ℕ) (place : ℕ) → ArePlaced places place 0 0
placed_none places place = record {
  sound = λ position has. absurd (has_zero position has);
  whole = λ position below. absurd (omega arith);
}

-- one more
pub placed_here : (places : List ℕ) (place at found : ℕ)
    → ArePlaced places place at found → at < length places → get_or places at 0 ≡ place
    → ArePlaced places place (at + 1) (bit_or found (2 ^ at))
placed_here places place at found so_far within is = record {
  sound = λ position has. elim (has_added found at position has) [
    | inl before ↦ so_far.sound position before
    | inr same ↦ subst (λ (n : ℕ). slice_get places n ≡ Some place) (sym same)
        (slice_get-get_or places at 0 within ∙ ap Some is)
  ];
  whole = λ position below read. elim (below-more position at below) [
    | inr before ↦ has_first found (2 ^ at) position (so_far.whole position before read)
    | inl same ↦ subst (λ (n : ℕ). Has (bit_or found (2 ^ at)) n) (sym same)
        (has_added_same found at)
  ];
}

-- and one that is at another place
pub placed_passed : (places : List ℕ) (place at found : ℕ) → ArePlaced places place at found
    → (get_or places at 0 ≡ place → ⊥) → ArePlaced places place (at + 1) found
placed_passed places place at found so_far other = record {
  sound = so_far.sound;
  whole = λ position below read. elim (below-more position at below) [
    | inr before ↦ so_far.whole position before read
    | inl same ↦ absurd (other (get_or_from_slice_get places at place 0
        (subst (λ (n : ℕ). slice_get places n ≡ Some place) same read)))
  ];
}

pub placed_all : (places : List ℕ) (place bound found : ℕ)
    → ArePlaced places place bound found → length places ≤ bound → (position : ℕ)
    → Has found position ↔ (slice_get places position ≡ Some place)
placed_all places place bound found all enough position = (
  all.sound position,
  λ read. let within = slice_get_within places position place read in
      all.whole position (omega arith) read,
)

-- a place that was read
pub place_read : (items places : List ℕ) (at value : ℕ) → items ≡ places → at < length items
    → value ≡ get_or items at value → get_or places at 0 ≡ value
place_read items places at value same within read =
    ap (λ (list : List ℕ). get_or list at 0) (sym same)
    ∙ sym (read ∙ get_or_default_zero items at value within)
