-- The positions that lead to an end.
use Rattle.std.proofs.Common.{◌≡◌, inl, inr, ℕ, zero, suc, ◌+◌, ◌^◌, ◌<◌, ◌≤◌, ◌↔◌, Some, length}
use Rattle.std.proofs.Common.{refl, sym, subst, bit_and, bit_or, slice_get, arith}
use Rattle.std.proofs.Math.Nat.{lt_of_lt_of_le}
use Rattle.std.proofs.lemmas.Nat.{le_or_l}
use Rattle.std.proofs.lemmas.Option.{slice_get_within}
use Rattle.rate_expr.specs.Sets.{Sets, AreSets, Has}
use Rattle.symbolic_nfa.specs.Ends.{ComesBefore, LeadsThrough, EndsThrough}
use Rattle.rate_expr.proofs.MaskMembers.{has_added, has_added_same, has_first, has_or, has_second}
use Rattle.rate_expr.proofs.MaskMembers.{has_zero}
use Rattle.symbolic_nfa.proofs.Lists.{one-at}
use Rattle.rate_expr.proofs.MaskSets.{AreMeeting, below-has, below-more, has-and, has-and_both}

-- a position with followers is one of the positions
comes-below :
    (sets : Sets) (targets position : ℕ) → AreSets sets → ComesBefore sets targets position
    → position < length sets.preds
comes-below sets targets position are (next, (follow, read, has), also) =
    let within : position < length sets.follow =
    slice_get_within sets.follow position follow read in
    subst (λ (n : ℕ). position < n) are.each within

-- of the positions below a bound, those after which one of the targets comes
pub record AreBefore (sets : Sets) (targets bound found : ℕ) : Type 0 where
  pub sound : (position : ℕ) → Has found position → ComesBefore sets targets position
  pub whole : (position : ℕ) → position < bound → ComesBefore sets targets position
      → Has found position

-- none below 0
pub before-none : (sets : Sets) (targets : ℕ) → AreBefore sets targets 0 0
before-none sets targets = record {
  sound = λ position has. absurd (has_zero position has);
  whole = λ position below comes. absurd (omega arith);
}

-- a position comes before the targets exactly where its followers meet them
meets-targets :
    (sets : Sets) (targets at follow : ℕ) → slice_get sets.follow at ≡ Some follow
    → ComesBefore sets targets at → AreMeeting follow targets
meets-targets sets targets at follow read (next, (other, found_there, has), also) =
    let same = one-at sets.follow at at other follow found_there refl read in
    (next, subst (λ (m : ℕ). Has m next) same has, also)

-- one bound further, where its followers meet them
pub before-added :
    (sets : Sets) (targets at found follow : ℕ) → AreBefore sets targets at found
    → slice_get sets.follow at ≡ Some follow → AreMeeting follow targets
    → AreBefore sets targets (at + 1) (bit_or found (2 ^ at))
before-added sets targets at found follow so_far read (next, has, also) =
    let added = bit_or found (2 ^ at) in
    let here : ComesBefore sets targets at = (next, (follow, read, has), also) in
    record {
      sound = λ position has_it. elim (has_added found at position has_it) [
        | inl before ↦ so_far.sound position before
        | inr same ↦ subst (λ (p : ℕ). ComesBefore sets targets p) (sym same) here
      ];
      whole = λ position below comes. elim (below-more position at below) [
        | inr before ↦
            has_first found (2 ^ at) position (so_far.whole position before comes)
        | inl same ↦ subst (λ (p : ℕ). Has added p) (sym same) (has_added_same found at)
      ];
    }

-- and where they do not
pub before-passed :
    (sets : Sets) (targets at found follow : ℕ) → AreBefore sets targets at found
    → slice_get sets.follow at ≡ Some follow → (AreMeeting follow targets → ⊥)
    → AreBefore sets targets (at + 1) found
before-passed sets targets at found follow so_far read none = record {
  sound = so_far.sound;
  whole = λ position below comes. elim (below-more position at below) [
    | inr before ↦ so_far.whole position before comes
    | inl same ↦ absurd (none (meets-targets sets targets at follow read
        (subst (λ (p : ℕ). ComesBefore sets targets p) same comes)))
  ];
}

-- all of them
pub before-all :
    (sets : Sets) (targets bound found : ℕ) → AreSets sets → AreBefore sets targets bound found
    → length sets.preds ≤ bound
    → (position : ℕ) → Has found position ↔ ComesBefore sets targets position
before-all sets targets bound found are all enough position = (
  all.sound position,
  λ comes. all.whole position
      (lt_of_lt_of_le (comes-below sets targets position are comes) enough) comes,
)

-- and none beyond
pub before-below :
    (sets : Sets) (targets bound found : ℕ) → AreSets sets → AreBefore sets targets bound found
    → found < 2 ^ length sets.preds
before-below sets targets bound found are all =
    below-has found (length sets.preds)
    (λ position has. comes-below sets targets position are (all.sound position has))

-- what was found leads to an end, and so far all that ends at once and all that comes before what
-- ended was found
pub record AreEnding (sets : Sets) (mask ending found : ℕ) : Type 0 where
  pub more : ending ≤ found
  pub sound : (position : ℕ) → Has found position → EndsThrough sets mask position
  pub ends : (position : ℕ) → Has mask position → Has sets.last position → Has found position
  pub back : (position : ℕ) → Has mask position → ComesBefore sets ending position
      → Has found position

-- where paths end at once
pub ending-begin : (sets : Sets) (mask : ℕ) → AreEnding sets mask 0 (bit_and mask sets.last)
ending-begin sets mask = record {
  more = omega arith;
  sound = λ position has. (0, has-and mask sets.last position has);
  ends = λ position has last. has-and_both mask sets.last position has last;
  back = λ position has (next, follows, none). absurd (has_zero next none);
}

-- one step further back
pub ending-step :
    (sets : Sets) (mask ending found before : ℕ) → AreEnding sets mask ending found
    → ((position : ℕ) → Has before position ↔ ComesBefore sets found position)
    → AreEnding sets mask found (bit_or found (bit_and mask before))
ending-step sets mask ending found before so_far exact = record {
  more = le_or_l found (bit_and mask before);
  sound = λ position has. elim (has_or found (bit_and mask before) position has) [
    | inl there ↦ so_far.sound position there
    | inr new ↦
        let both = has-and mask before position new in
        let (next, follows, found_there) = (exact position).0 both.1 in
        let (steps, path) = so_far.sound next found_there in
        (suc steps, (both.0, next, follows, path))
  ];
  ends = λ position has last.
      has_first found (bit_and mask before) position (so_far.ends position has last);
  back = λ position has comes.
      has_second found (bit_and mask before) position
      (has-and_both mask before position has ((exact position).1 comes));
}

-- where nothing new was found, all was
ending-whole :
    (sets : Sets) (mask ending : ℕ) → AreEnding sets mask ending ending
    → (steps position : ℕ) → LeadsThrough sets mask position steps → Has ending position
ending-whole sets mask ending all zero position (has, last) = all.ends position has last
ending-whole sets mask ending all (suc steps) position (has, next, follows, path) =
    all.back position has (next, follows, ending-whole sets mask ending all steps next path)

pub ending-all :
    (sets : Sets) (mask ending found : ℕ) → AreEnding sets mask ending found → found ≡ ending
    → (position : ℕ) → Has ending position ↔ EndsThrough sets mask position
ending-all sets mask ending found so_far same position =
    let all = subst (λ (m : ℕ). AreEnding sets mask ending m) same so_far in (
      all.sound position,
      λ (steps, path). ending-whole sets mask ending all steps position path,
    )
