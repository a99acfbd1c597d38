-- The targets along ways that lack free positions of known ones.
use Rattle.std.proofs.Common.{◌≡◌, ℕ, ◌+◌, ◌/◌, ◌%◌, ◌^◌, ◌<◌, ◌≤◌, ◌∙◌, ◌↔◌, ◌⊎◌, List, Some}
use Rattle.std.proofs.Common.{bit_and, length, slice_get, slice_index, ap, arith, sym, subst, inl}
use Rattle.std.proofs.Common.{inr}
use Rattle.std.specs.Int.{bit_at, bit_not, w128}
use Rattle.std.specs.List.{Contains}
use Rattle.std.proofs.lemmas.Bool.{cases_lt}
use Rattle.std.proofs.lemmas.Bool.Decides.{eqb_tells}
use Rattle.std.proofs.lemmas.Option.{same_Some, slice_get_within}
use Rattle.rate_expr.specs.Sets.{Has}
use Rattle.rate_expr.specs.declared.state.State.{State}
use Rattle.rate_expr.specs.declared.state.State.TheVariants.{Initial, At}
use Rattle.rate_expr.proofs.MaskMembers.{has_zero}
use Rattle.rate_expr.proofs.MaskSets.{has-and, has-and_both, same-has}
use Rattle.rate_equal.specs.Free.{CanLack}
use Rattle.rate_equal.specs.Holding.{AreHeld, HasRow}
use Rattle.rate_equal.specs.Narrowed.{AreLost, AreStatesWithin, IsWithin, narrowed, narrowed_state}
use Rattle.rate_equal.specs.Pairs.{mask_of}
use Rattle.rate_equal.specs.PlaceSets.{AddsBlock, HasPlace, KeepsPlaces, block_count}
use Rattle.rate_equal.specs.Reach.{max_reach}
use Rattle.rate_equal.specs.Targets.{AreAlong, HasNarrowed, HasTargets, IsTarget, target}
use Rattle.rate_equal.specs.declared.letters.Letter.{Letter}
use Rattle.rate_equal.specs.declared.pair.Pair.{Pair}
use Rattle.rate_equal.specs.declared.pattern.Position.TheVariants.{First, Second}
use Rattle.rate_equal.proofs.Added.{grown_none}
use Rattle.rate_equal.proofs.PlaceSets.{without}

-- what a state has in common with the ways is in the state
narrowed_less : (ways : ℕ) (state : State) (position : ℕ)
    → Has (mask_of (narrowed_state ways state)) position → Has (mask_of state) position
narrowed_less ways Initial position has = absurd (has_zero position has)
narrowed_less ways (At mask) position has = (has-and mask ways position has).0

-- in one automaton, a letter that lacks what is lost leads along the near ways where one with the
-- same of the new ways leads along these
one_side : (near ways lost letter other : ℕ) (state : State)
    → ((position : ℕ) → Has lost position ↔ (Has near position × (Has ways position → ⊥)))
    → ((position : ℕ) → Has ways position → Has letter position ↔ Has other position)
    → ((position : ℕ) → Has lost position → Has other position → ⊥) → IsWithin (mask_of state) near
    → At (bit_and ways letter) ≡ narrowed_state ways state
    → At (bit_and near other) ≡ narrowed_state ways state
one_side near ways lost letter other state exact alike lacks within same =
    ap At (same-has (bit_and near other) (bit_and ways letter) (λ position. (
      λ has. let (on, there) = has-and near other position has in
          elim (eqb_tells (bit_at ways position) 1) [
            | inl (test, stays) ↦ has-and_both ways letter position stays
                ((alike position stays).1 there)
            | inr (test, gone) ↦ absurd (lacks position ((exact position).1 (on, gone)) there)
          ],
      λ has. let (on, there) = has-and ways letter position has in
          let kept : Has (mask_of (narrowed_state ways state)) position =
          subst (λ (s : State). Has (mask_of s) position) same has in
          has-and_both near other position
          (within position (narrowed_less ways state position kept)) ((alike position on).0 there),
    ))) ∙ same

-- what is near and not lost is on the ways
stays_within : (near ways lost mask : ℕ)
    → ((position : ℕ) → Has lost position ↔ (Has near position × (Has ways position → ⊥)))
    → IsWithin mask near → ((position : ℕ) → Has lost position → Has mask position → ⊥)
    → IsWithin mask ways
stays_within near ways lost mask exact within none position has =
    elim (eqb_tells (bit_at ways position) 1) [
      | inl (test, stays) ↦ stays
      | inr (test, gone) ↦
          absurd (none position ((exact position).1 (within position has, gone)) has)
    ]

module _ (lost : ℕ × ℕ) (first second known start : List ℕ) where
  -- the place is in no row of a position that is lost
  abbrev IsLacking : ℕ → Type 0
  IsLacking place = ((position : ℕ) → Has lost.0 position → HasRow first position place → ⊥)
      × ((position : ℕ) → Has lost.1 position → HasRow second position place → ⊥)

  -- the known targets in the blocks below that lack what is lost were put into the
  -- set, and no others
  pub record IsKeeping (block : ℕ) (places : List ℕ) : Type 0 where
    pub kept : KeepsPlaces start places
    pub more : (place : ℕ) → HasPlace places place
        → HasPlace start place ⊎ (HasPlace known place × IsLacking place)
    pub has : (place : ℕ) → place / 128 < block → HasPlace known place → IsLacking place
        → HasPlace places place

  -- none yet
  pub keeping_begun : IsKeeping 0 start
  keeping_begun = record {
    kept = λ place has. has;
    more = λ place has. inl has;
    has = λ place lt there lacks. absurd (omega (arith, lt));
  }

  module _ (block all losing : ℕ) (fits : all < 2 ^ 128) (fits_losing : losing < 2 ^ 128)
      (is : all ≡ slice_index known block)
      (loses : (position place : ℕ) → Has lost.0 position → place / 128 ≡ block
      → Has all (place % 128) → HasRow first position place → Has losing (place % 128))
      (loses' : (position place : ℕ) → Has lost.1 position → place / 128 ≡ block
      → Has all (place % 128) → HasRow second position place → Has losing (place % 128))
      (only : (place : ℕ) → place / 128 ≡ block → Has losing (place % 128)
      → ((position : ℕ) × Has lost.0 position × HasRow first position place)
      ⊎ ((position : ℕ) × Has lost.1 position × HasRow second position place)) where
    -- those of one block more
    pub keeping_next : (places places' : List ℕ) → IsKeeping block places
        → AddsBlock places places' block (bit_and all (bit_not w128 losing))
        → IsKeeping (block + 1) places'
    keeping_next places places' before adds = record {
      kept = λ place has. (adds place).1 (inl (before.kept place has));
      more = λ place has. elim ((adds place).0 has) [
        | inl was ↦ before.more place was
        | inr (here, bit) ↦
            let (among, none) = (without all losing fits fits_losing (place % 128)).0 bit in inr (
              record {
                bit = subst (λ (m : ℕ). Has m (place % 128))
                    (is ∙ ap (λ (b : ℕ). slice_index known b) (sym here)) among;
              },
              (
                (λ position gone row. none (loses position place gone here among row)),
                λ position gone row. none (loses' position place gone here among row),
              ),
            )
      ];
      has = λ place lt there lacks. elim (cases_lt (place / 128) block) [
        | inl less ↦ (adds place).1 (inl (before.has place less there lacks))
        | inr most ↦
            let here : place / 128 ≡ block = omega (arith, lt, most) in
            let bit : Has all (place % 128) = subst (λ (m : ℕ). Has m (place % 128))
            (ap (λ (b : ℕ). slice_index known b) here ∙ sym is) there.bit in
            (adds place).1 (inr (
              here,
              (without all losing fits fits_losing (place % 128)).1 (
                bit,
                λ loss. elim (only place here loss) [
                  | inl (position, gone, row) ↦ lacks.0 position gone row
                  | inr (position, gone, row) ↦ lacks.1 position gone row
                ],
              ),
            ))
      ];
    }

module _ (letters : List Letter) (near ways lost : ℕ × ℕ) (is_lost : AreLost near ways lost)
    (lack : CanLack letters lost ways) where
  -- so where a letter leads along the ways, one leads along the near ways that lacks what is lost
  lacking_target : (pair : Pair) → AreStatesWithin near pair
      → IsTarget letters ways (narrowed ways pair)
      → (other : Letter) × Contains letters other × (target near other ≡ narrowed ways pair)
      × ((position : ℕ) → Has lost.0 position → Has other.first position → ⊥)
      × ((position : ℕ) → Has lost.1 position → Has other.second position → ⊥)
  lacking_target pair within (letter, c, same) =
      let (other, c', alike, none) = lack letter c in
      let one = one_side near.0 ways.0 lost.0 letter.first other.first pair.first is_lost.0
      (λ position on. alike (First position) on)
      (λ position gone. none (First position) gone) within.0 (ap (λ (p : Pair). p.first) same) in
      let two = one_side near.1 ways.1 lost.1 letter.second other.second pair.second is_lost.1
      (λ position on. alike (Second position) on)
      (λ position gone. none (Second position) gone) within.1
      (ap (λ (p : Pair). p.second) same) in (
        other,
        c',
        (λ j. record { first = one j; second = two j }),
        (λ position gone. none (First position) gone),
        (λ position gone. none (Second position) gone),
      )

  module _ (first second : List ℕ) (pairs : List Pair) (known start : List ℕ)
      (few : length pairs ≤ max_reach) (targets : HasTargets letters near pairs known)
      (held : AreHeld first second pairs (length pairs)) (block : ℕ) (enough : block_count ≤ block)
      (places : List ℕ) (all : IsKeeping lost first second known start block places) where
    -- what is known and lacks what is lost is on the ways
    lacking_within : (place : ℕ) → HasPlace known place
        → IsLacking lost first second known start place
        → (pair : Pair) × (slice_get pairs place ≡ Some pair) × AreStatesWithin ways pair
    lacking_within place there lacks =
        let (pair, found, within) = targets.within place there in
        let lt = slice_get_within pairs place pair found in (
          pair,
          found,
          (
            stays_within near.0 ways.0 lost.0 (mask_of pair.first) is_lost.0 within.0
                (λ position gone has. lacks.0 position gone
                ((held.one place position pair lt found).0 has)),
            stays_within near.1 ways.1 lost.1 (mask_of pair.second) is_lost.1 within.1
                (λ position gone has. lacks.1 position gone
                ((held.two place position pair lt found).0 has)),
          ),
        )

    -- all were put there, and only targets
    pub keeping_added : AreAlong letters ways pairs start pairs places
    keeping_added = record {
      grown = grown_none pairs;
      each = λ pair c. inl c;
      few = few;
      kept = all.kept;
      more = λ place has. elim (all.more place has) [
        | inl was ↦ inl was
        | inr (there, lacks) ↦ inr (lacking_within place there lacks)
      ];
    }

    pub keeping_whole : HasNarrowed letters ways pairs known pairs places
    keeping_whole pair there led =
        let (pair', found', within') = targets.within there.place there.has in
        let within = subst (AreStatesWithin near)
        (same_Some pair' pair (sym found' ∙ there.found)) within' in
        let (other, c, same, none, none') = lacking_target pair within led in
        let known_there = targets.whole other c in
        let lt = slice_get_within pairs known_there.place (target near other) known_there.found in
        record {
          place = known_there.place;
          found = known_there.found ∙ ap Some same;
          has = all.has known_there.place (omega (arith, lt, few, enough)) known_there.has (
            (λ position gone row. none position gone (has-and near.0 other.first position
                ((held.one known_there.place position (target near other) lt known_there.found).1
                row)).1),
            λ position gone row. none' position gone (has-and near.1 other.second position
                ((held.two known_there.place position (target near other) lt known_there.found).1
                row)).1,
          );
        }
