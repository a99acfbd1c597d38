-- What pairs have in common with ways on, and where letters lead along them.
use Rattle.std.proofs.Common.{◌≡◌, ℕ, ◌+◌, ◌*◌, ◌/◌, ◌%◌, ◌^◌, ◌<◌, ◌↔◌, ◌∙◌, List, Some, length}
use Rattle.std.proofs.Common.{slice_get, slice_index, ap, arith, refl, sym, subst, inl, inr}
use Rattle.std.proofs.Common.{bit_and}
use Rattle.std.proofs.lemmas.Option.{same_Some, slice_get_within}
use Rattle.std.specs.Int.{bit_at}
use Rattle.std.proofs.lemmas.Bool.Decides.{eqb_tells}
use Rattle.rate_expr.specs.Sets.{Has}
use Rattle.rate_expr.specs.declared.state.State.{State}
use Rattle.rate_expr.specs.declared.state.State.TheVariants.{Initial, At}
use Rattle.rate_expr.proofs.MaskMembers.{has_zero}
use Rattle.rate_expr.proofs.MaskSets.{has-and, has-and_both, has-below, same-has}
use Rattle.rate_equal.specs.Narrowed.{narrowed, narrowed_state, AreStatesWithin, IsWithin}
use Rattle.rate_equal.specs.Holding.{AreHeld, HasRow}
use Rattle.rate_equal.specs.Pairs.{mask_of}
use Rattle.rate_equal.specs.PlaceSets.{HasPlace}
use Rattle.rate_equal.specs.Targets.{IsTarget, target}
use Rattle.rate_equal.specs.declared.letters.Letter.{Letter}
use Rattle.rate_equal.specs.declared.pair.Pair.{Pair}
use Rattle.rate_equal.proofs.PlaceSets.{bit_place}

-- each place in the set is of a pair within the ways
abbrev pub HasWithin : List Pair → List ℕ → ℕ × ℕ → Type 0
HasWithin pairs places ways = (place : ℕ) → HasPlace places place
    → (pair : Pair) × (slice_get pairs place ≡ Some pair) × AreStatesWithin ways pair

-- a state within the ways is all that it has in common with them
narrowed_same : (ways : ℕ) (state : State) → IsWithin (mask_of state) ways
    → narrowed_state ways state ≡ state
narrowed_same ways Initial within = refl
narrowed_same ways (At mask) within = ap At (same-has (bit_and mask ways) mask (λ position. (
  λ has. (has-and mask ways position has).0,
  λ has. has-and_both mask ways position has (within position has),
)))

-- a state within the wider ways that has no position that is lost is within the ways
within_less : (wider ways lost mask losing bit : ℕ)
    → ((position : ℕ) → Has lost position ↔ (Has wider position × (Has ways position → ⊥)))
    → IsWithin mask wider
    → ((position : ℕ) → Has lost position → Has mask position → Has losing bit)
    → (Has losing bit → ⊥) → IsWithin mask ways
within_less wider ways lost mask losing bit exact within loses none position has =
    elim (eqb_tells (bit_at ways position) 1) [
      | inl there ↦ there.1
      | inr apart ↦
          absurd (none (loses position ((exact position).1 (within position has, apart.1)) has))
    ]

module _ (first second : List ℕ) (pairs : List Pair) (wider : List ℕ) (more ways lost : ℕ × ℕ)
    (block all losing : ℕ) (fits : all < 2 ^ 128) (is : all ≡ slice_index wider block)
    (exact : (position : ℕ)
    → Has lost.0 position ↔ (Has more.0 position × (Has ways.0 position → ⊥)))
    (exact' : (position : ℕ)
    → Has lost.1 position ↔ (Has more.1 position × (Has ways.1 position → ⊥)))
    (held : AreHeld first second pairs (length pairs)) (within : HasWithin pairs wider more)
    (loses : (position place : ℕ) → Has lost.0 position → place / 128 ≡ block
    → Has all (place % 128) → HasRow first position place → Has losing (place % 128))
    (loses' : (position place : ℕ) → Has lost.1 position → place / 128 ≡ block
    → Has all (place % 128) → HasRow second position place → Has losing (place % 128)) where
  -- so a pair within other ways that holds no lost position is within the ways
  pub kept_same : (bit : ℕ) (pair : Pair) → Has all bit → (Has losing bit → ⊥)
      → slice_get pairs (block * 128 + bit) ≡ Some pair → narrowed ways pair ≡ pair
  kept_same bit pair has none found =
      let below : bit < 128 = has-below all 128 bit fits has in
      let here : (block * 128 + bit) / 128 ≡ block = omega arith in
      let rest : (block * 128 + bit) % 128 ≡ bit = omega arith in
      let lt : block * 128 + bit < length pairs =
      slice_get_within pairs (block * 128 + bit) pair found in
      let among : Has all ((block * 128 + bit) % 128) =
      subst (λ (b : ℕ). Has all b) (sym rest) has in
      let (pair', found', states') = within (block * 128 + bit)
      (bit_place wider block all bit fits is has) in
      let states : AreStatesWithin more pair =
      subst (AreStatesWithin more) (same_Some pair' pair (sym found' ∙ found)) states' in
      let one : narrowed_state ways.0 pair.first ≡ pair.first = narrowed_same ways.0 pair.first
      (within_less more.0 ways.0 lost.0 (mask_of pair.first) losing bit exact states.0
      (λ position gone on. subst (λ (b : ℕ). Has losing b) rest
      (loses position (block * 128 + bit) gone here among
      ((held.one (block * 128 + bit) position pair lt found).0 on))) none) in
      let two : narrowed_state ways.1 pair.second ≡ pair.second = narrowed_same ways.1 pair.second
      (within_less more.1 ways.1 lost.1 (mask_of pair.second) losing bit exact' states.1
      (λ position gone on. subst (λ (b : ℕ). Has losing b) rest
      (loses' position (block * 128 + bit) gone here among
      ((held.two (block * 128 + bit) position pair lt found).0 on))) none) in
      (λ j. record { first = one j; second = two j })

-- where all positions that a mask has on the ways are on others, those that it has on both are
-- those on the ways
common_on : (ways wider met : ℕ)
    → ((position : ℕ) → Has ways position → Has met position → Has wider position)
    → bit_and (bit_and wider met) ways ≡ bit_and ways met
common_on ways wider met within =
    same-has (bit_and (bit_and wider met) ways) (bit_and ways met) (λ position. (
      λ has. let both = has-and (bit_and wider met) ways position has in
          has-and_both ways met position both.1 (has-and wider met position both.0).1,
      λ has. let both = has-and ways met position has in
          has-and_both (bit_and wider met) ways position
          (has-and_both wider met position (within position both.0 both.1) both.1) both.0,
    ))

-- so where a letter leads along others, narrowed to the ways, is where it leads along these, if it
-- has no position that is on these alone
pub narrowed_target : (ways near : ℕ × ℕ) (letter : Letter)
    → ((position : ℕ) → Has ways.0 position → Has letter.first position → Has near.0 position)
    → ((position : ℕ) → Has ways.1 position → Has letter.second position → Has near.1 position)
    → narrowed ways (target near letter) ≡ target ways letter
narrowed_target ways near letter within within' =
    let one = ap At (common_on ways.0 near.0 letter.first within) in
    let two = ap At (common_on ways.1 near.1 letter.second within') in
    (λ j. record { first = one j; second = two j })

-- where a letter leads is within the ways
pub target_within : (ways : ℕ × ℕ) (letter : Letter) → AreStatesWithin ways (target ways letter)
target_within ways letter = (
  λ position on. (has-and ways.0 letter.first position on).0,
  λ position on. (has-and ways.1 letter.second position on).0,
)

-- so is each target
pub is_target_within : (letters : List Letter) (ways : ℕ × ℕ) (pair : Pair)
    → IsTarget letters ways pair → AreStatesWithin ways pair
is_target_within letters ways pair (letter, c, same) =
    subst (AreStatesWithin ways) same (target_within ways letter)

-- what a state has in common with the ways is within them
narrowed_state_within : (ways : ℕ) (state : State)
    → IsWithin (mask_of (narrowed_state ways state)) ways
narrowed_state_within ways Initial = λ position has. absurd (has_zero position has)
narrowed_state_within ways (At mask) = λ position has. (has-and mask ways position has).1

pub narrowed_within : (ways : ℕ × ℕ) (pair : Pair) → AreStatesWithin ways (narrowed ways pair)
narrowed_within ways pair =
    (narrowed_state_within ways.0 pair.first, narrowed_state_within ways.1 pair.second)
