-- That all targets are found, by letters, and by those along other ways.
use Rattle.std.proofs.Common.{◌≡◌, ℕ, ◌<◌, ◌∙◌, ◌^◌, ◌↔◌, ◌⊎◌, List, Some, bit_and, slice_get, ap}
use Rattle.std.proofs.Common.{arith, sym, subst, inl, inr}
use Rattle.std.proofs.lemmas.Bool.Decides.{eqb_tells}
use Rattle.std.proofs.lemmas.Option.{slice_get-get_or}
use Rattle.std.specs.Int.{bit_at}
use Rattle.std.specs.List.{Contains}
use Rattle.rate_expr.specs.Sets.{Has}
use Rattle.rate_expr.proofs.MaskSets.{and-none, and-some_first}
use Rattle.rate_equal.specs.Added.{HasPair}
use Rattle.rate_equal.specs.Narrowed.{AreStatesWithin, narrowed}
use Rattle.rate_equal.specs.PlaceSets.{HasPlace}
use Rattle.rate_equal.specs.Targets.{AreAlong, AreFound, HasTargets, HasThose, IsTarget, target}
use Rattle.rate_equal.specs.declared.letters.Letter.{Letter}
use Rattle.rate_equal.specs.declared.pair.Pair.{Pair}
use Rattle.rate_equal.proofs.Added.{pair_kept}
use Rattle.rate_equal.proofs.Narrowed.{narrowed_target}

-- a letter stands at some place
pub stands_at : (letters : List Letter) (letter : Letter) → Contains letters letter
    → (place : ℕ) × (slice_get letters place ≡ Some letter)
stands_at letters letter (k, lt, at) = (k, slice_get-get_or letters k letter lt ∙ ap Some at)

-- all were added from none on
pub found_all : (letters : List Letter) (ways : ℕ × ℕ) (old new : List Pair) (held places : List ℕ)
    → ((place : ℕ) → HasPlace held place → ⊥) → AreAlong letters ways old held new places
    → ((letter : Letter) → Contains letters letter → HasPair new places (target ways letter))
    → AreFound letters ways old new places
found_all letters ways old new held places none added whole = record {
  grown = added.grown;
  each = added.each;
  few = added.few;
  targets = record {
    within = λ place has. elim (added.more place has) [
      | inl was ↦ absurd (none place was)
      | inr is ↦ is
    ];
    whole = whole;
  };
}

-- masks meet in a position, or have none in common
meet_or_not : (gained met : ℕ) → gained < 2 ^ 128
    → ((position : ℕ) × Has gained position × Has met position)
    ⊎ ((position : ℕ) → Has gained position → Has met position → ⊥)
meet_or_not gained met fits = elim (eqb_tells (bit_and gained met) 0) [
  | inl (test, none) ↦ inr (λ position has has'. and-none gained met none (position, has, has'))
  | inr (test, some) ↦ inl (and-some_first gained met (omega arith) fits)
]

-- what is not gained is near
kept_near : (ways near gained met : ℕ)
    → ((position : ℕ) → Has gained position ↔ (Has ways position × (Has near position → ⊥)))
    → ((position : ℕ) → Has gained position → Has met position → ⊥)
    → (position : ℕ) → Has ways position → Has met position → Has near position
kept_near ways near gained met exact none position on has =
    elim (eqb_tells (bit_at near position) 1) [
      | inl (test, one) ↦ one
      | inr (test, apart) ↦ absurd (none position ((exact position).1 (on, apart)) has)
    ]

module _ (letters : List Letter) (ways near gained : ℕ × ℕ) (fits : gained.0 < 2 ^ 128)
    (fits' : gained.1 < 2 ^ 128)
    (exact : (position : ℕ)
    → Has gained.0 position ↔ (Has ways.0 position × (Has near.0 position → ⊥)))
    (exact' : (position : ℕ)
    → Has gained.1 position ↔ (Has ways.1 position × (Has near.1 position → ⊥)))
    (old mid new : List Pair) (known left between places : List ℕ)
    (targets : HasTargets letters near old known)
    (narrows : (pair : Pair) → HasPair old known pair → IsTarget letters ways (narrowed ways pair)
    → HasPair mid between (narrowed ways pair))
    (in_left : (place position : ℕ) (letter : Letter) → slice_get letters place ≡ Some letter
    → Has gained.0 position → Has letter.first position → HasPlace left place)
    (in_left' : (place position : ℕ) (letter : Letter) → slice_get letters place ≡ Some letter
    → Has gained.1 position → Has letter.second position → HasPlace left place)
    (added : AreAlong letters ways mid between new places)
    (those : HasThose letters (HasPlace left) ways new places) where
  -- a letter has a position that is gained, and is left, or leads to what its target has in
  -- common with the ways
  pub found_near : (letter : Letter) → Contains letters letter
      → HasPair new places (target ways letter)
  found_near letter c = let (place, at) = stands_at letters letter c in
      elim (meet_or_not gained.0 letter.first fits) [
        | inl (position, on, met) ↦ those place letter (in_left place position letter at on met) at
        | inr none ↦ elim (meet_or_not gained.1 letter.second fits') [
          | inl (position, on, met) ↦ those place letter
              (in_left' place position letter at on met) at
          | inr none' ↦
              let one : narrowed ways (target near letter) ≡ target ways letter =
              narrowed_target ways near letter
              (kept_near ways.0 near.0 gained.0 letter.first exact none)
              (kept_near ways.1 near.1 gained.1 letter.second exact' none') in
              pair_kept (IsTarget letters ways) (AreStatesWithin ways) mid new between places
              (target ways letter) added (subst (λ q. HasPair mid between q) one
              (narrows (target near letter) (targets.whole letter c) (letter, c, sym one)))
        ]
      ]
